use Rattle.std.proofs.Common.{◌∙◌, ap, sym, drop, arith}
use Rattle.point_ops.specs.KeyOps.{changes_in}
use Rattle.point_ops.proofs.Updates.{left_updates}
use Rattle.point_ops.proofs.key_ops_repr.KeyOpsRepr.drop_oldest.Goals as goal

pub returns-clause-dropped : goal.returns-clause-dropped
returns-clause-dropped g c h =
    let us = c.in-Edits.updates.items in
    let few = rw c.in-Edits.is at h in
    left_updates g.row.U-Value.Denot us c.drop_first.new.updates.items c.args.consumed c.len.result (omega (arith, c.len.ensures, c.in-Edits.updates.ok.0)) (c.drop_first.ensures ∙ ap (λ n. drop n us) c.min-count.ensures) few
    ∙ ap (λ w. drop c.args.consumed (changes_in w)) (sym c.in-Edits.is)
