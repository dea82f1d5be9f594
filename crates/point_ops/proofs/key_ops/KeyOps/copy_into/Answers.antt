use Rattle.std.proofs.Common.{◌∙◌, ap, sym, drop, map}
use Rattle.message.specs.declared.msg.Msg.TheVariants as msg
use Rattle.point_ops.specs.Changes.{run_msgs}
use Rattle.point_ops.specs.KeyOps.{changes_in}
use Rattle.point_ops.proofs.Updates.{edits_msgs}
use Rattle.point_ops.proofs.key_ops.KeyOps.copy_into.Goals as goal

pub returns-in-Edits : goal.returns-in-Edits
returns-in-Edits g c =
    let n = c.args.consumed in
    let k = c.args.key.now in
    let us = c.in-Edits.updates.items in
    let is = sym c.self.view_is ∙ ap (λ w. changes_in w) c.in-Edits.is in
    let left = ap (λ t. map (msg.Edit k) t) (c.later.ensures ∙ ap (λ t. drop n t) c.deref.ensures.value) ∙ sym (edits_msgs g.row.U-Value.Denot k n us) ∙ ap (λ t. run_msgs k (drop n t)) (sym is) in
    rw left at c.copy_msgs.ensures
