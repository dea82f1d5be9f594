use Rattle.std.proofs.Common.{subst}
use Rattle.std.specs.Option.{option_copied}
use Rattle.message.specs.Effects.{Takes}
use Rattle.message.specs.Cuts.{pieces}
use Rattle.message.proofs.Composing.{takes-instead}
use Rattle.split_merge.proofs.lower_root.slot_over.Goals as goal

pub returns : goal.returns
returns g c =
    let means = g.U.Update.means in
    let slot = c.args.slot.now in
    let part = c.in_ok-part.part.0 in
    let new = c.flush_all.new.to.0 in
    let own = pieces slot.lo (option_copied c.args.hi) c.args.list.now.0 in
    let took = subst (λ old. Takes means old part new) c.in_ok-pending.ensures c.in_ok-flush_all.ensures.ok in
    (c.in_ok-lo.ensures, takes-instead means slot.pending.0 own part new c.in_ok-part.ensures took, c.in_ok-child.ensures, tt)
