use Rattle.std.proofs.Common.{◌≡◌, map, None, ap, ◌∙◌, subst}
use Rattle.node.specs.Appended.{batches_by_slot, HaveTaken}
use Rattle.node.specs.Pure.{slots}
use Rattle.node.specs.Searchable.{see_list}
use Rattle.node.specs.See.{seen_slots}
use Rattle.node.proofs.Sinking.{pending-taken}
use Rattle.node.proofs.node.append.append_copies.Goals as goal

pub returns-clause-pieces : goal.returns-clause-pieces
returns-clause-pieces g c =
    let means = g.U.Update.means in
    let ss = seen_slots c.args.slots.now in
    let new = seen_slots c.push_batches.new.slots in
    let batches = map see_list c.as_mut_slice.result.now in
    let same : seen_slots c.reserve_each.new.slots ≡ ss = ap slots c.reserve_each.ensures.same in
    let parts : batches ≡ batches_by_slot None c.args.msgs.now ss = ap (map see_list) c.as_mut_slice.ensures.value ∙ c.in_ok-batches_by_slot.ensures in
    pending-taken means c.args.msgs.now ss new (subst (λ p. HaveTaken means ss p new) parts (subst (λ x. HaveTaken means x batches new) same c.push_batches.ensures.taken))
