use Rattle.std.proofs.Common.{◌≤◌, ◌∙◌, ap, subst}
use Rattle.flush.specs.Sunk.{free_pieces}
use Rattle.flush.proofs.Moves.{moved_sunk}
use Rattle.flush.proofs.inner.push_oldest.Goals as goal

pub returns-clause-sunk : goal.returns-clause-sunk
returns-clause-sunk g c =
    let room = c.args.room in
    let slot = c.args.slot.now in
    let few : c.in-Ok.count ≤ free_pieces room slot.child.value = subst (λ z. c.in-Ok.count ≤ z) (c.free_pieces-most.ensures ∙ ap (free_pieces room) c.deref.ensures) c.in-Ok.ensures.within in
    moved_sunk g.U.Update.means room c.in-Ok.count slot.pending.0 c.push_points.new.list.0 slot.child.value c.push_points.new.child.value c.if-count-eq0.false few c.in-Ok.ensures.moved
