use Rattle.std.proofs.Common.{◌≤◌, ◌∙◌, ap, subst}
use Rattle.flush.specs.Sunk.{free_pieces}
use Rattle.flush.proofs.Moves.{searchable_sunk, sunk_then}
use Rattle.flush.proofs.inner.push_front.Goals as goal

pub push_points-requires : goal.push_points-requires
push_points-requires g c = searchable_sunk g.U.Update.means c.args.room c.in-Did.first c.args.slot.now.pending.0 c.args.slot.now.child.value c.push_copies-reply.new.slot.child.value c.in-Did.ensures.sunk c.requires

pub returns-in-Ok-clause-sunk : goal.returns-in-Ok-clause-sunk
returns-in-Ok-clause-sunk g c =
    let room = c.args.room in
    let slot = c.push_copies-reply.new.slot in
    let few : c.in-Ok.count ≤ free_pieces room slot.child.value = subst (λ z. c.in-Ok.count ≤ z) (c.free_pieces-most.ensures ∙ ap (free_pieces room) c.deref.ensures) c.in-Ok.ensures.within in
    sunk_then g.U.Update.means room c.in-Did.first c.in-Ok.count c.args.slot.now.pending.0 slot.pending.0 c.push_points.new.list.0 c.args.slot.now.child.value slot.child.value c.push_points.new.child.value c.in-Did.ensures.sunk c.in-Did.ensures.left few c.in-Ok.ensures.moved
