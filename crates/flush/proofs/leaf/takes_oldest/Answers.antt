use Rattle.std.proofs.Common.{ap, sym, ◌∙◌, ◌≡◌, ◌<◌, length, subst, arith}
use Rattle.message.specs.Oldest.{first_given}
use Rattle.flush.proofs.OldestOf.{first_of}
use Rattle.node.specs.Pure.{leaf}
use Rattle.node.specs.Searchable.{IsSearchable}
use Rattle.node.specs.See.{see}
use Rattle.flush.proofs.LeafFlush.{place_is}
use Rattle.flush.proofs.leaf.takes_oldest.Goals as goal

pub has_room-requires : goal.has_room-requires
has_room-requires g c =
    let ec : leaf c.as_slice.result.now ≡ c.args.slot.now.child.value = ap leaf c.as_slice.ensures.value ∙ ap see (sym c.in-Leaf.is) ∙ c.body.ensures ∙ c.deref.ensures in
    subst IsSearchable (sym ec) c.requires

pub returns-in-Leaf : goal.returns-in-Leaf
returns-in-Leaf g c = λ t.
    let ms = c.args.slot.now.pending.0 in
    let ec : leaf c.as_slice.result.now ≡ c.args.slot.now.child.value = ap leaf c.as_slice.ensures.value ∙ ap see (sym c.in-Leaf.is) ∙ c.body.ensures ∙ c.deref.ensures in
    let some : 0 < length ms = omega (arith, c.len.ensures) in
    let o = first_of ms some in
    place_is g.U.Update.means c.args.most ms o.1 o.0 c.as_slice.result.now c.args.slot.now.child.value o.2 ec (c.has_room.ensures t o.0 (sym (c.oldest_created_key-given.ensures ∙ ap first_given o.2)))
