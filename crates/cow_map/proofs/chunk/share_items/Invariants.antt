use Rattle.std.proofs.Common.{◌≡◌, take}
use Rattle.cow_map.proofs.chunk.share_items.Given as goal

abbrev pub invariant-loop-item : goal.invariant-loop-item
invariant-loop-item g l = l.shared.items ≡ take l.item-index l.items
