use Rattle.std.proofs.Common.{◌≡◌, take, map}
use Rattle.node.specs.See.{see_slot}
use Rattle.node.proofs.node.copy.copy_slots.Given as goal

abbrev pub invariant-loop-slot : goal.invariant-loop-slot
invariant-loop-slot g l = map see_slot l.copy.items ≡ map see_slot (take l.slot-index l.slots)
