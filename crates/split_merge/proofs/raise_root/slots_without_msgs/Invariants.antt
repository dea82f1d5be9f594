use Rattle.std.proofs.Common.{◌≡◌, take, map}
use Rattle.node.specs.See.{see_slot}
use Rattle.split_merge.specs.Raised.{hollow}
use Rattle.split_merge.proofs.raise_root.slots_without_msgs.Given as goal

abbrev pub invariant-loop-slot : goal.invariant-loop-slot
invariant-loop-slot g l = map see_slot l.copy.items ≡ map hollow (take l.slot-index l.slots)
