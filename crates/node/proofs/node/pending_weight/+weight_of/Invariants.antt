use Rattle.std.proofs.Common.{take}
use Rattle.node.specs.Pure.{inner}
use Rattle.node.specs.See.{seen_slots}
use Rattle.node.specs.Weights.{IsWeight}
use Rattle.node.proofs.node.pending_weight.+weight_of.Given as goal

abbrev pub invariant-loop-slot : goal.invariant-loop-slot
invariant-loop-slot g l = IsWeight l.weight (inner (seen_slots (take l.slot-index l.slot-items)))
