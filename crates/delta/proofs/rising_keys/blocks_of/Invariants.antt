use Rattle.std.proofs.Common.{take}
use Rattle.delta.specs.Changed.{AreFound}
use Rattle.delta.proofs.rising_keys.blocks_of.Given as goal

abbrev pub invariant-loop-key : goal.invariant-loop-key
invariant-loop-key l = AreFound (take l.key-index l.keys) l.blocks.items
