use Rattle.volume.specs.Walks.{ReadsNumbers}
use Rattle.volume.proofs.walk.with_numbers.Given as goal

-- the blocks so far are the pairs that were passed
abbrev pub invariant-loop-key : goal.invariant-loop-key
invariant-loop-key l = ReadsNumbers l.yielded l.blocks.items
