use Rattle.volume.specs.Walks.{ReadsPaths}
use Rattle.volume.proofs.walk.with_paths.Given as goal

-- the entries so far are the pairs that were passed
abbrev pub invariant-loop-key : goal.invariant-loop-key
invariant-loop-key l = ReadsPaths l.yielded l.entries.items
