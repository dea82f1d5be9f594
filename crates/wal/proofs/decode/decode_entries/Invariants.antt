use Rattle.std.proofs.Common.{◌≡◌, ◌++◌, length}
use Rattle.wal.specs.Entries.{body_of}
use Rattle.wal.proofs.Bodies.{Continues}
use Rattle.wal.proofs.decode.decode_entries.Given as goal

abbrev pub invariant-loop-rest : goal.invariant-loop-rest
invariant-loop-rest l = record { so_far : l.body ≡ body_of l.changes.items ++ l.rest; others : Continues l.body l.rest }

abbrev pub decreases-loop-rest : goal.decreases-loop-rest
decreases-loop-rest l = length l.rest
