use Rattle.std.proofs.Common.{take}
use Rattle.reference.specs.Pairs.{pairs_of}
use Rattle.shell.specs.Listings.{AreLines}
use Rattle.shell.proofs.entry_lines.lines_of.Given as goal

abbrev pub invariant-loop-kind : goal.invariant-loop-kind
invariant-loop-kind l = AreLines l.lines (pairs_of (take l.kind-index l.entries))
