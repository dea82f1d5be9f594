use Rattle.std.specs.Option.{option_copied}
use Rattle.scan.proofs.LeafWalk.{IsTaken}
use Rattle.scan.proofs.leaf.push_entries.Given as goal

abbrev pub invariant-entries : goal.invariant-entries
invariant-entries g l = IsTaken l.entries l.lo (option_copied l.fn.hi) l.limit l.i l.fn.pairs.items l.pairs.items
