use Rattle.std.proofs.Common.{◌≡◌, ◌+◌, drop, length}
use Rattle.cow_map.specs.CowMap.{joined}
use Rattle.cow_map.proofs.chunks.count_entries.Given as goal

abbrev pub invariant-loop-row : goal.invariant-loop-row
invariant-loop-row g l = l.count + length (joined (drop l.row-index l.rows)) ≡ length (joined l.rows)
