use Rattle.std.proofs.Common.{◌≡◌, take}
use Rattle.cow_map.proofs.chunks.share_rows.Given as goal

abbrev pub invariant-loop-row : goal.invariant-loop-row
invariant-loop-row g l = l.shared.items ≡ take l.row-index l.rows
