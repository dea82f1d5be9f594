use Rattle.std.proofs.Common.{◌≡◌, ◌+◌, ℕ, false, List, Option}
use Rattle.std.specs.Option.{option_copied, is_some}
use Rattle.message.specs.Stretches.{all_ends}
use Rattle.pending.specs.Ahead.{StandsAt, entries_left}
use Rattle.scan.specs.Merging.{AreAll, LeavesGaps}
use Rattle.scan.proofs.Ahead.{ahead}
use Rattle.scan.proofs.Merging.{IsMerging}
use Rattle.scan.proofs.apply_pass.apply_pass.Given as goal

abbrev pub invariant-points : goal.invariant-points
invariant-points g l = (l.ahead.0 ≡ l.list.0) × (here : List ℕ) × StandsAt here l.ahead × (is_some l.ahead.1 ≡ false → here ≡ l.at) × ((child : List ℕ → Option g.row.U-Value.Denot) → AreAll child l.from (option_copied l.end) l.fn.below.items → LeavesGaps g.U.Update.means l.list.0 child l.from (option_copied l.end) → IsMerging g.U.Update.means l.list.0 child l.from (option_copied l.end) l.limit l.fn.below.items l.fn.pairs.items here l.pairs.items l.rest.items)

abbrev pub decreases-points : goal.decreases-points
decreases-points g l = entries_left l.ahead.1 + ahead l.at (all_ends l.list.0)
