-- A range that begins and ends within one chunk.
use Rattle.std.specs.Prelude.{ℕ, ◌+◌, ◌-◌, ◌<◌, ◌≤◌, List, [], ◌++◌, length, take, drop}
use Rattle.std.specs.List.{slice_index_or}
use Rattle.pathkey.specs.declared.range.KeyRange.{KeyRange}
use Rattle.cow_map.specs.Places.{AreBefore, AreFrom, AreBelow, AreBeyond}
use Rattle.cow_map.specs.CowMap.{joined}

-- of all entries in chunks, those in the range are the ones from index i up to j of the chunk at index n, which has others too
pub record IsSpan {X : Type 0} (range : KeyRange) (n i j : ℕ) (rs : List (List (List ℕ × X))) : Type 0 where
  pub row : n < length rs
  pub order : i ≤ j
  pub bound : j ≤ length (slice_index_or rs n [])
  pub others : j - i < length (slice_index_or rs n [])
  pub before : AreBefore range.lo (joined (take n rs) ++ take i (slice_index_or rs n []))
  pub reach : AreFrom range.lo (drop i (slice_index_or rs n []) ++ joined (drop (n + 1) rs))
  pub below : AreBelow range.hi (take (j - i) (drop i (slice_index_or rs n [])))
  pub beyond : AreBeyond range.hi (drop j (slice_index_or rs n []) ++ joined (drop (n + 1) rs))
