-- The state of a search among sorted keys.
use Rattle.std.specs.Prelude.{◌≡◌, ◌<◌, ◌≤◌, ℕ, true, List, length, take}
use Rattle.std.specs.declared.cmp.Ordering.TheVariants.{Less, Greater}
use Rattle.std.specs.Ordering.{is_le}
use Rattle.std.specs.List.{slice_index_or}
use Rattle.pathkey.specs.Order.{by_bytes}
use Rattle.cow_map.specs.declared.search.Rest.{Rest}

-- the indexes from low up to high remain: the keys before them are before k and those after them are after it; of their first
-- `below` bytes those from low on have k's or more, and of their first `above` ones those up to high have k's or less
pub record IsLeft {Y : Type 0} (f : Y → List ℕ) (xs : List Y) (k : List ℕ) (low high below above : ℕ) : Type 0 where
  pub order : low ≤ high
  pub bound : high ≤ length xs
  pub before : (j : ℕ) (d : Y) → j < low → by_bytes (f (slice_index_or xs j d)) k ≡ Less
  pub behind : (j : ℕ) (d : Y) → high ≤ j → j < length xs → by_bytes (f (slice_index_or xs j d)) k ≡ Greater
  pub under : (j : ℕ) (d : Y) → low ≤ j → j < length xs → is_le (by_bytes (take below k) (take below (f (slice_index_or xs j d)))) ≡ true
  pub over : (j : ℕ) (d : Y) → j < high → is_le (by_bytes (take above (f (slice_index_or xs j d))) (take above k)) ≡ true

-- the same for entries
abbrev pub IsRest : {X : Type 0} → List ℕ → List (List ℕ × X) → Rest → Type 0
IsRest k es r = IsLeft (λ e. e.0) es k r.low r.high r.below r.above
