-- The state of a search in strides.
use Rattle.std.specs.Prelude.{◌≡◌, ◌≤◌, ℕ, Bool, true, false, List, length}
use Rattle.std.specs.List.{AllWithin}
use Rattle.std.specs.List.Sorted.{IsPartitionedBy}
use Rattle.cow_map.specs.declared.strides.SearchWindow.{SearchWindow}

-- if no element that satisfies the predicate is after one that does not: those before low do, and those from high on do not
pub record IsBetween {X : Type 0} (p : X → Bool) (xs : List X) (low high : ℕ) : Type 0 where
  pub below : IsPartitionedBy p xs → AllWithin (λ y. p y ≡ true) xs 0 low
  pub above : IsPartitionedBy p xs → AllWithin (λ y. p y ≡ false) xs high (length xs)

-- the indexes are within that many elements
pub record IsWithin (s : SearchWindow) (n : ℕ) : Type 0 where
  pub order : s.low ≤ s.high
  pub bound : s.high ≤ n
