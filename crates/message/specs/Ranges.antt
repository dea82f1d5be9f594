-- Ends of ranges of keys.
use Rattle.std.specs.Prelude.{ℕ, Bool, true, false, List, ◌&&◌, Option, Some, None, if◌then◌else◌}
use Rattle.std.specs.Ordering.{is_lt, is_le}
use Rattle.pathkey.specs.Order.{by_bytes}
use Rattle.pathkey.specs.Keys.{is_below}

-- a stands at or before b
abbrev pub reaches : List ℕ → List ℕ → Bool
reaches a b = is_le (by_bytes a b)

-- a stands before b
abbrev pub before : List ℕ → List ℕ → Bool
before a b = is_lt (by_bytes a b)

-- k lies from lo up to and without hi
abbrev pub within : List ℕ → Option (List ℕ) → List ℕ → Bool
within lo hi k = reaches lo k && is_below k hi

-- the later of two keys
abbrev pub later_key : List ℕ → List ℕ → List ℕ
later_key a b = if before a b then b else a

-- the earlier of two ends
abbrev pub earlier_end : Option (List ℕ) → Option (List ℕ) → Option (List ℕ)
earlier_end None b = b
earlier_end (Some a) None = Some a
earlier_end (Some a) (Some b) = Some (if before a b then a else b)

-- the end a stands at or before the end b
abbrev pub ends_within : Option (List ℕ) → Option (List ℕ) → Bool
ends_within a None = true
ends_within None (Some b) = false
ends_within (Some a) (Some b) = reaches a b
