-- The last key with a message for it alone.
use Rattle.std.specs.Prelude.{◌≡◌, ℕ, true, false, if◌then◌else◌, List, Option, Some, None}
use Rattle.pathkey.specs.Keys.{is_below}
use Rattle.message.specs.declared.msg.Msg.{Msg}
use Rattle.message.specs.PointKeys.{has_point}
use Rattle.message.specs.Ranges.{before, within, later_key}

-- the later of two keys, or the only one
abbrev pub later_point : Option (List ℕ) → Option (List ℕ) → Option (List ℕ)
later_point None b = b
later_point (Some p) None = Some p
later_point (Some p) (Some q) = Some (later_key p q)

-- the key, if it is from `lo` up to, but excluding, `hi`
abbrev pub point_within : Option (List ℕ) → List ℕ → Option (List ℕ) → Option (List ℕ)
point_within None lo hi = None
point_within (Some q) lo hi = if within lo hi q then Some q else None

module _ {U V : Type 0} where
  -- this is the last key from `lo` up to, but excluding, `hi` that has a message for it alone; or none, if none has
  abbrev pub IsLastPoint : List (Msg U V) → List ℕ → Option (List ℕ) → Option (List ℕ) → Type 0
  IsLastPoint ms lo hi None = (k : List ℕ) → within lo hi k ≡ true → has_point ms k ≡ false
  IsLastPoint ms lo hi (Some q) = (within lo hi q ≡ true) × (has_point ms q ≡ true) × ((k : List ℕ) → before q k ≡ true → is_below k hi ≡ true → has_point ms k ≡ false)
