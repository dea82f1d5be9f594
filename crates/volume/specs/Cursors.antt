-- The position of a walk through the pairs of a tree. f is any function from keys to values, for example the values of a
-- tree.
use Rattle.std.specs.Prelude.{ℕ, Bool, false, List, Option, Some, None}
use Rattle.message.specs.Ranges.{before}
use Rattle.pathkey.specs.declared.range.KeyRange.{KeyRange}
use Rattle.scan.specs.Pairs.{AreAhead, IsGiven}

module _ {V : Type 0} where
  -- the pairs are the next ones at or after the range; if its first pair was taken, they are those after that
  abbrev pub StandsAt : (List ℕ → Option V) → KeyRange → Option (List ℕ × V) → Bool → List (List ℕ × V) → Type 0
  StandsAt f r None all ps = AreAhead f r.lo r.hi all ps
  StandsAt f r (Some p) all ps = IsGiven f r.lo r.hi (Some p) all ps

  -- the first pair was taken, and is before the key
  abbrev pub is_passed : Option (List ℕ × V) → List ℕ → Bool
  is_passed None k = false
  is_passed (Some p) k = before p.0 k
