-- Disjoint ranges, each as its low end and its high end, and the keys that they contain.
use Rattle.std.specs.Prelude.{◌≡◌, ℕ, ◌+◌, ◌≤◌, Bool, true, false, ◌||◌, List, [], ◌∷◌, map, length, Option, Some, None}
use Rattle.std.specs.List.{AllByRecursion}
use Rattle.std.specs.Map.{keys_of}
use Rattle.pathkey.specs.Keys.{is_below}
use Rattle.message.specs.declared.msg.Msg.{Msg}
use Rattle.message.specs.declared.msg.Msg.TheVariants.{DelRange}
use Rattle.message.specs.Ranges.{before, within}

abbrev pub Span : Type 0
Span = List ℕ × Option (List ℕ)

-- one of the ranges contains the key
abbrev pub covered : List Span → List ℕ → Bool
covered [] k = false
covered (e ∷ rs) k = within e.0 e.1 k || covered rs k

-- an end is before the key
abbrev pub ends_before : Option (List ℕ) → List ℕ → Bool
ends_before None k = false
ends_before (Some h) k = before h k

-- each range begins after the end
abbrev pub BeginBehind : Option (List ℕ) → List Span → Type 0
BeginBehind h rs = AllByRecursion (λ q. ends_before h q ≡ true) (keys_of rs)

-- each range contains a key, and ends before the later ones begin: no two of them overlap or touch
abbrev pub AreApart : List Span → Type 0
AreApart [] = Unit {0}
AreApart (e ∷ rs) = (is_below e.0 e.1 ≡ true) × BeginBehind e.1 rs × AreApart rs

-- such ranges, and how many there are
pub record AreRanges (rs : List Span) (count : ℕ) : Type 0 where
  pub apart : AreApart rs
  pub counted : count ≡ length rs

-- the ranges cover what they covered, and the keys of one range more
abbrev pub CoversMore : List ℕ → Option (List ℕ) → List Span → List Span → Type 0
CoversMore lo hi old new = (k : List ℕ) → covered new k ≡ (within lo hi k || covered old k)

-- the first range was moved out of a list and inserted into the others
pub record TakesFirst (from left old new : List Span) : Type 0 where
  pub first : Span
  pub parts : from ≡ first ∷ left
  pub covers : CoversMore first.0 first.1 old new
  pub bound : length new ≤ length old + 1

-- the ranges as messages
abbrev pub range_msgs : {U V : Type 0} → List Span → List (Msg U V)
range_msgs rs = map (λ e. DelRange (record { lo = e.0; hi = e.1 })) rs
