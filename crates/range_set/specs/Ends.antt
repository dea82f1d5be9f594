-- A range that is inserted among others: the ranges that overlap its ends or touch it.
use Rattle.std.specs.Prelude.{◌≡◌, ◌⊎◌, ℕ, true, false, not, ◌||◌, List, [], ◌∷◌, take, drop, Option, Some, None, IfSome}
use Rattle.std.specs.List.{filter, slice_get}
use Rattle.std.specs.Option.{option_map, option_and_then}
use Rattle.std.specs.BTreeMap.{insert_entry}
use Rattle.pathkey.specs.Keys.{is_below, is_in}
use Rattle.pathkey.specs.Order.{by_bytes}
use Rattle.pathkey.specs.declared.range.KeyRange.{KeyRange}
use Rattle.message.specs.Ranges.{reaches, before, within, ends_within}
use Rattle.message.specs.Stretches.{ahead_of, is_key}
use Rattle.cow_map.specs.Places.{last_of, place_past}
use Rattle.range_set.specs.Disjoint.{Span, covered, ends_before, AreApart, CoversMore}

-- each range that begins before the key ends before it
abbrev pub EndBefore : List ℕ → List Span → Type 0
EndBefore k [] = Unit {0}
EndBefore k (e ∷ rs) = (before e.0 k ≡ true → ends_before e.1 k ≡ true) × EndBefore k rs

-- no range contains the end, or begins there
abbrev pub IsFree : List Span → Option (List ℕ) → Type 0
IsFree rs hi = IfSome hi (λ h. covered rs h ≡ false)

-- the ranges contain the keys from lo up to but excluding hi
abbrev pub AreHeld : List ℕ → Option (List ℕ) → List Span → Type 0
AreHeld lo hi rs = (k : List ℕ) → within lo hi k ≡ true → covered rs k ≡ true

-- low is lo, or the low end of one of the ranges that contains all keys from there up to lo
pub record IsLowEnd (rs : List Span) (lo low : List ℕ) : Type 0 where
  pub begins : reaches low lo ≡ true
  pub apart : EndBefore low rs
  pub held : AreHeld low (Some lo) rs

-- high is the end hi, or the high end of one of the ranges that contains all keys from hi on
pub record IsHighEnd (rs : List Span) (hi high : Option (List ℕ)) : Type 0 where
  pub ends : ends_within hi high ≡ true
  pub free : IsFree rs high
  pub held : (k : List ℕ) → is_below k hi ≡ false → is_below k high ≡ true → covered rs k ≡ true

-- the range from lo up to hi is widened by keys that the ranges contain, and then no other overlaps its ends or touches it
pub record Widens (rs : List Span) (lo : List ℕ) (hi : Option (List ℕ)) (wide : KeyRange) : Type 0 where
  pub some : is_below wide.lo wide.hi ≡ true
  pub low : EndBefore wide.lo rs
  pub high : IsFree rs wide.hi
  pub same : (k : List ℕ) → (within wide.lo wide.hi k || covered rs k) ≡ (within lo hi k || covered rs k)

-- the ranges with this one in place of those that begin in it
abbrev pub spliced : KeyRange → List Span → List Span
spliced r rs = insert_entry by_bytes (filter (λ e. not (is_in r e.0)) rs) r.lo r.hi

-- a range fits among others: inserted as it is, it leaves them disjoint, and they contain its keys besides their own
pub record Fits (rs : List Span) (lo : List ℕ) (hi : Option (List ℕ)) : Type 0 where
  pub apart : AreApart (insert_entry by_bytes rs lo hi)
  pub covers : CoversMore lo hi rs (insert_entry by_bytes rs lo hi)

-- there is a first range, which fits among others
abbrev pub FitsFirst : List Span → List Span → Type 0
FitsFirst [] rs = ⊥
FitsFirst (e ∷ es) rs = Fits rs e.0 e.1

-- the last of the ranges, if it ends after the key
abbrev pub IsOver : List ℕ → List Span → Option KeyRange → Type 0
IsOver k rs None = IfSome (last_of rs) (λ e. is_below k e.1 ≡ false)
IsOver k rs (Some r) = (last_of rs ≡ Some (r.lo, r.hi)) × (is_below k r.hi ≡ true)

-- it was split at the pivot, one half in each list, or else both lists are unchanged
abbrev pub AreDivided : List ℕ → List Span → List Span → List Span → List Span → Type 0
AreDivided p es fs gs hs =
    (IsOver p es None × (gs ≡ es) × (hs ≡ fs))
    ⊎ ((r : KeyRange) × IsOver p es (Some r) × (gs ≡ insert_entry by_bytes es r.lo (Some p)) × (hs ≡ insert_entry by_bytes fs p r.hi))

-- the last range of the one list and the first of the other as one range, if they touch
abbrev pub AreMeeting : List Span → List Span → Option KeyRange → Type 0
AreMeeting es fs None = IfSome (last_of es) (λ x. IfSome (slice_get fs 0) (λ y. is_key x.1 y.0 ≡ false))
AreMeeting es fs (Some r) = (k : List ℕ) × (last_of es ≡ Some (r.lo, Some k)) × (slice_get fs 0 ≡ Some (k, r.hi))

-- the two were merged if they touch, into the one list, or else both lists are unchanged
abbrev pub AreWelded : List Span → List Span → List Span → List Span → Type 0
AreWelded es fs gs hs =
    (AreMeeting es fs None × (gs ≡ es) × (hs ≡ fs))
    ⊎ ((r : KeyRange) × AreMeeting es fs (Some r) × (gs ≡ insert_entry by_bytes es r.lo r.hi) × (hs ≡ drop 1 fs))

-- the low end of the first range that begins after the key
abbrev pub next_begin : List ℕ → List Span → Option (List ℕ)
next_begin k rs = option_map (λ e. e.0) (slice_get (drop (place_past k rs) rs) 0)

-- the high end of the last range that begins at or before the key, if it is after the key
abbrev pub next_end : List ℕ → List Span → Option (List ℕ)
next_end k rs = option_and_then (λ e. ahead_of k e.1) (last_of (take (place_past k rs) rs))
