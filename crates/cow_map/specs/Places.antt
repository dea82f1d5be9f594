-- Entries sorted by key, and the place of a key among them.
use Rattle.std.specs.Prelude.{◌≡◌, ℕ, suc, ◌-◌, ◌<◌, ◌≤◌, Bool, true, false, List, [], ◌∷◌, Option, Result, MatchResult, length}
use Rattle.std.specs.Ordering.{is_lt, is_le, match_ordering}
use Rattle.std.specs.List.{All, slice_get}
use Rattle.std.specs.List.Sorted.{IsStrictlySortedBy}
use Rattle.std.specs.Map.{keys_of, lookup}
use Rattle.std.specs.BTreeMap.{is_at}
use Rattle.pathkey.specs.Order.{by_bytes}
use Rattle.pathkey.specs.Heads.{IsHeaded}
use Rattle.pathkey.specs.Keys.{is_below}

-- a is at or before b
abbrev pub reaches : List ℕ → List ℕ → Bool
reaches a b = is_le (by_bytes a b)

-- a is before b
abbrev pub before : List ℕ → List ℕ → Bool
before a b = is_lt (by_bytes a b)

module _ {X : Type 0} where
  -- each key is before the later ones
  abbrev pub Rises : List (List ℕ × X) → Type 0
  Rises es = IsStrictlySortedBy by_bytes (keys_of es)

  -- the number is the head of the first entry's key, if there is one
  abbrev pub BeginsHeaded : ℕ → List (List ℕ × X) → Type 0
  BeginsHeaded h [] = Unit {0}
  BeginsHeaded h (e ∷ es) = IsHeaded h e.0

  -- the value at the key
  abbrev pub at_key : List ℕ → List (List ℕ × X) → Option X
  at_key k es = lookup (is_at (by_bytes k)) es

  -- how many entries are before the key
  abbrev pub place : List ℕ → List (List ℕ × X) → ℕ
  place k [] = 0
  place k (e ∷ es) = match_ordering (by_bytes k e.0) 0 0 (suc (place k es))

  -- how many are at or before it
  abbrev pub place_past : List ℕ → List (List ℕ × X) → ℕ
  place_past k [] = 0
  place_past k (e ∷ es) = match_ordering (by_bytes k e.0) 0 (suc (place_past k es)) (suc (place_past k es))

  -- the last entry
  abbrev pub last_of : List (List ℕ × X) → Option (List ℕ × X)
  last_of es = slice_get es (length es - 1)

  -- the first entry that is not before the key has it
  abbrev pub is_there : List ℕ → List (List ℕ × X) → Bool
  is_there k [] = false
  is_there k (e ∷ es) = match_ordering (by_bytes k e.0) false true (is_there k es)

  -- the entry at this index has the key
  pub record IsHolder (k : List ℕ) (es : List (List ℕ × X)) (i : ℕ) : Type 0 where
    pub number : i ≡ place k es
    pub there : is_there k es ≡ true
    pub bound : i < length es

  -- no entry has the key, which would be before the one at this index
  pub record IsGap (k : List ℕ) (es : List (List ℕ × X)) (i : ℕ) : Type 0 where
    pub number : i ≡ place k es
    pub absent : is_there k es ≡ false
    pub bound : i ≤ length es

  -- the result of a search for the key
  abbrev pub IsFound : List ℕ → List (List ℕ × X) → Result ℕ ℕ → Type 0
  IsFound k es r = MatchResult r (IsHolder k es) (IsGap k es)

  -- the entries are before the key
  abbrev pub AreBefore : List ℕ → List (List ℕ × X) → Type 0
  AreBefore k es = All (λ q. before q k ≡ true) (keys_of es)

  -- they are at or after it
  abbrev pub AreFrom : List ℕ → List (List ℕ × X) → Type 0
  AreFrom k es = All (λ q. reaches k q ≡ true) (keys_of es)

  -- they are below the end, or not
  abbrev pub AreBelow : Option (List ℕ) → List (List ℕ × X) → Type 0
  AreBelow end es = All (λ q. is_below q end ≡ true) (keys_of es)

  abbrev pub AreBeyond : Option (List ℕ) → List (List ℕ × X) → Type 0
  AreBeyond end es = All (λ q. is_below q end ≡ false) (keys_of es)
