-- The results of searches in a range of keys. f is any function from keys to values, for example the values of a tree.
use Rattle.std.specs.Prelude.{◌≡◌, ℕ, ◌-◌, ◌<◌, ◌≤◌, ◌⊎◌, Bool, true, List, [], ◌∷◌, ◌++◌, Option, Some, None, MatchOption, length, drop, eqb, All, AllPairs, Contains}
use Rattle.std.specs.List.{starts_with, prefix_len}
use Rattle.std.specs.Option.{option_to_list}
use Rattle.pathkey.specs.Keys.{next_key}
use Rattle.message.specs.Ranges.{reaches, within, before}

module _ {V : Type 0} where
  -- f has no value from lo up to and without hi
  abbrev pub HasNone : (List ℕ → Option V) → List ℕ → Option (List ℕ) → Type 0
  HasNone f lo hi = (k : List ℕ) → within lo hi k ≡ true → f k ≡ None

  -- this is the first pair of f from lo up to but excluding hi; or none, if f has none there
  abbrev pub IsFirst : (List ℕ → Option V) → List ℕ → Option (List ℕ) → Option (List ℕ × V) → Type 0
  IsFirst f lo hi None = HasNone f lo hi
  IsFirst f lo hi (Some p) = (within lo hi p.0 ≡ true) × (f p.0 ≡ Some p.1) × HasNone f lo (Some p.0)

  -- the keys of the pairs rise
  abbrev pub IsRising : List (List ℕ × V) → Type 0
  IsRising ps = AllPairs (λ p q. before p.0 q.0 ≡ true) ps

  -- these are the first `limit` pairs of f from lo up to but excluding hi, or all if there are fewer: each is a pair of
  -- f in the range, they are sorted, and no pair of the range is missing unless there are `limit` before it
  pub record IsScan (f : List ℕ → Option V) (lo : List ℕ) (hi : Option (List ℕ)) (limit : ℕ) (ps : List (List ℕ × V)) : Type 0 where
    pub few : length ps ≤ limit
    pub sound : All (λ p. (within lo hi p.0 ≡ true) × (f p.0 ≡ Some p.1)) ps
    pub rising : IsRising ps
    pub complete : (k : List ℕ) (v : V) → within lo hi k ≡ true → f k ≡ Some v → Contains ps (k, v) ⊎ ((length ps ≡ limit) × All (λ p. before p.0 k ≡ true) ps)

  -- a list was extended: its pairs are followed by a scan for as many as were missing up to `limit`
  abbrev pub AddsScan : (List ℕ → Option V) → List ℕ → Option (List ℕ) → ℕ → List (List ℕ × V) → List (List ℕ × V) → Type 0
  AddsScan f lo hi limit old new = (ps : List (List ℕ × V)) × (new ≡ old ++ ps) × IsScan f lo hi (limit - length old) ps

  -- the last of the pairs has the key k
  abbrev pub EndsAt : List (List ℕ × V) → List ℕ → Type 0
  EndsAt ps k = (front : List (List ℕ × V)) × (v : V) × (ps ≡ front ++ (k, v) ∷ [])

  -- no pair that f has from lo up to and without hi is missing
  abbrev pub HasAll : (List ℕ → Option V) → List ℕ → Option (List ℕ) → List (List ℕ × V) → Type 0
  HasAll f lo hi ps = (k : List ℕ) (v : V) → within lo hi k ≡ true → f k ≡ Some v → Contains ps (k, v)

  -- the pairs are a scan of the range from a key up to hi, and if `all`, no pair is missing
  abbrev pub AreFrom : (List ℕ → Option V) → List ℕ → Option (List ℕ) → Bool → List (List ℕ × V) → Type 0
  AreFrom f from hi all ps = (n : ℕ) × IsScan f from hi n ps × (all ≡ true → length ps < n)

  -- the same from a key at or before lo
  abbrev pub AreAhead : (List ℕ → Option V) → List ℕ → Option (List ℕ) → Bool → List (List ℕ × V) → Type 0
  AreAhead f lo hi all ps = (from : List ℕ) × (reaches from lo ≡ true) × AreFrom f from hi all ps

  -- this is the first pair from lo up to hi, if there is one, and the pairs are those after it
  abbrev pub IsGiven : (List ℕ → Option V) → List ℕ → Option (List ℕ) → Option (List ℕ × V) → Bool → List (List ℕ × V) → Type 0
  IsGiven f lo hi None all ps = HasNone f lo hi
  IsGiven f lo hi (Some p) all ps = IsFirst f lo hi (Some p) × AreFrom f (next_key p.0) hi all ps

  -- this is that first pair; or none was read ahead, and any other is at or after lo, unless `all` says that none is left
  abbrev pub GivesFirst : (List ℕ → Option V) → List ℕ → Option (List ℕ) → Option (List ℕ × V) → Bool → List (List ℕ × V) → Type 0
  GivesFirst f lo hi taken all ps = MatchOption taken (AreAhead f lo hi all []) (λ p. IsGiven f lo hi (Some p) all ps)

  -- whatever the old pairs are a scan of, from lo on or before it: the first pair from lo on was taken out of them
  abbrev pub TakesFrom : List ℕ → Bool → List (List ℕ × V) → Option (List ℕ × V) → Bool → List (List ℕ × V) → Type 0
  TakesFrom lo all old taken all' new = (f : List ℕ → Option V) (hi : Option (List ℕ)) → AreAhead f lo hi all old → GivesFirst f lo hi taken all' new

  -- the pairs from the first on whose key does not pass the test
  abbrev pub from_unpassed : (List ℕ → Bool) → List (List ℕ × V) → List (List ℕ × V)
  from_unpassed test ps = drop (prefix_len (λ p. test p.0) ps) ps

  -- of the old pairs the first whose key does not pass the test was taken out, if there is one, and those before it
  abbrev pub IsTaken : (List ℕ → Bool) → List (List ℕ × V) → Option (List ℕ × V) → List (List ℕ × V) → Type 0
  IsTaken test old taken new = (from_unpassed test old ≡ option_to_list taken ++ new) × (taken ≡ None → new ≡ [])

-- from the key `front` on, the keys before the end are those that begin with it
abbrev pub IsEndOf : List ℕ → List ℕ → Type 0
IsEndOf end front = (k : List ℕ) → reaches front k ≡ true → before k end ≡ starts_with eqb k front

-- whatever the old pairs are a scan of, after `front`: the first was removed that is after all keys that begin with it
abbrev pub TakesPast : {V : Type 0} → List ℕ → Bool → List (List ℕ × V) → Option (List ℕ × V) → Bool → List (List ℕ × V) → Type 0
TakesPast {V} front all old taken all' new = (f : List ℕ → Option V) (hi : Option (List ℕ)) (end : List ℕ) →
    IsEndOf end front → AreFrom f (next_key front) hi all old → GivesFirst f end hi taken all' new
