-- The effect of a change on entries, and on the value at a key.
use Rattle.std.specs.Prelude.{◌≡◌, ℕ, ◌-◌, List, [], ◌++◌, take, drop, Option, None, Some, MatchOption, Result, MatchResult}
use Rattle.std.specs.List.{slice_set, slice_index_or, remove_range}
use Rattle.std.specs.BTreeMap.{insert_entry}
use Rattle.pathkey.specs.Order.{by_bytes}
use Rattle.cow_map.specs.Places.{at_key}
use Rattle.cow_map.specs.declared.edit.Edited.{Edited}
use Rattle.cow_map.specs.declared.edit.Edited.TheVariants.{Done, Absent, Refused}

module _ {X : Type 0} where
  -- the value v was put at the key k of the entries es, giving fs; r is the previous value, or the pair if an allocation failed
  abbrev pub IsPut : List ℕ → X → List (List ℕ × X) → List (List ℕ × X) → Result (Option X) (List ℕ × X) → Type 0
  IsPut k v es fs r = MatchResult r (λ was. (fs ≡ insert_entry by_bytes es k v) × (was ≡ at_key k es)) (λ p. (fs ≡ es) × (p ≡ (k, v)))

  -- the entries from index i on were moved out of the entries es, giving fs; none were if an allocation failed
  abbrev pub IsCutOff : {E : Type 0} → ℕ → List (List ℕ × X) → List (List ℕ × X) → Result (List (List ℕ × X)) E → Type 0
  IsCutOff i es fs r = MatchResult r (λ back. (fs ≡ take i es) × (back ≡ drop i es)) (λ _. fs ≡ es)

  -- those from index i up to j were
  abbrev pub IsCutBetween : {E : Type 0} → ℕ → ℕ → List (List ℕ × X) → List (List ℕ × X) → Result (List (List ℕ × X)) E → Type 0
  IsCutBetween i j es fs r = MatchResult r (λ out. (fs ≡ remove_range es i j) × (out ≡ take (j - i) (drop i es))) (λ _. fs ≡ es)

  -- the entries of a chunk were appended to the entries es, giving fs; the chunk was returned if an allocation failed
  abbrev pub IsJoined : {A : Type 0} → List (List ℕ × X) → List (List ℕ × X) → List (List ℕ × X) → Result A (List (List ℕ × X)) → Type 0
  IsJoined row es fs r = MatchResult r (λ _. fs ≡ es ++ row) (λ back. (fs ≡ es) × (back ≡ row))

  -- all entries es were removed, giving fs
  abbrev pub AreTaken : List (List ℕ × X) → List (List ℕ × X) → List (List ℕ × X) → Type 0
  AreTaken es fs all = (fs ≡ []) × (all ≡ es)

  -- the value v at the key k of the entries es was changed as `does` says, giving fs, with the result a
  pub record ChangesValue {A : Type 0} (does : X → X → A → Type 0) (k : List ℕ) (es fs : List (List ℕ × X)) (a : A) : Type 0 where
    pub old : X
    pub new : X
    pub there : at_key k es ≡ Some old
    pub done : does old new a
    pub is : fs ≡ insert_entry by_bytes es k new

  -- the same, with this answer; or, if there is none, v was put at the key k where there was no value
  abbrev pub IsChangedOrPut : {A : Type 0} → (X → X → A → Type 0) → List ℕ → X → List (List ℕ × X) → List (List ℕ × X) → Option A → Type 0
  IsChangedOrPut does k v es fs answer = MatchOption answer ((at_key k es ≡ None) × (fs ≡ insert_entry by_bytes es k v)) (ChangesValue does k es fs)

  -- one of the two was done, with the result r; nothing was if an allocation failed
  abbrev pub IsEditedOrPut : {A E : Type 0} → (X → X → A → Type 0) → List ℕ → X → List (List ℕ × X) → List (List ℕ × X) → Result (Option A) E → Type 0
  IsEditedOrPut does k v es fs r = MatchResult r (IsChangedOrPut does k v es fs) (λ _. fs ≡ es)

  -- the chunk at index n was changed as `does` says
  pub record IsRowChanged {A : Type 0} (does : List (List ℕ × X) → List (List ℕ × X) → A → Type 0) (n : ℕ) (rs ss : List (List (List ℕ × X))) (answer : A) : Type 0 where
    pub row : List (List ℕ × X)
    pub is : ss ≡ slice_set rs n row
    pub done : does (slice_index_or rs n []) row answer

-- the outcome of the edit e at the key k of the entries es, giving fs
abbrev pub IsEdited : {X A E : Type 0} → (X → X → A → Type 0) → List ℕ → E → List (List ℕ × X) → List (List ℕ × X) → Edited A E → Type 0
IsEdited does k e es fs (Done a) = ChangesValue does k es fs a
IsEdited does k e es fs (Absent back) = (at_key k es ≡ None) × (fs ≡ es) × (back ≡ e)
IsEdited does k e es fs (Refused back) = (fs ≡ es) × (back ≡ e)
