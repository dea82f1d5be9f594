-- Keys with messages for them alone, and the range-deletes around them.
use Rattle.std.specs.Prelude.{◌≡◌, ℕ, ◌⊎◌, Bool, true, false, ◌||◌, if◌then◌else◌, List, [], ◌∷◌, Option, Some, None, IfSome, Contains}
use Rattle.pathkey.specs.Keys.{is_below, is_in}
use Rattle.message.specs.declared.msg.Msg.{Msg}
use Rattle.message.specs.declared.msg.Msg.TheVariants.{Put, Del, DelRange, Edit}
use Rattle.message.specs.Ranges.{within}
use Rattle.message.specs.Stretches.{is_for, all_ends}

-- the key, where it lies from `from` up to and without `end`; else `end`
abbrev pub point_stop : Option (List ℕ) → List ℕ → Option (List ℕ) → Option (List ℕ)
point_stop None from end = end
point_stop (Some q) from end = if within from end q then Some q else end

module _ {U V : Type 0} where
  -- a message of the list is for the key k alone
  abbrev pub has_point : List (Msg U V) → List ℕ → Bool
  has_point [] k = false
  has_point (m ∷ ms) k = is_for m k || has_point ms k

  -- the message is a range-delete that holds the key k
  abbrev pub clears : Msg U V → List ℕ → Bool
  clears (Put q v) k = false
  clears (Del q) k = false
  clears (DelRange r) k = is_in r k
  clears (Edit q u) k = false

  -- a range-delete of the list holds the key k
  abbrev pub is_cleared : List (Msg U V) → List ℕ → Bool
  is_cleared [] k = false
  is_cleared (m ∷ ms) k = clears m k || is_cleared ms k

  -- no message is for one key alone from `from` up to `stop`, which is `end` or the key of such a message before it
  pub record IsPointStop (ms : List (Msg U V)) (from : List ℕ) (end stop : Option (List ℕ)) : Type 0 where
    pub none : (k : List ℕ) → within from stop k ≡ true → has_point ms k ≡ false
    pub inside : (k : List ℕ) → is_below k stop ≡ true → is_below k end ≡ true
    pub one : (stop ≡ end) ⊎ IfSome stop (λ q. (within from end q ≡ true) × (has_point ms q ≡ true))

  -- this is the first key from `from` up to and without `end` that has a message for it alone; or none, where none has
  abbrev pub IsNextPoint : List (Msg U V) → List ℕ → Option (List ℕ) → Option (List ℕ) → Type 0
  IsNextPoint ms from end None = (k : List ℕ) → within from end k ≡ true → has_point ms k ≡ false
  IsNextPoint ms from end (Some q) = (within from end q ≡ true) × (has_point ms q ≡ true) × ((k : List ℕ) → within from (Some q) k ≡ true → has_point ms k ≡ false)

  -- the range-deletes hold all keys from `from` up to `stop`, or none; `stop` is `end` or an end of a message before it
  pub record IsClearStretch (ms : List (Msg U V)) (from : List ℕ) (end stop : Option (List ℕ)) : Type 0 where
    pub alike : (k : List ℕ) → within from stop k ≡ true → is_cleared ms k ≡ is_cleared ms from
    pub after : is_below from stop ≡ true
    pub inside : (k : List ℕ) → is_below k stop ≡ true → is_below k end ≡ true
    pub an_end : IfSome stop (λ d. (end ≡ Some d) ⊎ Contains (all_ends ms) d)
