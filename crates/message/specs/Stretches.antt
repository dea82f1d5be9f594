-- Stretches: keys in a row of which each message touches all or none.
use Rattle.std.specs.Prelude.{◌≡◌, ℕ, ◌⊎◌, Bool, true, false, if◌then◌else◌, List, [], ◌∷◌, ◌++◌, Option, Some, None, IfSome, All, Contains}
use Rattle.std.specs.Option.{option_to_list}
use Rattle.pathkey.specs.Order.{same}
use Rattle.pathkey.specs.Keys.{is_below, next_key}
use Rattle.pathkey.specs.declared.range.KeyRange.{KeyRange}
use Rattle.message.specs.declared.msg.Msg.{Msg}
use Rattle.message.specs.declared.msg.Msg.TheVariants.{Put, Del, DelRange, Edit}
use Rattle.message.specs.Ranges.{before, within}
use Rattle.message.specs.Effects.{touches, point_key}

-- the end, where it lies after `from`
abbrev pub ahead_of : List ℕ → Option (List ℕ) → Option (List ℕ)
ahead_of from None = None
ahead_of from (Some e) = if before from e then Some e else None

-- where the range next begins or ends after `from`
abbrev pub range_end : List ℕ → KeyRange → Option (List ℕ)
range_end from r = if before from r.lo then Some r.lo else ahead_of from r.hi

-- the key is this one
abbrev pub is_key : Option (List ℕ) → List ℕ → Bool
is_key None k = false
is_key (Some q) k = same q k

module _ {U V : Type 0} where
  -- the message is one for the key k alone
  abbrev pub is_for : Msg U V → List ℕ → Bool
  is_for m k = is_key (point_key m) k

  -- each message touches all keys from `from` up to and without `stop`, or none of them
  abbrev pub ActAlike : List (Msg U V) → List ℕ → Option (List ℕ) → Type 0
  ActAlike ms from stop = (k : List ℕ) → within from stop k ≡ true → All (λ m. touches m k ≡ touches m from) ms

  -- the keys where the message begins and ends to touch keys
  abbrev pub ends_of : Msg U V → List (List ℕ)
  ends_of (Put q v) = q ∷ next_key q ∷ []
  ends_of (Del q) = q ∷ next_key q ∷ []
  ends_of (DelRange r) = r.lo ∷ option_to_list r.hi
  ends_of (Edit q u) = q ∷ next_key q ∷ []

  -- likewise for all messages
  abbrev pub all_ends : List (Msg U V) → List (List ℕ)
  all_ends [] = []
  all_ends (m ∷ ms) = ends_of m ++ all_ends ms

  -- up to `stop`, which is an end of the message, it acts alike, unless it is one for `from` alone
  pub record IsNextEnd (from : List ℕ) (m : Msg U V) (stop : Option (List ℕ)) : Type 0 where
    pub after : is_below from stop ≡ true
    pub an_end : IfSome stop (Contains (ends_of m))
    pub alike : is_for m from ≡ false → (k : List ℕ) → within from stop k ≡ true → touches m k ≡ touches m from

  -- the messages act alike from `from` up to `stop`, which is `end` or an end of a message before it
  pub record IsStretch (ms : List (Msg U V)) (from : List ℕ) (end stop : Option (List ℕ)) : Type 0 where
    pub alike : ActAlike ms from stop
    pub after : is_below from stop ≡ true
    pub inside : (k : List ℕ) → is_below k stop ≡ true → is_below k end ≡ true
    pub an_end : IfSome stop (λ d. (end ≡ Some d) ⊎ Contains (all_ends ms) d)

  -- what a list says of the stretch from `from` on: a message is for that key alone, or this is where it ends
  abbrev pub EndsAhead : List (Msg U V) → List ℕ → Option (List ℕ) → Option (Option (List ℕ)) → Type 0
  EndsAhead ms from end None = Contains (all_ends ms) (next_key from)
  EndsAhead ms from end (Some stop) = IsStretch ms from end stop
