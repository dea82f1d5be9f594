-- The part of a message that lies in a range.
use Rattle.std.specs.Prelude.{◌≡◌, ◌≤◌, ◌+◌, ℕ, length, true, false, if◌then◌else◌, List, [], ◌∷◌, ◌++◌, Option, Some, None}
use Rattle.std.specs.Option.{option_to_list}
use Rattle.pathkey.specs.Keys.{is_below, is_in}
use Rattle.pathkey.specs.declared.range.KeyRange.{KeyRange}
use Rattle.message.specs.declared.msg.Msg.{Msg}
use Rattle.message.specs.declared.msg.Msg.TheVariants.{Put, Del, DelRange, Edit}
use Rattle.message.specs.Ranges.{within, later_key, earlier_end}
use Rattle.message.specs.Effects.{any_touches, effect, effects}

module _ {U V : Type 0} where
  -- a range-delete from lo up to hi, if any key can lie there
  abbrev pub cut_range : List ℕ → Option (List ℕ) → Option (Msg U V)
  cut_range lo hi = if is_below lo hi then Some (DelRange (record { lo = lo; hi = hi })) else None

  -- the part of a message from lo up to hi
  abbrev pub cut_to : List ℕ → Option (List ℕ) → Msg U V → Option (Msg U V)
  cut_to lo hi (Put q v) = if within lo hi q then Some (Put q v) else None
  cut_to lo hi (Del q) = if within lo hi q then Some (Del q) else None
  cut_to lo hi (DelRange r) = cut_range (later_key lo r.lo) (earlier_end hi r.hi)
  cut_to lo hi (Edit q u) = if within lo hi q then Some (Edit q u) else None

  -- the parts of messages from lo up to hi, in their order
  abbrev pub pieces : List ℕ → Option (List ℕ) → List (Msg U V) → List (Msg U V)
  pieces lo hi [] = []
  pieces lo hi (m ∷ ms) = option_to_list (cut_to lo hi m) ++ pieces lo hi ms

module _ {U V : Type 0} where
  -- the parts of messages before an end, or where there is none the messages
  abbrev pub IsUpTo : Option (List ℕ) → List (Msg U V) → List (Msg U V) → Type 0
  IsUpTo None all ms = ms ≡ all
  IsUpTo (Some hi) all ms = ms ≡ pieces [] (Some hi) all

  -- each message lies whole in the range
  abbrev pub LieIn : List ℕ → Option (List ℕ) → List (Msg U V) → Type 0
  LieIn lo hi [] = Unit {0}
  LieIn lo hi (m ∷ ms) = (cut_to lo hi m ≡ Some m) × LieIn lo hi ms

  -- no message has a part in it
  abbrev pub LieOut : List ℕ → Option (List ℕ) → List (Msg U V) → Type 0
  LieOut lo hi [] = Unit {0}
  LieOut lo hi (m ∷ ms) = (cut_to lo hi m ≡ None) × LieOut lo hi ms

  -- a list from lo on is parted at the pivot, over which no message lies
  pub record IsParted (lo pivot : List ℕ) (all front back : List (Msg U V)) : Type 0 where
    pub parts : all ≡ front ++ back
    pub front_in : LieIn lo (Some pivot) front
    pub front_out : LieOut pivot None front
    pub back_in : LieIn pivot None back
    pub back_out : LieOut lo (Some pivot) back

  -- a list whose messages before the pivot are those of the one list, and from it on those of the other
  pub record IsJoined (pivot : List ℕ) (front back all : List (Msg U V)) : Type 0 where
    pub front_is : pieces [] (Some pivot) all ≡ front
    pub back_is : pieces pivot None all ≡ back
    pub bound : length all ≤ length front + length back

-- a piece has the message's effect at each key of the range, and touches no key outside it
pub record IsCut {U V : Type 0} (means : U → Option V → Option V) (m : Msg U V) (range : KeyRange) (piece : Option (Msg U V)) : Type 0 where
  pub inside : (k : List ℕ) (old : Option V) → is_in range k ≡ true → effects means (option_to_list piece) k old ≡ effect means m k old
  pub outside : (k : List ℕ) → is_in range k ≡ false → any_touches (option_to_list piece) k ≡ false
