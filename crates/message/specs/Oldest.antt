-- What a pending list says of its oldest message.
use Rattle.std.specs.Prelude.{◌&&◌, Bool, false, is_some, ℕ, List, [], ◌∷◌, Option, Some, None}
use Rattle.message.specs.declared.msg.Msg.{Msg}
use Rattle.message.specs.declared.msg.Msg.TheVariants.{Put, Del, DelRange, Edit}
use Rattle.message.specs.Cuts.{cut_to}
use Rattle.message.specs.Effects.{point_key}
use Rattle.message.specs.Ranges.{reaches, ends_within}

module _ {U V : Type 0} where
  -- its key, if there is one and it is no range-delete
  abbrev pub first_point : List (Msg U V) → Option (List ℕ)
  first_point [] = None
  first_point (m ∷ ms) = point_key m

  -- the key to which a message gives a value whatever was there
  abbrev pub put_at : Msg U V → Option (List ℕ)
  put_at (Put q v) = Some q
  put_at (Del q) = None
  put_at (DelRange r) = None
  put_at (Edit q u) = None

  -- likewise for the oldest message
  abbrev pub first_put : List (Msg U V) → Option (List ℕ)
  first_put [] = None
  first_put (m ∷ ms) = put_at m

  -- the key to which a message may give a value where it had none
  abbrev pub given_at : Msg U V → Option (List ℕ)
  given_at (Put q v) = Some q
  given_at (Del q) = None
  given_at (DelRange r) = None
  given_at (Edit q u) = Some q

  -- likewise for the oldest message
  abbrev pub first_given : List (Msg U V) → Option (List ℕ)
  first_given [] = None
  first_given (m ∷ ms) = given_at m

  -- there is an oldest message, and it has a part from lo up to hi
  abbrev pub meets_first : List ℕ → Option (List ℕ) → List (Msg U V) → Bool
  meets_first lo hi [] = false
  meets_first lo hi (m ∷ ms) = is_some (cut_to {U = U} {V = V} lo hi m)

  -- there is an oldest message, and it is a range-delete of every key from lo up to hi
  abbrev pub covers_first : List ℕ → Option (List ℕ) → List (Msg U V) → Bool
  covers_first lo hi [] = false
  covers_first lo hi (DelRange r ∷ ms) = reaches r.lo lo && ends_within hi r.hi
  covers_first lo hi (Put q v ∷ ms) = false
  covers_first lo hi (Del q ∷ ms) = false
  covers_first lo hi (Edit q u ∷ ms) = false
