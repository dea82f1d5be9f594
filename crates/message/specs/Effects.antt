-- What messages do to the value at a key.
use Rattle.std.specs.Prelude.{◌≡◌, ◌≤◌, ◌+◌, ℕ, Bool, false, ◌||◌, if◌then◌else◌, List, [], ◌∷◌, length, Option, Some, None}
use Rattle.pathkey.specs.Order.{same}
use Rattle.pathkey.specs.Keys.{is_in}
use Rattle.message.specs.declared.msg.Msg.{Msg}
use Rattle.message.specs.declared.msg.Msg.TheVariants.{Put, Del, DelRange, Edit}

module _ {U V : Type 0} where
  -- the message can change the value at k
  abbrev pub touches : Msg U V → List ℕ → Bool
  touches (Put q v) k = same q k
  touches (Del q) k = same q k
  touches (DelRange r) k = is_in r k
  touches (Edit q u) k = same q k

  -- a message of the list can
  abbrev pub any_touches : List (Msg U V) → List ℕ → Bool
  any_touches [] k = false
  any_touches (m ∷ ms) k = touches m k || any_touches ms k

  -- the one key that a message touches, if it is no range-delete
  abbrev pub point_key : Msg U V → Option (List ℕ)
  point_key (Put q v) = Some q
  point_key (Del q) = Some q
  point_key (DelRange r) = None
  point_key (Edit q u) = Some q

  -- how many messages are range-deletes
  abbrev pub range_count : List (Msg U V) → ℕ
  range_count [] = 0
  range_count (Put q v ∷ ms) = range_count ms
  range_count (Del q ∷ ms) = range_count ms
  range_count (DelRange r ∷ ms) = range_count ms + 1
  range_count (Edit q u ∷ ms) = range_count ms

module _ {U V : Type 0} (means : U → Option V → Option V) where
  -- what a message makes of the value at a key that it touches
  abbrev pub made_of : Msg U V → Option V → Option V
  made_of (Put q v) old = Some v
  made_of (Del q) old = None
  made_of (DelRange r) old = None
  made_of (Edit q u) old = means u old

  -- the value at k after one message
  abbrev pub effect : Msg U V → List ℕ → Option V → Option V
  effect m k old = if touches m k then made_of m old else old

  -- the value at k after messages, the oldest first
  abbrev pub effects : List (Msg U V) → List ℕ → Option V → Option V
  effects [] k old = old
  effects (m ∷ ms) k old = effects ms k (effect m k old)

  -- what a pending list has become after messages were added to it
  pub record Takes (old added new : List (Msg U V)) : Type 0 where
    -- at each key it means the old messages and then the added ones
    pub meaning : (k : List ℕ) (v : Option V) → effects new k v ≡ effects added k (effects old k v)
    -- it has at most so many messages more
    pub bound : length new ≤ length old + length added
    -- it touches no other key
    pub touched : (k : List ℕ) → any_touches old k ≡ false → any_touches added k ≡ false → any_touches new k ≡ false
