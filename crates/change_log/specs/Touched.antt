-- Single keys and ranges of keys, those that messages touch, and which keys are among them.
use Rattle.std.specs.Prelude.{◌≡◌, Bool, true, ◌||◌, List, [], ◌∷◌, ◌++◌}
use Rattle.std.specs.List.{list_any}
use Rattle.message.specs.declared.msg.Msg.{Msg}
use Rattle.message.specs.declared.msg.Msg.TheVariants.{Put, Del, DelRange, Edit}
use Rattle.pathkey.specs.Keys.{Key, is_in}
use Rattle.pathkey.specs.Order.{same}
use Rattle.pathkey.specs.declared.range.KeyRange.{KeyRange}

-- keys and ranges, in the order in which they were touched
pub record Touched : Type 0 where
  pub keys : List Key
  pub ranges : List KeyRange

-- none
abbrev pub untouched : Touched
untouched = record { keys = []; ranges = [] }

-- whether the key is one of them, or in one of the ranges
abbrev pub is_touched : Touched → Key → Bool
is_touched t k = list_any (λ q. same q k) t.keys || list_any (λ r. is_in r k) t.ranges

-- one key more
abbrev pub with_key : Key → Touched → Touched
with_key k t = record { keys = t.keys ++ k ∷ []; ranges = t.ranges }

-- one range more
abbrev pub with_range : KeyRange → Touched → Touched
with_range r t = record { keys = t.keys; ranges = t.ranges ++ r ∷ [] }

module _ {U V : Type 0} where
  -- what a message touches is added
  abbrev pub with_msg : Msg U V → Touched → Touched
  with_msg (Put k v) t = with_key k t
  with_msg (Del k) t = with_key k t
  with_msg (DelRange r) t = with_range r t
  with_msg (Edit k u) t = with_key k t

  -- what messages touch is added
  abbrev pub with_msgs : List (Msg U V) → Touched → Touched
  with_msgs [] t = t
  with_msgs (m ∷ ms) t = with_msgs ms (with_msg m t)
