-- Operations on one value, the oldest first.
use Rattle.std.specs.Prelude.{ℕ, Bool, true, false, List, [], ◌∷◌, map, Option, Some, None}
use Rattle.std.specs.List.{fold}
use Rattle.message.specs.declared.msg.Msg.{Msg}
use Rattle.message.specs.declared.msg.Msg.TheVariants as msg

-- the value is set, is removed, or is changed by an update
pub data KeyOp (U V : Type 0) : Type 0 where
  Put : V → KeyOp U V
  Del : KeyOp U V
  Edit : U → KeyOp U V

module _ {U V : Type 0} where
  -- the operation as a message at the key k
  abbrev pub msg_at : List ℕ → KeyOp U V → Msg U V
  msg_at k (Put v) = msg.Put k v
  msg_at k Del = msg.Del k
  msg_at k (Edit u) = msg.Edit k u

  abbrev pub run_msgs : List ℕ → List (KeyOp U V) → List (Msg U V)
  run_msgs k cs = map (msg_at k) cs

  -- the first does not depend on the old value
  abbrev pub is_whole : List (KeyOp U V) → Bool
  is_whole [] = false
  is_whole (Put v ∷ cs) = true
  is_whole (Del ∷ cs) = true
  is_whole (Edit u ∷ cs) = false

  module _ (means : U → Option V → Option V) where
    -- the value after one operation
    abbrev pub changed : KeyOp U V → Option V → Option V
    changed (Put v) o = Some v
    changed Del o = None
    changed (Edit u) o = means u o

    -- and after several in turn
    abbrev pub run_effect : List (KeyOp U V) → Option V → Option V
    run_effect cs o = fold (λ w c. changed c w) o cs
