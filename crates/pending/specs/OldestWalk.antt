-- A walk over the oldest messages of a list, key by key.
use Rattle.std.specs.Prelude.{◌≡◌, ℕ, List, [], ◌∷◌, ◌++◌, length}
use Rattle.message.specs.declared.msg.Msg.{Msg}
use Rattle.point_ops.specs.Changes.{KeyOp}
use Rattle.point_ops.specs.PointOps.{point_msgs}

module _ {U V : Type 0} where
  -- how many operations the first key has
  abbrev pub first_len : List (List ℕ × List (KeyOp U V)) → ℕ
  first_len [] = 0
  first_len (e ∷ es) = length e.1

  -- the operations of these keys are the oldest of the messages
  pub record IsWalk (es : List (List ℕ × List (KeyOp U V))) (ms : List (Msg U V)) : Type 0 where
    pub later : List (Msg U V)
    pub is : ms ≡ point_msgs es ++ later
