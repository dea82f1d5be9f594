-- A sorted list of messages: range-deletes by their low ends, and then point messages by their keys.
use Rattle.std.specs.Prelude.{◌≡◌, ℕ, ◌+◌, ◌^◌, ◌≤◌, false, List, [], ◌∷◌, ◌++◌, length, Option}
use Rattle.message.specs.declared.msg.Msg.{Msg}
use Rattle.message.specs.declared.msg.Msg.TheVariants.{Put, Del, DelRange, Edit}
use Rattle.message.specs.Effects.{Takes}
use Rattle.message.specs.PointKeys.{has_point}
use Rattle.point_ops.specs.Changes.{KeyOp}
use Rattle.point_ops.specs.PointOps.{left, point_count, point_msgs, IsLeft}
use Rattle.point_ops.specs.declared.join_reply.JoinReply.{JoinReply}
use Rattle.point_ops.specs.declared.join_reply.JoinReply.TheVariants.{Joined, NoKey, Apart}
use Rattle.range_set.specs.Disjoint.{Span, range_msgs}

module _ {U V : Type 0} where
  -- no range-delete is newer than a point message that it touches
  abbrev pub sorted_msgs : List Span → List (List ℕ × List (KeyOp U V)) → List (Msg U V)
  sorted_msgs rs es = range_msgs rs ++ point_msgs es

  -- the invariant of the parts of a sorted list in which the given number of the first key's messages are consumed
  pub record IsSorted (rs : List Span) (es : List (List ℕ × List (KeyOp U V))) (consumed : ℕ) : Type 0 where
    pub some : IsLeft consumed es
    pub small : length rs + point_count (left consumed es) ≤ 2 ^ 62

  -- the message is an update of a key that none of these messages is for
  abbrev pub IsFirstEdit : Msg U V → List (Msg U V) → Type 0
  IsFirstEdit (Put k v) ms = ⊥
  IsFirstEdit (Del k) ms = ⊥
  IsFirstEdit (DelRange r) ms = ⊥
  IsFirstEdit (Edit k u) ms = has_point ms k ≡ false

  module _ (means : U → Option V → Option V) where
    -- what became of a message that was to be joined to one of the messages ms, which became ns
    abbrev pub JoinsMsg : JoinReply → Msg U V → List (Msg U V) → List (Msg U V) → Type 0
    JoinsMsg Joined m ms ns = Takes means ms (m ∷ []) ns
    JoinsMsg NoKey m ms ns = IsFirstEdit m ms × (ns ≡ ms)
    JoinsMsg Apart m ms ns = ns ≡ ms
