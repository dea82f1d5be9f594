-- A cursor over the keys with messages for them alone.
use Rattle.std.specs.Prelude.{◌≡◌, ℕ, true, false, List, [], ◌∷◌, length, Option, Some, None, IfSome, drop}
use Rattle.pathkey.specs.Keys.{is_below}
use Rattle.message.specs.declared.msg.Msg.{Msg}
use Rattle.cow_map.specs.Places.{Rises, at_key, place}
use Rattle.point_ops.specs.Changes.{KeyOp}
use Rattle.point_ops.specs.PointOps.{AreRuns}
use Rattle.range_set.specs.Disjoint.{Span}
use Rattle.pending.specs.SortedMsgs.{sorted_msgs}

module _ {U V : Type 0} where
  -- the messages are those of a sorted list, and these are its entries from `from` on
  pub record AreFrom (ms : List (Msg U V)) (from : List ℕ) (rest : List (List ℕ × List (KeyOp U V))) : Type 0 where
    pub spans : List Span
    pub entries : List (List ℕ × List (KeyOp U V))
    pub is : sorted_msgs spans entries ≡ ms
    pub rises : Rises entries
    pub runs : AreRuns entries
    pub from_here : rest ≡ drop (place from entries) entries

  -- a cursor that iterates over entries is at those from `from` on
  abbrev pub StandsAt : List ℕ → List (Msg U V) × Option (List (List ℕ × List (KeyOp U V))) → Type 0
  StandsAt from walk = IfSome walk.1 (λ rest. AreFrom walk.0 from rest)

  -- how many entries remain for a cursor over them
  abbrev pub entries_left : Option (List (List ℕ × List (KeyOp U V))) → ℕ
  entries_left None = 0
  entries_left (Some rest) = length rest

  -- the messages are those of a sorted list, in which these are the pending operations of the key
  pub record WaitAt (ms : List (Msg U V)) (k : List ℕ) (run : List (KeyOp U V)) : Type 0 where
    pub spans : List Span
    pub entries : List (List ℕ × List (KeyOp U V))
    pub is : sorted_msgs spans entries ≡ ms
    pub rises : Rises entries
    pub runs : AreRuns entries
    pub here : Some run ≡ at_key k entries

  -- a key at which the cursor stopped; if its pending operations were read too, they are these
  abbrev pub IsMet : List (Msg U V) → List ℕ × Option (List (KeyOp U V)) → Type 0
  IsMet ms met = IfSome met.1 (λ run. WaitAt ms met.0 run)

  -- a first entry, whose key is before the end, was returned and passed
  pub record IsPassed (end : Option (List ℕ)) (old new : List (List ℕ × List (KeyOp U V))) (met : List ℕ × Option (List (KeyOp U V))) : Type 0 where
    pub run : List (KeyOp U V)
    pub is : met.1 ≡ Some run
    pub parts : old ≡ (met.0, run) ∷ new
    pub before : is_below met.0 end ≡ true

  -- no entry begins before the end
  abbrev pub BeginPast : Option (List ℕ) → List (List ℕ × List (KeyOp U V)) → Type 0
  BeginPast end [] = Unit {0}
  BeginPast end (e ∷ es) = is_below e.0 end ≡ false
