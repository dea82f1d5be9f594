-- The pending operations at single keys, by key.
use Rattle.std.specs.Prelude.{◌≡◌, ℕ, ◌+◌, ◌^◌, ◌<◌, ◌≤◌, Bool, false, if◌then◌else◌, List, [], ◌∷◌, ◌++◌, length, drop, Option, Some, None}
use Rattle.std.specs.List.{sum_by, All}
use Rattle.std.specs.BTreeMap.{insert_entry}
use Rattle.std.specs.Option.{option_or}
use Rattle.pathkey.specs.Keys.{is_below}
use Rattle.pathkey.specs.Order.{by_bytes, same}
use Rattle.message.specs.declared.msg.Msg.{Msg}
use Rattle.cow_map.specs.Places.{at_key, reaches}
use Rattle.point_ops.specs.Changes.{KeyOp, run_msgs, run_effect}
use Rattle.point_ops.specs.declared.join_reply.JoinReply.{JoinReply}
use Rattle.point_ops.specs.declared.join_reply.JoinReply.TheVariants.{Joined, NoKey, Apart}

module _ {U V : Type 0} where
  -- the pending messages at the keys
  abbrev pub point_msgs : List (List ℕ × List (KeyOp U V)) → List (Msg U V)
  point_msgs [] = []
  point_msgs (e ∷ es) = run_msgs e.0 e.1 ++ point_msgs es

  -- how many they are
  abbrev pub point_count : List (List ℕ × List (KeyOp U V)) → ℕ
  point_count es = sum_by (λ e. length e.1) es

  -- each key has a pending operation
  abbrev pub AreRuns : List (List ℕ × List (KeyOp U V)) → Type 0
  AreRuns es = All (λ e. 0 < length e.1) es

  -- the entries without the given number of oldest operations of the first key
  abbrev pub left : ℕ → List (List ℕ × List (KeyOp U V)) → List (List ℕ × List (KeyOp U V))
  left n [] = []
  left n (e ∷ es) = (e.0, drop n e.1) ∷ es

  -- n is less than the number of operations of the first key, or 0 if there are no entries
  abbrev pub IsLeft : ℕ → List (List ℕ × List (KeyOp U V)) → Type 0
  IsLeft n [] = n ≡ 0
  IsLeft n (e ∷ es) = n < length e.1

  -- the invariant of a list with `count` messages
  pub record ArePoints (es : List (List ℕ × List (KeyOp U V))) (count : ℕ) : Type 0 where
    pub runs : AreRuns es
    pub counted : count ≡ point_count es
    pub small : count ≤ 2 ^ 62

  module _ (means : U → Option V → Option V) where
    -- the value after the operations, if there are any
    abbrev pub found_effect : Option (List (KeyOp U V)) → Option V → Option V
    found_effect None o = o
    found_effect (Some cs) o = run_effect means cs o

    -- the entries fs mean es and then f at the key k
    pub record Inserts (k : List ℕ) (f : Option V → Option V) (es fs : List (List ℕ × List (KeyOp U V))) : Type 0 where
      pub meaning : (q : List ℕ) (o : Option V) → found_effect (at_key q fs) o ≡ (if same k q then f (found_effect (at_key q es) o) else found_effect (at_key q es) o)
      pub touched : (q : List ℕ) → same k q ≡ false → at_key q es ≡ None → at_key q fs ≡ None

    -- what became of an update that was to be joined to the only operation of the key k in the entries es, which gave fs
    abbrev pub JoinsAt : JoinReply → List ℕ → U → List (List ℕ × List (KeyOp U V)) → List (List ℕ × List (KeyOp U V)) → Type 0
    JoinsAt Joined k u es fs = Inserts k (means u) es fs × (point_count fs ≡ point_count es) × ((c : KeyOp U V) × (at_key k es ≡ Some (c ∷ [])))
    JoinsAt NoKey k u es fs = (at_key k es ≡ None) × (fs ≡ es)
    JoinsAt Apart k u es fs = fs ≡ es

    -- the operations may replace these, if there are any: they do not depend on them
    abbrev pub IsFree : List (KeyOp U V) → Option (List (KeyOp U V)) → Type 0
    IsFree cs found = (o : Option V) → run_effect means cs (found_effect found o) ≡ run_effect means cs o

    -- the operations of the first key of a list, before `rest`, which are `came` and at most `most`, were added to another list, newer
    -- than all there
    pub record AddsFirst (came most : ℕ) (from old rest new : List (List ℕ × List (KeyOp U V))) : Type 0 where
      pub key : List ℕ
      pub run : List (KeyOp U V)
      pub parts : from ≡ (key, run) ∷ rest
      pub all : came ≡ length run
      pub some : 0 < came
      pub few : came ≤ most
      pub inserts : Inserts key (run_effect means run) old new
      pub bound : point_count new ≤ point_count old + came

    -- they were moved there, and replaced others that they do not depend on
    pub record TakesFirst (came most : ℕ) (from old rest new : List (List ℕ × List (KeyOp U V))) : Type 0 where
      pub adds : AddsFirst came most from old rest new
      pub is : new ≡ insert_entry by_bytes old adds.key adds.run

    -- the same, and `replaced` is how many were replaced
    pub record IsMoved (came replaced most : ℕ) (from old rest new : List (List ℕ × List (KeyOp U V))) : Type 0 where
      pub takes : TakesFirst came most from old rest new
      pub counted : point_count new + replaced ≡ point_count old + came

    -- the operations of the first key of a list, before `rest`, were added to another list, which had `before` operations at that key
    -- and now has `after`
    pub record IsShared (before after : ℕ) (from old rest new : List (List ℕ × List (KeyOp U V))) : Type 0 where
      pub key : List ℕ
      pub run : List (KeyOp U V)
      pub parts : from ≡ (key, run) ∷ rest
      pub inserts : Inserts key (run_effect means run) old new
      pub bound : after ≤ before + length run
      pub within : before ≤ point_count old
      pub counted : point_count new + before ≡ point_count old + after
      pub runs : AreRuns old → AreRuns new

-- the first key that passes
abbrev pub first_where : {X : Type 0} → (List ℕ → Bool) → List (List ℕ × X) → Option (List ℕ)
first_where p [] = None
first_where p (e ∷ es) = if p e.0 then Some e.0 else first_where p es

-- the last key that passes
abbrev pub last_where : {X : Type 0} → (List ℕ → Bool) → List (List ℕ × X) → Option (List ℕ)
last_where p [] = None
last_where p (e ∷ es) = option_or (last_where p es) (if p e.0 then Some e.0 else None)

-- the first key at or after this one
abbrev pub first_from : {X : Type 0} → List ℕ → List (List ℕ × X) → Option (List ℕ)
first_from k es = first_where (reaches k) es

-- the last key before the end, if there is an end
abbrev pub last_below : {X : Type 0} → Option (List ℕ) → List (List ℕ × X) → Option (List ℕ)
last_below end es = last_where (λ k. is_below k end) es
