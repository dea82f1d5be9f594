-- What a step does at each key.
use Rattle.std.specs.Prelude.{◌≡◌, ℕ, true, List, [], Option, None, if◌then◌else◌, take, drop}
use Rattle.message.specs.declared.msg.Msg.{Msg}
use Rattle.message.specs.Ranges.{within}
use Rattle.node.specs.Pure.{PSlots, none, more}
use Rattle.message.specs.Effects.{effects}
use Rattle.node.specs.Meaning.{value, begins_by}
use Rattle.node.specs.Lawful.{starts_at}

module _ {U V : Type 0} where
  -- the messages of the slot that holds k
  abbrev pub msgs_at : PSlots U V → List ℕ → List (Msg U V)
  msgs_at none k = []
  msgs_at (more lo ms n ss) k = if begins_by ss k then msgs_at ss k else ms

module _ {U V : Type 0} (means : U → Option V → Option V) where
  -- the value at k of the child of the slot that holds k
  abbrev pub child_value : PSlots U V → List ℕ → Option V
  child_value none k = None
  child_value (more lo ms n ss) k = if begins_by ss k then child_value ss k else value means n k

-- where begins the first
abbrev pub first_lo : {U V : Type 0} → PSlots U V → List ℕ
first_lo none = []
first_lo (more lo ms n ss) = lo

-- the oldest n messages of the slots `old`, which end at hi, went into the children: at each key of their range the child has now
-- what the n messages make of the value that it had, and the pending ones mean what the others meant
pub record Sinks {U V : Type 0} (means : U → Option V → Option V) (n : ℕ) (hi : Option (List ℕ)) (old new : PSlots U V) : Type 0 where
  pub starts : starts_at (first_lo old) new
  pub below : (k : List ℕ) → within (first_lo old) hi k ≡ true → child_value means new k ≡ effects means (take n (msgs_at old k)) k (child_value means old k)
  pub above : (k : List ℕ) (v : Option V) → within (first_lo old) hi k ≡ true → effects means (msgs_at new k) k v ≡ effects means (drop n (msgs_at old k)) k v
