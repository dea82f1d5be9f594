-- A pending list applied to pairs from below. f and child are any functions from keys to values.
use Rattle.std.specs.Prelude.{◌≡◌, ℕ, ◌+◌, ◌<◌, ◌≤◌, ◌⊎◌, true, false, List, [], ◌∷◌, Option, Some, MatchOption, length}
use Rattle.pathkey.specs.Keys.{is_below}
use Rattle.message.specs.declared.msg.Msg.{Msg}
use Rattle.message.specs.Effects.{effects}
use Rattle.message.specs.PointKeys.{has_point}
use Rattle.message.specs.Ranges.{reaches, within}
use Rattle.node.specs.declared.node.Slot.{Slot}
use Rattle.scan.specs.Pairs.{IsScan, AddsScan}
use Rattle.scan.specs.Stretches.{slot_value}

module _ {V : Type 0} where
  -- these are all pairs that f has from lo up to and without hi
  abbrev pub AreAll : (List ℕ → Option V) → List ℕ → Option (List ℕ) → List (List ℕ × V) → Type 0
  AreAll f lo hi ps = IsScan f lo hi (length ps + 1) ps

  -- the first pair is not before the end
  abbrev pub StartsFrom : Option (List ℕ) → List (List ℕ × V) → Type 0
  StartsFrom stop [] = Unit {0}
  StartsFrom stop (p ∷ ps) = is_below p.0 stop ≡ false

  -- of all pairs of f from lo up to and without hi, those before `stop` have moved, until there were `limit`
  pub record IsMoved (f : List ℕ → Option V) (lo : List ℕ) (hi stop : Option (List ℕ)) (limit : ℕ) (old new rest : List (List ℕ × V)) : Type 0 where
    pub added : AddsScan f lo stop limit old new
    pub left : length new < limit → (q : List ℕ) → stop ≡ Some q → reaches lo q ≡ true → AreAll f q hi rest
    pub all : length new < limit → stop ≡ hi → rest ≡ []

  -- whatever range the pairs at hand are all of, if it reaches as far as `stop`: those before `stop` have moved
  abbrev pub Moves : Option (List ℕ) → ℕ → List (List ℕ × V) → List (List ℕ × V) → List (List ℕ × V) → List (List ℕ × V) → Type 0
  Moves stop limit old new rest left = (f : List ℕ → Option V) (lo : List ℕ) (hi : Option (List ℕ)) →
      AreAll f lo hi rest → ((k : List ℕ) → is_below k stop ≡ true → is_below k hi ≡ true) → IsMoved f lo hi stop limit old new left

  -- this holds of each function whose pairs are these from a key on, and of the end of the range, which is past the key
  abbrev pub OfAllFrom : List ℕ → List (List ℕ × V) → ((List ℕ → Option V) → Option (List ℕ) → Type 0) → Type 0
  OfAllFrom key rest P = (child : List ℕ → Option V) (end : Option (List ℕ)) → AreAll child key end rest → is_below key end ≡ true → P child end

module _ {U V : Type 0} where
  -- from `from` up to but excluding `end` there is a key with a message of its own
  abbrev pub HasPoint : List (Msg U V) → List ℕ → Option (List ℕ) → Type 0
  HasPoint ms from end = (q : List ℕ) × (within from end q ≡ true) × (has_point ms q ≡ true)

  -- what the messages make of the child's values
  abbrev pub applied : (U → Option V → Option V) → List (Msg U V) → (List ℕ → Option V) → List ℕ → Option V
  applied means ms child k = effects means ms k (child k)

  -- they change no value at a key without a message for it alone
  abbrev pub LeavesGaps : (U → Option V → Option V) → List (Msg U V) → (List ℕ → Option V) → List ℕ → Option (List ℕ) → Type 0
  LeavesGaps means ms child from end = (k : List ℕ) → within from end k ≡ true → has_point ms k ≡ false → applied means ms child k ≡ child k

  -- the messages were applied to all pairs of the child, `below`; if that gave fewer than `limit`, there were at least as
  -- many of those, or a key has a message of its own
  pub record IsMerged (means : U → Option V → Option V) (ms : List (Msg U V)) (child : List ℕ → Option V) (from : List ℕ) (end : Option (List ℕ)) (limit : ℕ) (below old new : List (List ℕ × V)) : Type 0 where
    pub added : AddsScan (applied means ms child) from end limit old new
    pub more : length new < limit → (length old + length below ≤ length new) ⊎ HasPoint ms from end

  -- so they were over the pairs of each child that has just these, if they change no value in its gaps
  abbrev pub Merges : (U → Option V → Option V) → List (Msg U V) → List ℕ → Option (List ℕ) → ℕ → List (List ℕ × V) → List (List ℕ × V) → List (List ℕ × V) → Type 0
  Merges means ms from end limit below old new = (child : List ℕ → Option V) →
      AreAll child from end below → LeavesGaps means ms child from end → IsMerged means ms child from end limit below old new

  -- the walk of a slot continues at `next`, after a key with a message of its own, and needs more pairs
  pub record GoesOn (means : U → Option V → Option V) (s : Slot U V) (from : List ℕ) (stop : Option (List ℕ)) (limit : ℕ) (old new : List (List ℕ × V)) (next : List ℕ) : Type 0 where
    pub reached : reaches from next ≡ true
    pub inside : (k : List ℕ) → within from (Some next) k ≡ true → is_below k stop ≡ true
    pub added : AddsScan (slot_value means s) from (Some next) limit old new
    pub passed : HasPoint s.pending.0 from (Some next)
    pub room : length new < limit

  -- a round ends the walk of a slot, or returns the key where it continues
  abbrev pub EndsOrGoesOn : (U → Option V → Option V) → Slot U V → List ℕ → Option (List ℕ) → ℕ → List (List ℕ × V) → List (List ℕ × V) → Option (List ℕ) → Type 0
  EndsOrGoesOn means s from stop limit old new answer =
      MatchOption answer (AddsScan (slot_value means s) from stop limit old new) (λ next. GoesOn means s from stop limit old new next)
