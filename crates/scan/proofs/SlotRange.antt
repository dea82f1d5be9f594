-- The value within the range of one slot.
use Rattle.std.proofs.Common.{◌≡◌, ℕ, ◌+◌, ◌<◌, Bool, true, false, List, length, get_or, refl, ap, sym, ◌∙◌, subst, Option, None, cond, add-one}
use Rattle.pathkey.specs.Keys.{is_below}
use Rattle.pathkey.proofs.KeyOrder.{before_from_not_reaches}
use Rattle.message.specs.declared.msg.Msg.{Msg}
use Rattle.message.specs.Ranges.{reaches}
use Rattle.node.specs.declared.node.Slot.{Slot}
use Rattle.node.specs.See.{seen_slots}
use Rattle.node.specs.Pure.{PNode, PSlots, none, more}
use Rattle.node.specs.Lawful.{next_lo}
use Rattle.node.specs.Meaning.{begins_by, slot_number, slots_value}
use Rattle.node.specs.Site.{end_of}
use Rattle.node.proofs.Placing.{begins_later}
use Rattle.node.proofs.SlotFacts.{slots_value_is}
use Rattle.scan.specs.Stretches.{slot_value}
use Rattle.message.proofs.NextKey.{not_reaches}

module _ {U V : Type 0} where
  begins_after : (ss : PSlots U V) (k : List ℕ) → is_below k (next_lo None ss) ≡ true → begins_by ss k ≡ false
  begins_after none k h = refl
  begins_after (more lo ms n ss) k h = not_reaches k lo h

  ends_after : (ss : PSlots U V) (k : List ℕ) → begins_by ss k ≡ false → is_below k (next_lo None ss) ≡ true
  ends_after none k h = refl
  ends_after (more lo ms n ss) k h = before_from_not_reaches lo k h

  number_inside_by : (b : Bool) (lo : List ℕ) (ms : List (Msg U V)) (n : PNode U V) (ss : PSlots U V) (k : List ℕ) → begins_by ss k ≡ b → is_below k (end_of None ss (slot_number ss k)) ≡ true → is_below k (end_of None (more lo ms n ss) (cond b (slot_number ss k + 1) 0)) ≡ true
  number_inside_by true lo ms n ss k e h = rw add-one h
  number_inside_by false lo ms n ss k e h = ends_after ss k e

  -- the slot of a key ends after the key
  pub number_inside : (ss : PSlots U V) (k : List ℕ) → is_below k (end_of None ss (slot_number ss k)) ≡ true
  number_inside none k = refl
  number_inside (more lo ms n ss) k = number_inside_by (begins_by ss k) lo ms n ss k refl (number_inside ss k)

  number_same_by : (b : Bool) (lo : List ℕ) (ms : List (Msg U V)) (n : PNode U V) (ss : PSlots U V) (c k : List ℕ) → begins_by ss c ≡ b → reaches c k ≡ true → (is_below k (end_of None ss (slot_number ss c)) ≡ true → slot_number ss k ≡ slot_number ss c) → is_below k (end_of None (more lo ms n ss) (cond b (slot_number ss c + 1) 0)) ≡ true → cond (begins_by ss k) (slot_number ss k + 1) 0 ≡ cond b (slot_number ss c + 1) 0
  number_same_by true lo ms n ss c k e h same u = ap (λ b. cond b (slot_number ss k + 1) 0) (begins_later ss c k h e) ∙ ap (λ i. i + 1) (same (rw add-one at u))
  number_same_by false lo ms n ss c k e h same u = ap (λ b. cond b (slot_number ss k + 1) 0) (begins_after ss k u)

  -- from a key up to the end of its slot each key is in that slot
  number_same : (ss : PSlots U V) (c k : List ℕ) → reaches c k ≡ true → is_below k (end_of None ss (slot_number ss c)) ≡ true → slot_number ss k ≡ slot_number ss c
  number_same none c k h u = refl
  number_same (more lo ms n ss) c k h u = number_same_by (begins_by ss c) lo ms n ss c k refl h (number_same ss c k h) u

  -- so that the node's value there is the slot's
  pub value_in_slot : (means : U → Option V → Option V) (ss : List (Slot U V)) (i : ℕ) (s : Slot U V) (c k : List ℕ) → 0 < length ss → i ≡ slot_number (seen_slots ss) c → s ≡ get_or ss i s → reaches c k ≡ true → is_below k (end_of None (seen_slots ss) i) ≡ true → slots_value means (seen_slots ss) k ≡ slot_value means s k
  value_in_slot means ss i s c k l e is h u =
      let ps : PSlots U V = seen_slots ss in
      let same : slot_number ps k ≡ i = number_same ps c k h (subst (λ j. is_below k (end_of None ps j) ≡ true) e u) ∙ sym e in
      slots_value_is means k ss s l ∙ ap (λ j. slot_value means (get_or ss j s) k) same ∙ ap (λ (t : Slot U V). slot_value means t k) (sym is)
