-- The value at a key below an inner node is what the messages of the slot that holds it make of its child's value.
use Rattle.std.proofs.Common.{◌≡◌, ℕ, ◌<◌, ◌≤◌, arith, List, length, get_or, ap, sym, ◌∙◌, Option, refl, subst}
use Rattle.std.proofs.lemmas.List.{nil_from_length}
use Rattle.message.specs.declared.msg.Msg.{Msg}
use Rattle.message.specs.Effects.{effects}
use Rattle.node.specs.declared.node.Slot.{Slot}
use Rattle.node.specs.Meaning.{value, slot_number}
use Rattle.node.specs.Pure.{PNode, inner, depth}
use Rattle.node.specs.Searchable.{IsSearchable}
use Rattle.node.proofs.Placing.{searchable_child, depth_child}
use Rattle.node.specs.See.{seen_slots}
use Rattle.node.proofs.SlotFacts.{slots_value_is}

-- the child of a slot may be searched, and is less deep
pub child_searched : {U V : Type 0} (xs : List (Slot U V)) (i : ℕ) (slot : Slot U V) (n child : PNode U V) → inner (seen_slots xs) ≡ n → i < length xs → slot ≡ get_or xs i slot → child ≡ slot.child.value → IsSearchable n → IsSearchable child × (depth child < depth n)
child_searched xs i slot n child is bound at child_is searchable =
    let whole = subst IsSearchable (sym is) searchable in
    let one : child ≡ (get_or xs i slot).child.value = child_is ∙ ap (λ s. s.child.value) at in
    (subst IsSearchable (sym one) (searchable_child xs i slot bound whole.1), subst (λ m. depth child < depth m) is (subst (λ m. depth m < depth (inner (seen_slots xs))) (sym one) (depth_child xs i slot bound)))

module _ {U V : Type 0} (means : U → Option V → Option V) where
  -- the value at a key is that of the slot that holds it, under its messages
  pub value-below : (k : List ℕ) (xs : List (Slot U V)) (i : ℕ) (slot : Slot U V) (n child : PNode U V) (below : Option V) → inner (seen_slots xs) ≡ n → 0 < length xs → i ≡ slot_number (seen_slots xs) k → slot ≡ get_or xs i slot → child ≡ slot.child.value → below ≡ value means child k
      → effects means slot.pending.0 k below ≡ value means n k
  value-below k xs i slot n child below is some number at child_is below_is =
      let here : slot ≡ get_or xs (slot_number (seen_slots xs) k) slot = at ∙ ap (λ (j : ℕ). get_or xs j slot) number in
      ap (λ (v : Option V). effects means slot.pending.0 k v) (below_is ∙ ap (λ (c : PNode U V). value means c k) child_is)
      ∙ ap (λ (s : Slot U V). effects means s.pending.0 k (value means s.child.value k)) here
      ∙ sym (slots_value_is means k xs slot some)
      ∙ ap (λ (m : PNode U V). value means m k) is

  -- what a descent from a node keeps: the value at the key is that of the node reached
  pub record IsOnWay (k : List ℕ) (from node : PNode U V) : Type 0 where
    pub searchable : IsSearchable node
    pub no_deeper : depth node ≤ depth from
    pub same : value means node k ≡ value means from k

  -- a slot without messages is passed
  pub passed : (k : List ℕ) (xs : List (Slot U V)) (i : ℕ) (slot : Slot U V) (from n child : PNode U V) → IsOnWay k from n → inner (seen_slots xs) ≡ n → i < length xs → i ≡ slot_number (seen_slots xs) k → slot ≡ get_or xs i slot → child ≡ slot.child.value → length slot.pending.0 ≡ 0
      → IsOnWay k from child
  passed k xs i slot from n child w is bound number at child_is none =
      let down = child_searched xs i slot n child is bound at child_is w.searchable in
      let here = value-below k xs i slot n child (value means child k) is (omega arith) number at child_is refl in
      let same : value means child k ≡ value means n k = subst (λ (ms : List (Msg U V)). effects means ms k (value means child k) ≡ value means n k) (nil_from_length slot.pending.0 none) here in
      record { searchable = down.0; no_deeper = omega (arith, down.1, w.no_deeper); same = same ∙ w.same }

  -- what its messages make of the value below is the value
  pub made : (k : List ℕ) (xs : List (Slot U V)) (i : ℕ) (slot : Slot U V) (from n : PNode U V) → IsOnWay k from n → inner (seen_slots xs) ≡ n → i < length xs → i ≡ slot_number (seen_slots xs) k → slot ≡ get_or xs i slot
      → effects means slot.pending.0 k (value means slot.child.value k) ≡ value means from k
  made k xs i slot from n w is bound number at = value-below k xs i slot n slot.child.value (value means slot.child.value k) is (omega arith) number at refl refl ∙ w.same
