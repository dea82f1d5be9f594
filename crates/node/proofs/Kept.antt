-- What a step at a node keeps of the tree.
use Rattle.std.proofs.Common.{◌≡◌, ℕ, zero, suc, ◌+◌, ◌≤◌, Bool, true, false, List, [], ◌∷◌, length, refl, ap, sym, ◌∙◌, subst, cond, Option, Some, None, pred}
use Rattle.std.specs.Prelude.{◌&&◌}
use Rattle.node.specs.declared.shape.Shape.{Shape}
use Rattle.node.specs.Pure.{PNode, leaf, inner, PSlots, none, more}
use Rattle.pathkey.specs.Keys.{is_below}
use Rattle.pathkey.proofs.KeyOrder.{from_start}
use Rattle.message.specs.Ranges.{reaches, within}
use Rattle.message.specs.Effects.{effects}
use Rattle.node.specs.Meaning.{value, slots_value, begins_by}
use Rattle.node.specs.Lawful.{IsLawfulNode, IsLawfulRoot, AreLawfulSlots, TouchOnly, slot_count, pending, starts_at, next_lo}
use Rattle.node.specs.Site.{slots_at, with_slots, end_at, end_of, of_child, child_changed}
use Rattle.node.specs.Sinks.{first_lo}
use Rattle.node.specs.Steps.{LawfulSlots, is_top}
use Rattle.message.proofs.KeyOrder.{both}
use Rattle.node.proofs.Splice.{ends_before, first_reached, starts-first}

module _ {U V : Type 0} where
  -- the slots new mean what ss mean, and are lawful, and Q holds
  pub record SlotsKept (means : U → Option V → Option V) (shape : Shape) (root : Bool) (h : ℕ) (lo : List ℕ) (hi : Option (List ℕ)) (ss new : PSlots U V) (Q : Type 0) : Type 0 where
    pub fact : Q
    pub lawful : LawfulSlots shape root h lo hi new
    pub same : (k : List ℕ) → within lo hi k ≡ true → slots_value means new k ≡ slots_value means ss k

  -- a changed child leaves the ends of slots
  next_lo-child_changed : (f : PNode U V → PNode U V) (hi : Option (List ℕ)) (ss : PSlots U V) (i : ℕ) → next_lo hi (child_changed f ss i) ≡ next_lo hi ss
  next_lo-child_changed f hi none i = refl
  next_lo-child_changed f hi (more lo ms c ss) zero = refl
  next_lo-child_changed f hi (more lo ms c ss) (suc i) = refl

  -- and where they begin
  begins_by-child_changed : (f : PNode U V → PNode U V) (ss : PSlots U V) (i : ℕ) (k : List ℕ) → begins_by (child_changed f ss i) k ≡ begins_by ss k
  begins_by-child_changed f none i k = refl
  begins_by-child_changed f (more lo ms c ss) zero k = refl
  begins_by-child_changed f (more lo ms c ss) (suc i) k = refl

  -- and their number
  slot_count-child_changed : (f : PNode U V → PNode U V) (ss : PSlots U V) (i : ℕ) → slot_count (child_changed f ss i) ≡ slot_count ss
  slot_count-child_changed f none i = refl
  slot_count-child_changed f (more lo ms c ss) zero = refl
  slot_count-child_changed f (more lo ms c ss) (suc i) = ap (λ m. m + 1) (slot_count-child_changed f ss i)

  -- and what waits in them
  pending-child_changed : (f : PNode U V → PNode U V) (ss : PSlots U V) (i : ℕ) → pending (child_changed f ss i) ≡ pending ss
  pending-child_changed f none i = refl
  pending-child_changed f (more lo ms c ss) zero = refl
  pending-child_changed f (more lo ms c ss) (suc i) = ap (λ m. length ms + m) (pending-child_changed f ss i)

  -- and where the first begins
  starts_at-child_changed : (f : PNode U V → PNode U V) (lo : List ℕ) (ss : PSlots U V) (i : ℕ) → starts_at lo ss → starts_at lo (child_changed f ss i)
  starts_at-child_changed f lo none i h = h
  starts_at-child_changed f lo (more l ms c ss) zero h = h
  starts_at-child_changed f lo (more l ms c ss) (suc i) h = h

  module _ (means : U → Option V → Option V) (shape : Shape) (ss new : PSlots U V) (Q : Type 0) where
    -- what a step keeps of the slots of its node, whatever their height and their beginning
    abbrev Keep : Bool → Option (List ℕ) → Type 0
    Keep root e = (h : ℕ) (lo : List ℕ) → LawfulSlots shape root h lo e ss → SlotsKept means shape root h lo e ss new Q

    -- what it keeps of a node at or above its place
    abbrev NodeKept : List ℕ → PNode U V → ℕ → List ℕ → Option (List ℕ) → Type 0
    NodeKept p a h lo hi = IsLawfulNode shape (with_slots p new a) h lo hi × ((k : List ℕ) → within lo hi k ≡ true → value means (with_slots p new a) k ≡ value means a k) × Q

    -- at the node itself
    here : (ts : PSlots U V) (h : ℕ) (lo : List ℕ) (hi : Option (List ℕ)) → ts ≡ ss → Keep false hi → IsLawfulNode shape (inner ts) h lo hi → NodeKept [] (inner ts) h lo hi
    here ts h lo hi e f l =
        let k = f h lo (subst (λ z. LawfulSlots shape false h lo hi z) e (record { above = l.0; few = l.1; light = λ r. l.2; starts = l.3; each = l.4 })) in
        ((k.lawful.above, k.lawful.few, k.lawful.light refl, k.lawful.starts, k.lawful.each), λ q w. k.same q w ∙ ap (λ z. slots_value means z q) (sym e), k.fact)

    -- at a node above
    mutual
      pub node_kept : (p : List ℕ) (a : PNode U V) (h : ℕ) (lo : List ℕ) (hi : Option (List ℕ)) → slots_at p a ≡ Some ss → Keep false (end_at p hi a) → IsLawfulNode shape a h lo hi → NodeKept p a h lo hi
      node_kept p (leaf es) h lo hi e f l = (cc)
      node_kept [] (inner ts) h lo hi e f l = here ts h lo hi (cc) f l
      node_kept (i ∷ p) (inner ts) h lo hi e f l =
          let g = with_slots p new in
          let r = slots_kept p ts i h hi e f l.4 in
          let first = starts-first lo ts l.3 in
          ((l.0, subst (λ z. z ≤ shape.fanout) (sym (slot_count-child_changed g ts i)) l.1, subst (λ z. z ≤ shape.pending) (sym (pending-child_changed g ts i)) l.2, starts_at-child_changed g lo ts i l.3, r.0), λ k w. r.1 k (ap (λ z. within z hi k) first ∙ w), r.2)

      -- in the slots of a node above
      slots_kept : (p : List ℕ) (ts : PSlots U V) (i : ℕ) (h : ℕ) (hi : Option (List ℕ)) → of_child None (slots_at p) ts i ≡ Some ss → Keep false (of_child hi (end_at p (end_of hi ts i)) ts i) → AreLawfulSlots shape ts h hi → AreLawfulSlots shape (child_changed (with_slots p new) ts i) h hi × ((k : List ℕ) → within (first_lo ts) hi k ≡ true → slots_value means (child_changed (with_slots p new) ts i) k ≡ slots_value means ts k) × Q
      slots_kept p none i h hi e f l = (cc)
      slots_kept p (more lo ms n ts) zero h hi e f l =
          let r = node_kept p n (pred h) lo (next_lo hi ts) e f l.2 in
          let new_value = λ (k : List ℕ). effects means ms k (value means (with_slots p new n) k) in (
            (l.0, l.1, r.0, l.3),
            λ k w.
                let q = both (reaches lo k) (is_below k hi) w in
                (elim (begins_by ts k) as (λ c. begins_by ts k ≡ c → cond c (slots_value means ts k) (new_value k) ≡ cond c (slots_value means ts k) (effects means ms k (value means n k))) [
                  | true ↦ λ b. refl
                  | false ↦ λ b. ap (effects means ms k) (r.1 k (ap (λ z. z && is_below k (next_lo hi ts)) q.0 ∙ ends_before means hi ts k b q.1))
                ]) refl,
            r.2,
          )
      slots_kept p (more lo ms n ts) (suc i) h hi e f l =
          let g = with_slots p new in
          let r = slots_kept p ts i h hi e f l.3 in
          let same = sym (next_lo-child_changed g hi ts i) in (
            (subst (λ z. is_below lo z ≡ true) same l.0, subst (λ z. TouchOnly lo z ms) same l.1, subst (λ z. IsLawfulNode shape n (pred h) lo z) same l.2, r.0),
            λ k w.
                let q = both (reaches lo k) (is_below k hi) w in
                let old = effects means ms k (value means n k) in
                ap (λ c. cond c (slots_value means (child_changed g ts i) k) old) (begins_by-child_changed g ts i k) ∙ (elim (begins_by ts k) as (λ c. begins_by ts k ≡ c → cond c (slots_value means (child_changed g ts i) k) old ≡ cond c (slots_value means ts k) old) [
                  | true ↦ λ b. r.1 k (ap (λ z. z && is_below k hi) (first_reached ts k b) ∙ q.1)
                  | false ↦ λ b. refl
                ]) refl,
            r.2,
          )

    -- a step that keeps the slots of the node at its place keeps the tree
    pub root_kept : (p : List ℕ) (a : PNode U V) (h : ℕ) → slots_at p a ≡ Some ss → Keep (is_top p) (end_at p None a) → IsLawfulRoot shape a h → IsLawfulRoot shape (with_slots p new a) h × ((k : List ℕ) → value means (with_slots p new a) k ≡ value means a k) × Q
    root_kept p (leaf es) h e f l = absurd l
    root_kept [] (inner ts) h e f l =
        let q : ts ≡ ss = (cc) in
        let k = f h [] (subst (λ z. LawfulSlots shape true h [] None z) q (record { above = l.0; few = l.2; light = λ r. (cc); starts = l.3; each = l.4 })) in
        ((k.lawful.above, l.1, k.lawful.few, k.lawful.starts, k.lawful.each), λ x. k.same x (ap (λ z. z && true) (from_start x)) ∙ ap (λ z. slots_value means z x) (sym q), k.fact)
    root_kept (i ∷ p) (inner ts) h e f l =
        let g = with_slots p new in
        let r = slots_kept p ts i h None e f l.4 in
        let first = starts-first [] ts l.3 in
        ((l.0, l.1, subst (λ z. z ≤ shape.fanout) (sym (slot_count-child_changed g ts i)) l.2, starts_at-child_changed g [] ts i l.3, r.0), λ k. r.1 k (ap (λ z. within z None k) first ∙ ap (λ z. z && true) (from_start k)), r.2)
