-- Where an inner node can be split.
use Rattle.std.proofs.Common.{◌≡◌, ℕ, zero, suc, ◌+◌, ◌<◌, ◌≤◌, Bool, false, List, [], ◌∷◌, length, get_or, ap, sym, ◌∙◌, subst, Option, arith, inl, inr, ⊎_elim}
use Rattle.message.specs.declared.msg.Msg.{Msg}
use Rattle.node.specs.declared.shape.Shape.{Shape}
use Rattle.node.specs.declared.step.StepKind.TheVariants.{SplitInner}
use Rattle.node.specs.Steps.{HasNoRoom}
use Rattle.std.proofs.Math.Dec.{leb}
use Rattle.std.proofs.lemmas.Bool.{le-leb}
use Rattle.node.specs.declared.node.Slot.{Slot}
use Rattle.node.specs.See.{seen_slots}
use Rattle.node.specs.Pure.{PNode, inner, PSlots}
use Rattle.node.specs.Lawful.{slot_count, pending}
use Rattle.message.specs.Effects.{range_count}
use Rattle.node.specs.StepRows.{can_split_inner, is_divisible, ranges_first, CanPart, CannotPart}
use Rattle.node.specs.Site.{slots_from}
use Rattle.node.proofs.StepPlaces.{slots_from-get}

-- what is not greater is less
pub not_less : (a b : ℕ) → (a < b → ⊥) → b ≤ a
not_less zero zero f = omega arith
not_less zero (suc b) f = absurd (f (omega arith))
not_less (suc a) zero f = omega arith
not_less (suc a) (suc b) f = let h = not_less a b (λ z. f (omega (arith, z))) in omega (arith, h)

module _ {U V : Type 0} where
  -- a slot can be split where its child is divisible
  pub can_split_inner-is : (xs : List (Slot U V)) (i : ℕ) (s : Slot U V) → i < length xs → s ≡ get_or xs i s → can_split_inner (slots_from i (seen_slots xs)) ≡ is_divisible s.child.value
  can_split_inner-is xs i s h e = ap can_split_inner (slots_from-get xs i s h) ∙ ap (λ (y : Slot U V). is_divisible y.child.value) (sym e)

  -- a node is divisible where it has two slots or more
  pub divisible-count : (xs : List (Slot U V)) (c : PNode U V) → inner (seen_slots xs) ≡ c → is_divisible c ≡ leb 2 (length xs)
  divisible-count [] c e = ap is_divisible (sym e)
  divisible-count (x ∷ []) c e = ap is_divisible (sym e)
  divisible-count (x ∷ (y ∷ xs)) c e = ap is_divisible (sym e) ∙ sym (le-leb 2 (length (x ∷ (y ∷ xs))) (omega arith))

  -- with less it is not
  pub divisible-few : (xs : List (Slot U V)) (c : PNode U V) → inner (seen_slots xs) ≡ c → length xs < 2 → is_divisible c ≡ false
  divisible-few [] c e h = ap is_divisible (sym e)
  divisible-few (x ∷ []) c e h = ap is_divisible (sym e)
  divisible-few (x ∷ (y ∷ xs)) c e h = absurd (omega arith)

  -- the range-deletes of the slot that the code reads
  pub ranges_first-is : (xs : List (Slot U V)) (i : ℕ) (s : Slot U V) → i < length xs → s ≡ get_or xs i s → ranges_first (slots_from i (seen_slots xs)) ≡ range_count s.pending.0
  ranges_first-is xs i s h e = ap ranges_first (slots_from-get xs i s h) ∙ ap (λ (y : Slot U V). range_count y.pending.0) (sym e)

  -- where it is not so that there is no room, there is
  pub can_part : (shape : Shape) (root : Bool) (ss : PSlots U V) (n : ℕ) → (CannotPart shape root ss 0 n → ⊥) → CanPart shape root ss 0 n
  can_part shape root ss n fits =
      let few : slot_count ss + 1 ≤ shape.fanout = not_less shape.fanout (slot_count ss + 1) (λ z. fits (inl (omega (arith, z)))) in
      let light : root ≡ false → pending ss + n ≤ shape.pending = λ r. not_less shape.pending (pending ss + n) (λ z. fits (inr (r, omega (arith, z)))) in
      (omega (arith, few), λ r. omega (arith, light r))

  -- and not both
  not_both : (shape : Shape) (root : Bool) (ss : PSlots U V) (n : ℕ) → CanPart shape root ss 0 n → CannotPart shape root ss 0 n → ⊥
  not_both shape root ss n applies cannot = ⊎_elim (λ f. omega (arith, f, applies.0)) (λ p. omega (arith, p.1, applies.1 p.0)) cannot

  -- where the code says that there is no room, the node has none
  pub no_room : (means : U → Option V → Option V) (shape : Shape) (root : Bool) (i : ℕ) (xs : List (Slot U V)) (s : Slot U V) (ms : List (Msg U V)) → i < length xs → s ≡ get_or xs i s → ms ≡ s.pending.0 → CannotPart shape root (seen_slots xs) 0 (range_count ms) → HasNoRoom means SplitInner shape root i (seen_slots xs)
  no_room means shape root i xs s ms h at own full = subst (CannotPart shape root (seen_slots xs) 0) (ap range_count own ∙ sym (ranges_first-is xs i s h at)) full

  -- where it says that there is, the node has
  pub some_room : (means : U → Option V → Option V) (shape : Shape) (root : Bool) (i : ℕ) (xs : List (Slot U V)) (s : Slot U V) (ms : List (Msg U V)) → i < length xs → s ≡ get_or xs i s → ms ≡ s.pending.0 → CanPart shape root (seen_slots xs) 0 (range_count ms) → HasNoRoom means SplitInner shape root i (seen_slots xs) → ⊥
  some_room means shape root i xs s ms h at own room full = not_both shape root (seen_slots xs) (range_count ms) room (subst (CannotPart shape root (seen_slots xs) 0) (ranges_first-is xs i s h at ∙ sym (ap range_count own)) full)
