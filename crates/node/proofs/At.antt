-- A change at a place, one level up.
use Rattle.std.proofs.Common.{◌≡◌, ℕ, zero, suc, ◌<◌, ◌≤◌, List, [], ◌∷◌, length, get_or, refl, ap, sym, ◌∙◌, subst, arith, Some, None}
use Rattle.std.proofs.Math.ListN.{set}
use Rattle.std.specs.Prelude.{MatchOption}
use Rattle.node.specs.declared.step.StepReply.{StepReply}
use Rattle.node.specs.declared.node.Slot.{Slot}
use Rattle.node.specs.See.{seen_slots}
use Rattle.node.specs.Pure.{PNode, leaf, inner, PSlots, none, more}
use Rattle.node.specs.Site.{slots_at, with_slots, of_child, child_changed}
use Rattle.node.specs.Steps.{At, IsMissing}

module _ {U V : Type 0} where
  -- the same slots with n for the child of the one with this number
  abbrev pub with_child : PSlots U V → ℕ → PNode U V → PSlots U V
  with_child none i n = none
  with_child (more lo ms c ss) zero n = more lo ms n ss
  with_child (more lo ms c ss) (suc i) n = more lo ms c (with_child ss i n)

  -- c stands as the child with this number
  abbrev pub IsChild : PSlots U V → ℕ → PNode U V → Type 0
  IsChild none i c = ⊥
  IsChild (more lo ms n ss) zero c = n ≡ c
  IsChild (more lo ms n ss) (suc i) c = IsChild ss i c

  -- a slot written with its child changed
  pub slots-set : (xs : List (Slot U V)) (i : ℕ) (s d : Slot U V) (n : PNode U V) → i < length xs → s.lo ≡ (get_or xs i d).lo → s.pending.0 ≡ (get_or xs i d).pending.0 → s.child.value ≡ n → seen_slots (set xs i s) ≡ with_child (seen_slots xs) i n
  slots-set [] i s d n h a b e = absurd (omega arith)
  slots-set (x ∷ xs) zero s d n h a b e = λ j. more (a j) (b j) (e j) (seen_slots xs)
  slots-set (x ∷ xs) (suc i) s d n h a b e = ap (more x.lo x.pending.0 x.child.value) (slots-set xs i s d n (omega arith) a b e)

  -- the child of the slot that the code reads
  pub IsChild-get : (xs : List (Slot U V)) (i : ℕ) (s : Slot U V) → i < length xs → s ≡ get_or xs i s → IsChild (seen_slots xs) i s.child.value
  IsChild-get [] i s h e = absurd (omega arith)
  IsChild-get (x ∷ xs) zero s h e = ap (λ (t : Slot U V). t.child.value) (sym e)
  IsChild-get (x ∷ xs) (suc i) s h e = IsChild-get xs i s (omega arith) e

  -- its own child put back changes nothing
  pub with_child-same : (ss : PSlots U V) (i : ℕ) (c : PNode U V) → IsChild ss i c → with_child ss i c ≡ ss
  with_child-same none i c h = refl
  with_child-same (more lo ms n ss) zero c h = ap (λ m. more lo ms m ss) (sym h)
  with_child-same (more lo ms n ss) (suc i) c h = ap (more lo ms n) (with_child-same ss i c h)

  -- what is said of the child with a number is said of that child
  pub of_child-is : {X : Type 0} (d : X) (f : PNode U V → X) (ss : PSlots U V) (i : ℕ) (c : PNode U V) → IsChild ss i c → of_child d f ss i ≡ f c
  of_child-is d f none i c h = absurd h
  of_child-is d f (more lo ms n ss) zero c h = ap f h
  of_child-is d f (more lo ms n ss) (suc i) c h = of_child-is d f ss i c h

  -- to change the child with a number is to put the changed one there
  child_changed-is : (f : PNode U V → PNode U V) (ss : PSlots U V) (i : ℕ) (c : PNode U V) → IsChild ss i c → child_changed f ss i ≡ with_child ss i (f c)
  child_changed-is f none i c h = refl
  child_changed-is f (more lo ms n ss) zero c h = ap (λ x. more lo ms (f x) ss) h
  child_changed-is f (more lo ms n ss) (suc i) c h = ap (more lo ms n) (child_changed-is f ss i c h)

  -- past the last slot there is no child
  pub of_child-past : {X : Type 0} (d : X) (f : PNode U V → X) (xs : List (Slot U V)) (i : ℕ) → length xs ≤ i → of_child d f (seen_slots xs) i ≡ d
  of_child-past d f [] i h = refl
  of_child-past d f (x ∷ xs) zero h = absurd (omega arith)
  of_child-past d f (x ∷ xs) (suc i) h = of_child-past d f xs i (omega arith)

  -- its own slots put back change nothing
  mutual
    pub with_slots-same : (p : List ℕ) (a : PNode U V) (ss : PSlots U V) → slots_at p a ≡ Some ss → with_slots p ss a ≡ a
    with_slots-same p (leaf es) ss h = refl
    with_slots-same [] (inner ts) ss h = (cc)
    with_slots-same (i ∷ p) (inner ts) ss h = ap inner (child_changed-same p ts i ss h)

    -- the same one level up
    pub child_changed-same : (p : List ℕ) (ts : PSlots U V) (i : ℕ) (ss : PSlots U V) → of_child None (slots_at p) ts i ≡ Some ss → child_changed (with_slots p ss) ts i ≡ ts
    child_changed-same p none i ss h = refl
    child_changed-same p (more lo ms n ts) zero ss h = ap (λ x. more lo ms x ts) (with_slots-same p n ss h)
    child_changed-same p (more lo ms n ts) (suc i) ss h = ap (more lo ms n) (child_changed-same p ts i ss h)

  -- nothing has changed, where that is a reply of a walk that finds no node and of the step
  pub at_same : (p : List ℕ) (r : StepReply) (R : PSlots U V → PSlots U V → Type 0) (a b : PNode U V) → b ≡ a → IsMissing r → ((ss : PSlots U V) → R ss ss) → At p r R a b
  at_same p r R a b e m f =
      (elim (slots_at p a) as (λ o. slots_at p a ≡ o → MatchOption o ((b ≡ a) × IsMissing r) (λ ss. (new : PSlots U V) × (b ≡ with_slots p new a) × R ss new)) [
        | None ↦ λ h. (e, m)
        | Some ss ↦ λ h. (ss, e ∙ sym (with_slots-same p a ss h), f ss)
      ]) refl

  -- no node stands there
  pub at_none : (p : List ℕ) (r : StepReply) (R : PSlots U V → PSlots U V → Type 0) (a b : PNode U V) → b ≡ a → IsMissing r → slots_at p a ≡ None → At p r R a b
  at_none p r R a b e m h = subst (λ o. MatchOption o ((b ≡ a) × IsMissing r) (λ ss. (new : PSlots U V) × (b ≡ with_slots p new a) × R ss new)) (sym h) (e, m)

  -- what holds of a place in the child holds of the place below the slot
  at_child : (p : List ℕ) (i : ℕ) (r : StepReply) (R : PSlots U V → PSlots U V → Type 0) (ss : PSlots U V) (c d : PNode U V) → IsChild ss i c → At p r R c d → At (i ∷ p) r R (inner ss) (inner (with_child ss i d))
  at_child p i r R ss c d h q =
      let b = inner (with_child ss i d) in
      subst (λ o. MatchOption o ((b ≡ inner ss) × IsMissing r) (λ s. (new : PSlots U V) × (b ≡ with_slots (i ∷ p) new (inner ss)) × R s new)) (sym (of_child-is None (slots_at p) ss i c h))
      ((elim (slots_at p c) as (λ o. MatchOption o ((d ≡ c) × IsMissing r) (λ s. (new : PSlots U V) × (d ≡ with_slots p new c) × R s new) → MatchOption o ((b ≡ inner ss) × IsMissing r) (λ s. (new : PSlots U V) × (b ≡ with_slots (i ∷ p) new (inner ss)) × R s new)) [
        | None ↦ λ t. (ap (λ x. inner (with_child ss i x)) t.0 ∙ ap inner (with_child-same ss i c h), t.1)
        | Some s ↦ λ t. (t.0, ap (λ x. inner (with_child ss i x)) t.1 ∙ ap inner (sym (child_changed-is (with_slots p t.0) ss i c h)), t.2)
      ]) q)

  -- likewise for the slots as the code writes them: b is a with the child of s changed to n
  pub at_below : (q p : List ℕ) (r : StepReply) (R : PSlots U V → PSlots U V → Type 0) (xs : List (Slot U V)) (i : ℕ) (s t : Slot U V) (n a b : PNode U V) → q ≡ i ∷ p → i < length xs → s ≡ get_or xs i s → t.lo ≡ s.lo → t.pending.0 ≡ s.pending.0 → t.child.value ≡ n → At p r R s.child.value n → inner (seen_slots xs) ≡ a → b ≡ inner (seen_slots (set xs i t)) → At q r R a b
  at_below q p r R xs i s t n a b eq h e el em en u ea eb =
      let lo = el ∙ ap (λ (x : Slot U V). x.lo) e in
      let ms = em ∙ ap (λ (x : Slot U V). x.pending.0) e in
      let new : inner (with_child (seen_slots xs) i n) ≡ b = sym (eb ∙ ap inner (slots-set xs i t s n h lo ms en)) in
      subst (λ z. At z r R a b) (sym eq) (subst (λ y. At (i ∷ p) r R a y) new (subst (λ x. At (i ∷ p) r R x (inner (with_child (seen_slots xs) i n))) ea (at_child p i r R (seen_slots xs) s.child.value n (IsChild-get xs i s h e) u)))

  -- at the node itself
  pub at_here : (r : StepReply) (R : PSlots U V → PSlots U V → Type 0) (ss ts : PSlots U V) (a b : PNode U V) → inner ss ≡ a → b ≡ inner ts → R ss ts → At [] r R a b
  at_here r R ss ts a b ea eb q = subst (λ x. At [] r R x b) ea (ts, eb, q)
