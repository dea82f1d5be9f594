-- Slots by their numbers, where others give way.
use Rattle.std.proofs.Common.{◌≡◌, ℕ, zero, suc, ◌+◌, ◌<◌, ◌≤◌, ◌⊎◌, inl, inr, true, List, [], ◌∷◌, refl, ap, sym, ◌∙◌, subst, arith, cond, Option, Some, None, pred}
use Rattle.std.proofs.lemmas.Bool.Decides.{nat_tests}
use Rattle.pathkey.proofs.KeyOrder.{reaches-refl, reaches-from_before, not_reaches_from_before, le_le}
use Rattle.message.specs.declared.msg.Msg.{Msg}
use Rattle.message.specs.Ranges.{reaches}
use Rattle.node.specs.declared.shape.Shape.{Shape}
use Rattle.node.specs.declared.step.StepKind.{StepKind}
use Rattle.node.specs.declared.step.StepKind.TheVariants.{FlushInner, FlushLeaf, SplitInner, MergeLeaves, MergeInner, RootUp, RootDown, DropCovered}
use Rattle.node.specs.Pure.{PNode, leaf, inner, PSlots, none, more}
use Rattle.node.specs.Lawful.{IsLawfulNode, IsLawfulRoot, AreLawfulSlots, TouchOnly, slot_count, starts_at, next_lo}
use Rattle.node.specs.Meaning.{slot_number}
use Rattle.node.specs.Searchable.{AreRising, IsRoot}
use Rattle.node.specs.Grafts.{OfSlot, AtSlot, AtRootSlot, IsGrafted}
use Rattle.node.specs.Site.{joined, Spliced}
use Rattle.node.specs.Sinks.{first_lo}
use Rattle.node.specs.Steps.{OthersStay, root_slot, root_width}
use Rattle.node.proofs.Splice.{IsMore, counted-more, next_lo-joined}
use Rattle.jobs.specs.Survive.{is_outside, number_in}

-- a number is before the w from i on, or behind them
pub outside : (i w j : ℕ) → is_outside i w j ≡ true → (j < i) ⊎ (i + w ≤ j)
outside i w j h = grind (arith, nat_tests)

-- every step names a slot
width_some : (kind : StepKind) (p : List ℕ) → 1 ≤ root_width kind p
width_some FlushInner [] = omega arith
width_some FlushLeaf [] = omega arith
width_some SplitInner [] = omega arith
width_some MergeLeaves [] = omega arith
width_some MergeInner [] = omega arith
width_some RootUp [] = omega arith
width_some RootDown [] = omega arith
width_some DropCovered [] = omega arith
width_some kind (j ∷ p) = omega arith

module _ {U V : Type 0} where
  -- two facts of one slot
  pub at_both : (R T : OfSlot U V) (X : Type 0) (i : ℕ) (hi : Option (List ℕ)) (ss : PSlots U V) → ((lo : List ℕ) (e : Option (List ℕ)) (ms : List (Msg U V)) (c : PNode U V) → R lo e ms c → T lo e ms c → X) → AtSlot R i hi ss → AtSlot T i hi ss → X
  at_both R T X i hi none f h k = absurd h
  at_both R T X zero hi (more lo ms n ss) f h k = f lo (next_lo hi ss) ms n h k
  at_both R T X (suc i) hi (more lo ms n ss) f h k = at_both R T X i hi ss f h k

  -- two facts of one root slot
  pub root_both : (R T : OfSlot U V) (X : Type 0) (i : ℕ) (a : PNode U V) → ((lo : List ℕ) (e : Option (List ℕ)) (ms : List (Msg U V)) (c : PNode U V) → R lo e ms c → T lo e ms c → X) → AtRootSlot R i a → AtRootSlot T i a → X
  root_both R T X i (leaf es) f h k = absurd h
  root_both R T X i (inner ss) f h k = at_both R T X i None ss f h k

  -- what holds of a slot before others
  at_front : (R : OfSlot U V) (j : ℕ) (hi : Option (List ℕ)) (x y : PSlots U V) → j < slot_count x → AtSlot R j hi (joined x y) → AtSlot R j (next_lo hi y) x
  at_front R j hi none y b h = absurd (omega arith)
  at_front R zero hi (more lo ms n x) y b h = subst (λ e. R lo e ms n) (next_lo-joined hi x y) h
  at_front R (suc j) hi (more lo ms n x) y b h = at_front R j hi x y (omega arith) h

  -- and the other way round
  front_at : (R : OfSlot U V) (j : ℕ) (hi : Option (List ℕ)) (x y : PSlots U V) → AtSlot R j (next_lo hi y) x → AtSlot R j hi (joined x y)
  front_at R j hi none y h = absurd h
  front_at R zero hi (more lo ms n x) y h = subst (λ e. R lo e ms n) (sym (next_lo-joined hi x y)) h
  front_at R (suc j) hi (more lo ms n x) y h = front_at R j hi x y h

  -- what holds of a slot behind others
  at_back : (R : OfSlot U V) (j : ℕ) (hi : Option (List ℕ)) (x y : PSlots U V) → slot_count x ≤ j → AtSlot R j hi (joined x y) → (d : ℕ) × (slot_count x + d ≡ j) × AtSlot R d hi y
  at_back R j hi none y b h = (j, omega arith, h)
  at_back R zero hi (more lo ms n x) y b h = absurd (omega arith)
  at_back R (suc j) hi (more lo ms n x) y b h = let r = at_back R j hi x y (omega arith) h in (r.0, omega (arith, r.1), r.2)

  -- and the other way round
  back_at : (R : OfSlot U V) (d : ℕ) (hi : Option (List ℕ)) (x y : PSlots U V) → AtSlot R d hi y → (j : ℕ) × AtSlot R j hi (joined x y)
  back_at R d hi none y h = (d, h)
  back_at R d hi (more lo ms n x) y h = let r = back_at R d hi x y h in (suc r.0, r.1)

  -- slots that begin alike end what stands before them alike
  same_next : (hi : Option (List ℕ)) (x y a : PSlots U V) → IsMore x → starts_at (first_lo x) y → next_lo hi (joined y a) ≡ next_lo hi (joined x a)
  same_next hi none y a p s = absurd p
  same_next hi (more lo ms n x) none a p s = absurd s
  same_next hi (more lo ms n x) (more lp mt o y) a p s = ap Some s

  -- a slot that is none of those that gave way stays
  pub splice_other : (R : OfSlot U V) (i w j : ℕ) (hi : Option (List ℕ)) (a b : PSlots U V) → 1 ≤ w → Spliced (λ e old new. starts_at (first_lo old) new) i w hi a b → (j < i) ⊎ (i + w ≤ j) → AtSlot R j hi a → (d : ℕ) × AtSlot R d hi b
  splice_other R i w j hi a b one s (inl q) h =
      let was = subst (λ z. AtSlot R j hi z) s.was h in
      let front = at_front R j hi s.before (joined s.old s.after) (omega (arith, s.number)) was in
      let wide : 1 ≤ slot_count s.old = omega (arith, s.width) in
      let next = same_next hi s.old s.new s.after (counted-more s.old wide) s.changed in
      (j, subst (λ z. AtSlot R j hi z) (sym s.is) (front_at R j hi s.before (joined s.new s.after) (subst (λ e. AtSlot R j e s.before) (sym next) front)))
  splice_other R i w j hi a b one s (inr q) h =
      let was = subst (λ z. AtSlot R j hi z) s.was h in
      let behind = at_back R j hi s.before (joined s.old s.after) (omega (arith, s.number)) was in
      let last = at_back R behind.0 hi s.old s.after (omega (arith, s.number, s.width, behind.1)) behind.2 in
      let new = back_at R last.0 hi s.new s.after last.2 in
      let all = back_at R new.0 hi s.before (joined s.new s.after) new.1 in
      (all.0, subst (λ z. AtSlot R all.0 hi z) (sym s.is) all.1)

  -- a root slot that a step neither names nor lies below stays
  pub step_other : (R : OfSlot U V) (kind : StepKind) (p : List ℕ) (i j : ℕ) (a b : PNode U V) → OthersStay kind p i a b → is_outside (root_slot p i) (root_width kind p) j ≡ true → AtRootSlot R j a → (d : ℕ) × AtRootSlot R d b
  step_other R kind p i j (leaf es) b s q h = absurd h
  step_other R kind p i j (inner ss) (leaf es) s q h = absurd s
  step_other R kind p i j (inner ss) (inner ts) s q h = splice_other R (root_slot p i) (root_width kind p) j None ss ts (width_some kind p) s (outside (root_slot p i) (root_width kind p) j q) h

  -- a root slot in which no subtree took a place stays
  pub graft_other : (R : OfSlot U V) (i count j : ℕ) (sub a b : PNode U V) → IsGrafted i count sub a b → (j ≡ i → ⊥) → AtRootSlot R j a → (d : ℕ) × AtRootSlot R d b
  graft_other R i count j sub (leaf es) b s q h = absurd h
  graft_other R i count j sub (inner ss) (leaf es) s q h = absurd s
  graft_other R i count j sub (inner ss) (inner ts) s q h =
      let t = s.changed in
      let first : starts_at (first_lo s.old) s.new = subst (λ z. starts_at (first_lo z) s.new) (sym t.was) (subst (λ z. starts_at t.lo z) (sym t.is) refl) in
      let way : (j < i) ⊎ (i + 1 ≤ j) = apart j i q in
      splice_other R i 1 j None ss ts (omega arith) (record { before = s.before; old = s.old; new = s.new; after = s.after; was = s.was; is = s.is; number = s.number; width = s.width; changed = first }) way h
    where
      apart : (j i : ℕ) → (j ≡ i → ⊥) → (j < i) ⊎ (i + 1 ≤ j)
      apart zero zero q = absurd (q refl)
      apart zero (suc i) q = inl (omega arith)
      apart (suc j) zero q = inr (omega arith)
      apart (suc j) (suc i) q = elim (apart j i (λ e. q (ap suc e))) [ inl u ↦ inl (omega (arith, u)) | inr u ↦ inr (omega (arith, u)) ]

  -- later slots begin by where a slot of them begins
  begins_later : (l : List ℕ) (j : ℕ) (hi : Option (List ℕ)) (lo : List ℕ) (ms : List (Msg U V)) (n : PNode U V) (ss : PSlots U V) → AreRising (more lo ms n ss) → AtSlot (λ b e m c. b ≡ l) j hi (more lo ms n ss) → reaches lo l ≡ true
  begins_later l zero hi lo ms n ss r h = subst (λ z. reaches lo z ≡ true) h (reaches-refl lo)
  begins_later l (suc j) hi lo ms n none r h = absurd h
  begins_later l (suc j) hi lo ms n (more lp mt o ss) r h = le_le lo lp l (reaches-from_before lo lp r.0) (begins_later l j hi lp mt o ss r.1 h)

  -- the number of a slot is that of the key where it begins
  pub number_at : (l : List ℕ) (j : ℕ) (hi : Option (List ℕ)) (ss : PSlots U V) → AreRising ss → AtSlot (λ b e m c. b ≡ l) j hi ss → slot_number ss l ≡ j
  number_at l j hi none r h = absurd h
  number_at l zero hi (more lo ms n none) r h = refl
  number_at l zero hi (more lo ms n (more lp mt o ss)) r h = rw (ap (λ z. reaches lp z) (sym h) ∙ not_reaches_from_before lo lp r.0)
  number_at l (suc j) hi (more lo ms n none) r h = absurd h
  number_at l (suc j) hi (more lo ms n (more lp mt o ss)) r h =
      let rest = number_at l j hi (more lp mt o ss) r.1 h in
      let at : reaches lp l ≡ true = begins_later l j hi lp mt o ss r.1 h in
      ap (λ c. cond c (slot_number (more lp mt o ss) l + 1) 0) at ∙ omega (arith, rest)

  -- the same in a root
  pub number_in_root : (l : List ℕ) (j : ℕ) (a : PNode U V) → IsRoot a → AtRootSlot (λ b e m c. b ≡ l) j a → number_in a l ≡ j
  number_in_root l j (leaf es) r h = absurd h
  number_in_root l j (inner ss) r h = number_at l j None ss r.1 h

  -- a lawful slot
  abbrev pub LawfulSlot : Shape → ℕ → List ℕ → Option (List ℕ) → List (Msg U V) → PNode U V → Type 0
  LawfulSlot S h lo e ms c = TouchOnly lo e ms × IsLawfulNode S c (pred h) lo e

  -- each slot of lawful ones is one
  pub lawful_at : (S : Shape) (h : ℕ) (T : OfSlot U V) (i : ℕ) (hi : Option (List ℕ)) (ss : PSlots U V) → AreLawfulSlots S ss h hi → AtSlot T i hi ss → AtSlot (LawfulSlot S h) i hi ss
  lawful_at S h T i hi none l k = absurd k
  lawful_at S h T zero hi (more lo ms n ss) l k = (l.1, l.2)
  lawful_at S h T (suc i) hi (more lo ms n ss) l k = lawful_at S h T i hi ss l.3 k

  -- the same in a root
  pub lawful_in_root : (S : Shape) (h : ℕ) (T : OfSlot U V) (i : ℕ) (a : PNode U V) → IsLawfulRoot S a h → AtRootSlot T i a → AtRootSlot (LawfulSlot S h) i a
  lawful_in_root S h T i (leaf es) l k = absurd k
  lawful_in_root S h T i (inner ss) l k = lawful_at S h T i None ss l.4 k
