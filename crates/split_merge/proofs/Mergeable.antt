-- Where two slots can be merged.
use Rattle.std.proofs.Common.{◌≡◌, ℕ, zero, suc, ◌<◌, ◌≤◌, false, not, List, [], ◌∷◌, length, get_or, drop, refl, ap, sym, ◌∙◌, subst, arith, ◌++◌, ◌+◌, inl, inr, ⊎_elim}
use Rattle.std.specs.Prelude.{◌&&◌, ◌⊎◌}
use Rattle.message.specs.declared.msg.Msg.{Msg}
use Rattle.node.specs.declared.node.Slot.{Slot}
use Rattle.node.specs.declared.shape.Shape.{Shape}
use Rattle.node.specs.See.{seen_slots}
use Rattle.node.specs.Pure.{PNode, leaf, inner, PSlots, none, more, is_leaf}
use Rattle.node.specs.Lawful.{slot_count, pending}
use Rattle.node.specs.StepRows.{can_merge_leaves, can_merge_inner, AreTooMany}
use Rattle.node.specs.Site.{slots_from}
use Rattle.node.proofs.Placing.{slot_count-slots}
use Rattle.split_merge.specs.Merged.{are_alike, both}
use Rattle.split_merge.proofs.InnerSplit.{slots-append}

module _ {U V : Type 0} where
  -- the slots from a number on begin with the two that the code reads
  pub slots_from-two : (xs : List (Slot U V)) (i : ℕ) (s t : Slot U V) → suc i < length xs → s ≡ get_or xs i s → t ≡ get_or xs (suc i) t → slots_from i (seen_slots xs) ≡ more s.lo s.pending.0 s.child.value (more t.lo t.pending.0 t.child.value (seen_slots (drop (suc (suc i)) xs)))
  slots_from-two [] i s t h e f = absurd (omega arith)
  slots_from-two (x ∷ []) i s t h e f = absurd (omega arith)
  slots_from-two (x ∷ (y ∷ xs)) zero s t h e f = λ j. more (sym e j).lo (sym e j).pending.0 (sym e j).child.value (more (sym f j).lo (sym f j).pending.0 (sym f j).child.value (seen_slots xs))
  slots_from-two (x ∷ (y ∷ xs)) (suc i) s t h e f = slots_from-two (y ∷ xs) i s t (omega arith) e f

  -- without a next slot no leaves are merged
  pub can_merge_leaves-last : (xs : List (Slot U V)) (i : ℕ) → length xs ≤ suc i → can_merge_leaves (slots_from i (seen_slots xs)) ≡ false
  can_merge_leaves-last [] i h = refl
  can_merge_leaves-last (x ∷ []) zero h = one x.lo x.pending.0 x.child.value
    where
      one : (lo : List ℕ) (ms : List (Msg U V)) (n : PNode U V) → can_merge_leaves (more lo ms n none) ≡ false
      one lo ms (leaf es) = refl
      one lo ms (inner cs) = refl
  can_merge_leaves-last (x ∷ []) (suc i) h = refl
  can_merge_leaves-last (x ∷ (y ∷ xs)) zero h = absurd (omega arith)
  can_merge_leaves-last (x ∷ (y ∷ xs)) (suc i) h = can_merge_leaves-last (y ∷ xs) i (omega arith)

  -- and no inner nodes
  pub can_merge_inner-last : (xs : List (Slot U V)) (i : ℕ) → length xs ≤ suc i → can_merge_inner (slots_from i (seen_slots xs)) ≡ false
  can_merge_inner-last [] i h = refl
  can_merge_inner-last (x ∷ []) zero h = one x.lo x.pending.0 x.child.value
    where
      one : (lo : List ℕ) (ms : List (Msg U V)) (n : PNode U V) → can_merge_inner (more lo ms n none) ≡ false
      one lo ms (leaf es) = refl
      one lo ms (inner cs) = refl
  can_merge_inner-last (x ∷ []) (suc i) h = refl
  can_merge_inner-last (x ∷ (y ∷ xs)) zero h = absurd (omega arith)
  can_merge_inner-last (x ∷ (y ∷ xs)) (suc i) h = can_merge_inner-last (y ∷ xs) i (omega arith)

  -- two slots over leaves can be merged, and no others
  pub can_merge_leaves-two : (lo lp : List ℕ) (ms ns : List (Msg U V)) (l r : PNode U V) (a : PSlots U V) → can_merge_leaves (more lo ms l (more lp ns r a)) ≡ (is_leaf l && is_leaf r)
  can_merge_leaves-two lo lp ms ns (leaf es) (leaf fs) a = refl
  can_merge_leaves-two lo lp ms ns (leaf es) (inner ds) a = refl
  can_merge_leaves-two lo lp ms ns (inner cs) r a = refl

  -- and over inner nodes
  pub can_merge_inner-two : (lo lp : List ℕ) (ms ns : List (Msg U V)) (l r : PNode U V) (a : PSlots U V) → can_merge_inner (more lo ms l (more lp ns r a)) ≡ (not (is_leaf l) && not (is_leaf r))
  can_merge_inner-two lo lp ms ns (leaf es) r a = refl
  can_merge_inner-two lo lp ms ns (inner cs) (leaf fs) a = refl
  can_merge_inner-two lo lp ms ns (inner cs) (inner ds) a = refl

  -- likewise for the slots that the code reads
  pub can_merge_leaves-is : (xs : List (Slot U V)) (i : ℕ) (s t : Slot U V) → suc i < length xs → s ≡ get_or xs i s → t ≡ get_or xs (suc i) t → can_merge_leaves (slots_from i (seen_slots xs)) ≡ (is_leaf s.child.value && is_leaf t.child.value)
  can_merge_leaves-is xs i s t h e f = ap can_merge_leaves (slots_from-two xs i s t h e f) ∙ can_merge_leaves-two s.lo t.lo s.pending.0 t.pending.0 s.child.value t.child.value (seen_slots (drop (suc (suc i)) xs))

  -- two slots can be merged as inner nodes where neither child is a leaf
  pub can_merge_inner-is : (xs : List (Slot U V)) (i : ℕ) (s t : Slot U V) → suc i < length xs → s ≡ get_or xs i s → t ≡ get_or xs (suc i) t → can_merge_inner (slots_from i (seen_slots xs)) ≡ (not (is_leaf s.child.value) && not (is_leaf t.child.value))
  can_merge_inner-is xs i s t h e f = ap can_merge_inner (slots_from-two xs i s t h e f) ∙ can_merge_inner-two s.lo t.lo s.pending.0 t.pending.0 s.child.value t.child.value (seen_slots (drop (suc (suc i)) xs))

  -- where only one of them is a leaf, nothing is merged
  pub unlike_leaves : (lo lp : List ℕ) (ms ns : List (Msg U V)) (l r : PNode U V) (a : PSlots U V) → are_alike l r ≡ false → can_merge_leaves (more lo ms l (more lp ns r a)) ≡ false
  unlike_leaves lo lp ms ns (leaf es) (leaf fs) a h = (cc)
  unlike_leaves lo lp ms ns (leaf es) (inner ds) a h = refl
  unlike_leaves lo lp ms ns (inner cs) r a h = refl

  -- and not where the children are of two kinds
  pub unlike_inner : (lo lp : List ℕ) (ms ns : List (Msg U V)) (l r : PNode U V) (a : PSlots U V) → are_alike l r ≡ false → can_merge_inner (more lo ms l (more lp ns r a)) ≡ false
  unlike_inner lo lp ms ns (leaf es) r a h = refl
  unlike_inner lo lp ms ns (inner cs) (leaf fs) a h = refl
  unlike_inner lo lp ms ns (inner cs) (inner ds) a h = (cc)

  -- whether they are too many rests on the children alone
  pub same_many : (S : Shape) (lo lp lq lr : List ℕ) (ms ns os ps : List (Msg U V)) (l r : PNode U V) (a b : PSlots U V) → AreTooMany S (more lo ms l (more lp ns r a)) → AreTooMany S (more lq os l (more lr ps r b))
  same_many S lo lp lq lr ms ns os ps (leaf es) (leaf fs) a b h = h
  same_many S lo lp lq lr ms ns os ps (leaf es) (inner ds) a b h = h
  same_many S lo lp lq lr ms ns os ps (inner cs) (leaf fs) a b h = h
  same_many S lo lp lq lr ms ns os ps (inner cs) (inner ds) a b h = h

  -- ---- the same in the words of the code

  -- leaves that fit in one
  pub few_entries : (S : Shape) (es fs : List (List ℕ × V)) (l r : PNode U V) → leaf es ≡ l → leaf fs ≡ r → length es + length fs ≤ S.leaf → AreTooMany S (more [] [] l (more [] [] r none)) → ⊥
  few_entries S es fs l r a b h many =
      let back : S.leaf < length es + length fs = subst (λ z. AreTooMany S (more [] [] z (more [] [] (leaf fs) none))) (sym a) (subst (λ z. AreTooMany S (more [] [] l (more [] [] z none))) (sym b) many) in
      omega (arith, back, h)

  -- leaves that do not
  pub many_entries : (S : Shape) (es fs : List (List ℕ × V)) (l r : PNode U V) → leaf es ≡ l → leaf fs ≡ r → S.leaf < length es + length fs → AreTooMany S (more [] [] l (more [] [] r none))
  many_entries S es fs l r a b h = subst (λ z. AreTooMany S (more [] [] z (more [] [] r none))) a (subst (λ z. AreTooMany S (more [] [] (leaf es) (more [] [] z none))) b h)

  -- inner nodes that fit in one
  pub few_slots : (S : Shape) (xs ys : List (Slot U V)) (l r : PNode U V) → inner (seen_slots xs) ≡ l → inner (seen_slots ys) ≡ r → length xs + length ys ≤ S.fanout → pending (seen_slots xs) + pending (seen_slots ys) ≤ S.pending → AreTooMany S (more [] [] l (more [] [] r none)) → ⊥
  few_slots S xs ys l r a b few light many =
      let back : (S.fanout < slot_count (seen_slots xs) + slot_count (seen_slots ys)) ⊎ (S.pending < pending (seen_slots xs) + pending (seen_slots ys)) = subst (λ z. AreTooMany S (more [] [] z (more [] [] (inner (seen_slots ys)) none))) (sym a) (subst (λ z. AreTooMany S (more [] [] l (more [] [] z none))) (sym b) many) in
      ⊎_elim (λ f. omega (arith, f, few, slot_count-slots xs, slot_count-slots ys)) (λ p. omega (arith, p, light)) back

  -- nodes of two kinds are not too many for one
  pub unlike_few : (S : Shape) (l r : PNode U V) → are_alike l r ≡ false → AreTooMany S (more [] [] l (more [] [] r none)) → ⊥
  unlike_few S (leaf es) (leaf fs) h many = (cc)
  unlike_few S (leaf es) (inner ds) h many = many
  unlike_few S (inner cs) (leaf fs) h many = many
  unlike_few S (inner cs) (inner ds) h many = (cc)

  -- a lone slot has no next one to be too many with
  pub last_few : (S : Shape) (xs : List (Slot U V)) (i : ℕ) → length xs ≤ suc i → AreTooMany S (slots_from i (seen_slots xs)) → ⊥
  last_few S [] i h many = many
  last_few S (x ∷ []) zero h many = one x.lo x.pending.0 x.child.value many
    where
      one : (lo : List ℕ) (ms : List (Msg U V)) (n : PNode U V) → AreTooMany S (more lo ms n none) → ⊥
      one lo ms (leaf es) z = z
      one lo ms (inner cs) z = z
  last_few S (x ∷ []) (suc i) h many = many
  last_few S (x ∷ (y ∷ xs)) zero h many = absurd (omega arith)
  last_few S (x ∷ (y ∷ xs)) (suc i) h many = last_few S (y ∷ xs) i (omega arith) many

  -- inner nodes that do not
  pub many_slots : (S : Shape) (xs ys : List (Slot U V)) (l r : PNode U V) → inner (seen_slots xs) ≡ l → inner (seen_slots ys) ≡ r → (S.fanout < length xs + length ys) ⊎ (S.pending < pending (seen_slots xs) + pending (seen_slots ys)) → AreTooMany S (more [] [] l (more [] [] r none))
  many_slots S xs ys l r a b h =
      let many = ⊎_elim (λ f. inl (omega (arith, f, slot_count-slots xs, slot_count-slots ys))) (λ p. inr p) h in
      subst (λ z. AreTooMany S (more [] [] z (more [] [] r none))) a (subst (λ z. AreTooMany S (more [] [] (inner (seen_slots xs)) (more [] [] z none))) b many)

  -- two inner nodes end to end
  pub both_inner : (xs ys : List (Slot U V)) (l r : PNode U V) → inner (seen_slots xs) ≡ l → inner (seen_slots ys) ≡ r → inner (seen_slots (xs ++ ys)) ≡ both l r
  both_inner xs ys l r a b = ap inner (slots-append xs ys) ∙ (λ j. both (a j) (b j))
