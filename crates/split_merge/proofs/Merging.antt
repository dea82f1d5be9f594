-- Two slots made one, in the words of their rows.
use Rattle.std.proofs.Common.{◌≡◌, ℕ, zero, suc, ◌+◌, ◌<◌, ◌≤◌, Bool, true, false, List, [], ◌∷◌, ◌++◌, length, get_or, take, drop, refl, ap, sym, ◌∙◌, subst, arith, cond, Option, Some, pred, length-append, inl, inr}
use Rattle.std.proofs.Math.ListN.{set}
use Rattle.std.proofs.lemmas.List.{get_or_default}
use Rattle.std.proofs.lemmas.List.Edits.{get_or-remove_below}
use Rattle.std.specs.List.{insert, remove}
use Rattle.std.specs.Prelude.{◌&&◌}
use Rattle.std.proofs.lemmas.Bool.{false_from_ne_true, and_right}
use Rattle.pathkey.specs.Keys.{is_below}
use Rattle.pathkey.proofs.KeyOrder.{reaches-from_before, not_before_from_reaches, before_from_not_reaches, le_le}
use Rattle.message.specs.declared.msg.Msg.{Msg}
use Rattle.message.specs.Ranges.{reaches, before, within}
use Rattle.message.specs.Effects.{effects, Takes}
use Rattle.message.proofs.KeyOrder.{both as both_of, below_next}
use Rattle.message.proofs.Lists.{untouched}
use Rattle.node.specs.declared.node.Slot.{Slot}
use Rattle.node.specs.declared.shape.Shape.{Shape}
use Rattle.node.specs.declared.step.StepReply.TheVariants.{Did, NotThere}
use Rattle.node.specs.declared.step.StepKind.{StepKind}
use Rattle.node.specs.declared.step.StepKind.TheVariants.{MergeLeaves, MergeInner}
use Rattle.node.specs.See.{see_slot, seen_slots}
use Rattle.node.specs.Pure.{PNode, leaf, inner, PSlots, none, more}
use Rattle.node.specs.Meaning.{value, lookup, slots_value, begins_by}
use Rattle.node.specs.Lawful.{IsLawfulNode, AreLawfulSlots, TouchOnly, slot_count, pending, starts_at, next_lo}
use Rattle.node.specs.StepRows.{AreTooMany, can_merge_leaves, can_merge_inner}
use Rattle.node.specs.Site.{joined, slots_from}
use Rattle.node.specs.Sinks.{Sinks}
use Rattle.node.specs.Steps.{Replies, Formed, HasNoRoom, MayHaveRoom, width}
use Rattle.node.proofs.StepDone.{replies_did}
use Rattle.node.proofs.EntryFacts.{rises-append, lookup-front, lookup-back}
use Rattle.node.proofs.Splice.{starts-more, slot_count-take, slot_count-joined, pending-joined, slots_from-joined, lawful-join, slots_value-joined}
use Rattle.split_merge.specs.Merged.{are_alike, both, IsJoined, MergeReplies}
use Rattle.split_merge.proofs.Mergeable.{slots_from-two, can_merge_leaves-last, can_merge_inner-last, unlike_leaves, unlike_inner, same_many}
use Rattle.split_merge.proofs.Splittable.{not_less}

-- a key behind the pivot lies outside the range before it
past_pivot : (lo p k : List ℕ) → reaches p k ≡ true → within lo (Some p) k ≡ false
past_pivot lo p k r = and_right (reaches lo k) (before k p) (not_before_from_reaches p k r)

-- a key outside a range is outside one that lies in it
outside_part : (lo lp k : List ℕ) (e d : Option (List ℕ)) → (reaches lp k ≡ true → reaches lo k ≡ true) → (is_below k d ≡ true → is_below k e ≡ true) → within lo e k ≡ false → within lp d k ≡ false
outside_part lo lp k e d low high out = false_from_ne_true (within lp d k) (λ w.
    let q = both_of (reaches lp k) (is_below k d) w in
    let inside : within lo e k ≡ true = ap (λ b. b && is_below k e) (low q.0) ∙ high q.1 in
    (cc))

module _ {U V : Type 0} (means : U → Option V → Option V) (S : Shape) where
  -- the node c stands for the nodes l and r, wherever a pivot parts their ranges, and takes two slots' place over them
  record StandsFor (kind : StepKind) (l r c : PNode U V) : Type 0 where
    lawful : (h : ℕ) (lo p : List ℕ) (e : Option (List ℕ)) → IsLawfulNode S l h lo (Some p) → IsLawfulNode S r h p e → before lo p ≡ true → is_below p e ≡ true → IsLawfulNode S c h lo e
    same : (h : ℕ) (lo p : List ℕ) (e : Option (List ℕ)) (k : List ℕ) → IsLawfulNode S l h lo (Some p) → IsLawfulNode S r h p e → value means c k ≡ cond (reaches p k) (value means r k) (value means l k)
    formed : (lo p : List ℕ) (lm rm ms : List (Msg U V)) → length ms ≤ length lm + length rm → Formed means kind S 0 (more lo lm l (more p rm r none)) (more lo ms c none)

  -- the joint leaf of two
  leaves : (es fs : List (List ℕ × V)) → length es + length fs ≤ S.leaf → StandsFor MergeLeaves (leaf es) (leaf fs) (leaf (es ++ fs))
  leaves es fs fit = record {
    lawful = λ h lo p e l r low high. (l.0, omega (arith, fit, length-append es fs), rises-append lo p e es fs (reaches-from_before lo p low) high l.2 r.2);
    same = λ h lo p e k l r. elim (reaches p k) as (λ c. reaches p k ≡ c → lookup (es ++ fs) k ≡ cond c (lookup fs k) (lookup es k)) [
      | true ↦ λ q. lookup-back lo p k es fs l.2 (not_before_from_reaches p k q)
      | false ↦ λ q. lookup-front p k e es fs r.2 (before_from_not_reaches p k q)
    ] refl;
    formed = λ lo p lm rm ms few. (refl, record { lo = lo; pivot = p; left_msgs = lm; right_msgs = rm; msgs = ms; left = es; right = fs; was = refl; is = refl; no_more = few });
  }

  -- slots that start at the pivot end what stands before them there
  next_lo-starts : (e : Option (List ℕ)) (p : List ℕ) (ds : PSlots U V) → starts_at p ds → next_lo e ds ≡ Some p
  next_lo-starts e p none h = absurd h
  next_lo-starts e p (more lo ms n ss) h = ap Some h

  -- and begin by the keys from it on
  begins_by-starts : (p k : List ℕ) (ds : PSlots U V) → starts_at p ds → begins_by ds k ≡ reaches p k
  begins_by-starts p k none h = absurd h
  begins_by-starts p k (more lo ms n ss) h = ap (λ z. reaches z k) h

  -- slots before others start all
  starts_at-before : (lo : List ℕ) (cs ds : PSlots U V) → starts_at lo cs → starts_at lo (joined cs ds)
  starts_at-before lo none ds h = absurd h
  starts_at-before lo (more l ms n ss) ds h = h

  -- the slots of two nodes are lawful end to end
  joint : (h : ℕ) (lo p : List ℕ) (e : Option (List ℕ)) (cs ds : PSlots U V) → IsLawfulNode S (inner cs) h lo (Some p) → IsLawfulNode S (inner ds) h p e → AreLawfulSlots S (joined cs ds) h e
  joint h lo p e cs ds l r = lawful-join S h e cs ds (subst (λ z. AreLawfulSlots S cs h z) (sym (next_lo-starts e p ds r.3)) l.4) r.4

  -- the joint inner node of two
  inners : (cs ds : PSlots U V) → slot_count cs + slot_count ds ≤ S.fanout → pending cs + pending ds ≤ S.pending → StandsFor MergeInner (inner cs) (inner ds) (inner (joined cs ds))
  inners cs ds few light = record {
    lawful = λ h lo p e l r low high. (l.0, omega (arith, few, slot_count-joined cs ds), omega (arith, light, pending-joined cs ds), starts_at-before lo cs ds l.3, joint h lo p e cs ds l r);
    same = λ h lo p e k l r. slots_value-joined S h means e cs ds k (starts-more lo cs l.3) (joint h lo p e cs ds l r) ∙ ap (λ z. cond z (slots_value means ds k) (slots_value means cs k)) (begins_by-starts p k ds r.3);
    formed = λ lo p lm rm ms no_more. (refl, record { lo = lo; pivot = p; left_msgs = lm; right_msgs = rm; msgs = ms; left = cs; right = ds; was = refl; is = refl; no_more = no_more });
  }

  module _ (kind : StepKind) (two : width kind ≡ 2) (lo p : List ℕ) (lm rm ms : List (Msg U V)) (l r c : PNode U V) (s : StandsFor kind l r c) (t : Takes means lm rm ms) where
    -- the two slots before the step
    abbrev old : PSlots U V
    old = more lo lm l (more p rm r none)

    -- the one after it
    abbrev new : PSlots U V
    new = more lo ms c none

    module _ (h : ℕ) (e : Option (List ℕ)) (w : AreLawfulSlots S old h e) where
      -- the slot is lawful
      lawful : AreLawfulSlots S new h e
      lawful =
          let high = w.3.0 in
          let inside : TouchOnly lo e ms = λ k out. t.touched k (w.1 k (outside_part lo lo k e (Some p) (λ r. r) (λ u. below_next k p e u high) out)) (w.3.1 k (outside_part lo p k e e (le_le lo p k (reaches-from_before lo p w.0)) (λ u. u) out)) in
          (below_next lo p e w.0 high, inside, s.lawful (pred h) lo p e w.2 w.3.2 w.0 high, tt)

      -- no message sinks, and at each key the two lists mean what that of its slot meant
      sinks : Sinks means 0 e old new
      sinks = record {
        starts = refl;
        below = λ k i. s.same (pred h) lo p e k w.2 w.3.2;
        above = λ k v i.
            let q = both_of (reaches lo k) (is_below k e) i in
            t.meaning k v ∙ (elim (reaches p k) as (λ b. reaches p k ≡ b → effects means rm k (effects means lm k v) ≡ effects means (cond b rm lm) k v) [
              | true ↦ λ a. ap (effects means rm k) (untouched means lm k v (w.1 k (past_pivot lo p k a)))
              | false ↦ λ a. untouched means rm k (effects means lm k v) (w.3.1 k (ap (λ z. z && is_below k e) a))
            ]) refl;
      }

    -- what a merge that is done has done to the node
    did : (root : Bool) (i : ℕ) (b a : PSlots U V) → slot_count b ≡ i → (MayHaveRoom means kind S root i (joined b (joined old a)) → HasNoRoom means kind S root i (joined b (joined old a)) → ⊥) → Replies means kind S root i (Did 0) (joined b (joined old a)) (joined b (joined new a))
    did root i b a at_i fits = replies_did means kind S root i 0 b old new a at_i (sym two) tt tt refl (λ z. omega (arith, z)) (λ r z. omega (arith, z, t.bound)) (λ h hi w able. (sinks h (next_lo hi a) w, s.formed lo p lm rm ms t.bound, lawful h (next_lo hi a) w)) fits

  module _ (root : Bool) (i : ℕ) (b a : PSlots U V) (at_i : slot_count b ≡ i) (lo p : List ℕ) (lm rm ms : List (Msg U V)) (t : Takes means lm rm ms) where
    -- where the slots are not too many, no more are they between others
    not_many : (l r : PNode U V) → (AreTooMany S (slots_from i (joined b (more lo lm l (more p rm r a)))) → ⊥) → AreTooMany S (more lo lm l (more p rm r a)) → ⊥
    not_many l r f many = f (subst (AreTooMany S) (sym (slots_from-joined i b (more lo lm l (more p rm r a)) at_i)) many)

    -- of other nodes than leaves nothing is said
    did_leaves : (l r : PNode U V) → are_alike l r ≡ true → Replies means MergeLeaves S root i (Did 0) (joined b (more lo lm l (more p rm r a))) (joined b (more lo ms (both l r) a))
    did_leaves (leaf es) (leaf fs) alike = λ h lp hi w able may.
        let few : length es + length fs ≤ S.leaf = not_less S.leaf (length es + length fs) (not_many (leaf es) (leaf fs) may) in
        did MergeLeaves refl lo p lm rm ms (leaf es) (leaf fs) (leaf (es ++ fs)) (leaves es fs few) t root i b a at_i (λ z. z) h lp hi w able may
    did_leaves (leaf es) (inner ds) alike = absurd (let f : false ≡ true = alike in (cc))
    did_leaves (inner cs) (leaf fs) alike = absurd (let f : false ≡ true = alike in (cc))
    did_leaves (inner cs) (inner ds) alike = λ h lp hi w able may. absurd (
        let never : can_merge_leaves (slots_from i (joined b (more lo lm (inner cs) (more p rm (inner ds) a)))) ≡ false = ap can_merge_leaves (slots_from-joined i b (more lo lm (inner cs) (more p rm (inner ds) a)) at_i) in
        (cc))

    -- nor of other nodes than inner ones
    did_inner : (l r : PNode U V) → are_alike l r ≡ true → Replies means MergeInner S root i (Did 0) (joined b (more lo lm l (more p rm r a))) (joined b (more lo ms (both l r) a))
    did_inner (leaf es) (leaf fs) alike = λ h lp hi w able may. absurd (
        let never : can_merge_inner (slots_from i (joined b (more lo lm (leaf es) (more p rm (leaf fs) a)))) ≡ false = ap can_merge_inner (slots_from-joined i b (more lo lm (leaf es) (more p rm (leaf fs) a)) at_i) in
        (cc))
    did_inner (leaf es) (inner ds) alike = absurd (let f : false ≡ true = alike in (cc))
    did_inner (inner cs) (leaf fs) alike = absurd (let f : false ≡ true = alike in (cc))
    did_inner (inner cs) (inner ds) alike = λ h lp hi w able may.
        let fits = not_many (inner cs) (inner ds) may in
        let few : slot_count cs + slot_count ds ≤ S.fanout = not_less S.fanout (slot_count cs + slot_count ds) (λ z. fits (inl z)) in
        let light : pending cs + pending ds ≤ S.pending = not_less S.pending (pending cs + pending ds) (λ z. fits (inr z)) in
        did MergeInner refl lo p lm rm ms (inner cs) (inner ds) (inner (joined cs ds)) (inners cs ds few light) t root i b a at_i (λ z. z) h lp hi w able may

-- ---- the same in the words of the code

module _ {U V : Type 0} where
  -- the slots before a number, and those from it on
  slots-parts : (xs : List (Slot U V)) (i : ℕ) → seen_slots xs ≡ joined (seen_slots (take i xs)) (slots_from i (seen_slots xs))
  slots-parts [] zero = refl
  slots-parts [] (suc i) = refl
  slots-parts (x ∷ xs) zero = refl
  slots-parts (x ∷ xs) (suc i) = ap (more x.lo x.pending.0 x.child.value) (slots-parts xs i)

  -- the slots with one for two
  slots-merged : (xs : List (Slot U V)) (i : ℕ) (m : Slot U V) → suc i < length xs → seen_slots (set (remove xs (suc i)) i m) ≡ joined (seen_slots (take i xs)) (more m.lo m.pending.0 m.child.value (seen_slots (drop (suc (suc i)) xs)))
  slots-merged [] i m h = absurd (omega arith)
  slots-merged (x ∷ []) i m h = absurd (omega arith)
  slots-merged (x ∷ (y ∷ xs)) zero m h = refl
  slots-merged (x ∷ (y ∷ xs)) (suc i) m h = ap (more x.lo x.pending.0 x.child.value) (slots-merged (y ∷ xs) i m (omega arith))

  -- a slot put back where it was taken, behind one that is as it was
  slots-put_back : (xs : List (Slot U V)) (i : ℕ) (s t l r : Slot U V) → suc i < length xs → s ≡ get_or xs i s → t ≡ get_or xs (suc i) t → see_slot l ≡ see_slot s → see_slot r ≡ see_slot t → seen_slots (insert (set (remove xs (suc i)) i l) (suc i) r) ≡ seen_slots xs
  slots-put_back [] i s t l r h e f p q = absurd (omega arith)
  slots-put_back (x ∷ []) i s t l r h e f p q = absurd (omega arith)
  slots-put_back (x ∷ (y ∷ xs)) zero s t l r h e f p q =
      let a = p ∙ ap see_slot e in
      let b = q ∙ ap see_slot f in
      λ j. more (a j).lo (a j).msgs (a j).child (more (b j).lo (b j).msgs (b j).child (seen_slots xs))
  slots-put_back (x ∷ (y ∷ xs)) (suc i) s t l r h e f p q = ap (more x.lo x.pending.0 x.child.value) (slots-put_back (y ∷ xs) i s t l r (omega arith) e f p q)

  module _ (means : U → Option V → Option V) (S : Shape) (root : Bool) (i : ℕ) (xs : List (Slot U V)) where
    -- where there is no next slot
    pub without_next : length xs ≤ suc i → MergeReplies means S root i NotThere (seen_slots xs) (seen_slots xs)
    without_next h = ((refl, λ hi. can_merge_leaves-last xs i h), (refl, λ hi. can_merge_inner-last xs i h))

    module _ (s t : Slot U V) (h : suc i < length xs) (e : s ≡ get_or xs i s) (f : t ≡ get_or xs (suc i) t) where
      -- where the children are of two kinds
      pub unlike : are_alike s.child.value t.child.value ≡ false → MergeReplies means S root i NotThere (seen_slots xs) (seen_slots xs)
      unlike q = (
        (refl, λ hi. ap can_merge_leaves (slots_from-two xs i s t h e f) ∙ unlike_leaves s.lo t.lo s.pending.0 t.pending.0 s.child.value t.child.value _ q),
        (refl, λ hi. ap can_merge_inner (slots_from-two xs i s t h e f) ∙ unlike_inner s.lo t.lo s.pending.0 t.pending.0 s.child.value t.child.value _ q),
      )

      -- whether there is room rests on the children alone
      pub too_many : AreTooMany S (more [] [] s.child.value (more [] [] t.child.value none)) → AreTooMany S (slots_from i (seen_slots xs))
      too_many q = subst (AreTooMany S) (sym (slots_from-two xs i s t h e f)) (same_many S [] [] s.lo t.lo [] [] s.pending.0 t.pending.0 s.child.value t.child.value none _ q)

      -- too many slots below two slots are too many below the two alone
      pub too_many_below : AreTooMany S (slots_from i (seen_slots xs)) → AreTooMany S (more [] [] s.child.value (more [] [] t.child.value none))
      too_many_below q = same_many S s.lo t.lo [] [] s.pending.0 t.pending.0 [] [] s.child.value t.child.value _ none (subst (AreTooMany S) (slots_from-two xs i s t h e f) q)

      -- where they have become one
      merged : (m : Slot U V) → IsJoined means s t m → are_alike s.child.value t.child.value ≡ true → MergeReplies means S root i (Did 0) (seen_slots xs) (seen_slots (set (remove xs (suc i)) i m))
      merged m j alike =
          let b = seen_slots (take i xs) in
          let a = seen_slots (drop (suc (suc i)) xs) in
          let was : seen_slots xs ≡ joined b (more s.lo s.pending.0 s.child.value (more t.lo t.pending.0 t.child.value a)) = slots-parts xs i ∙ ap (joined b) (slots_from-two xs i s t h e f) in
          let is : seen_slots (set (remove xs (suc i)) i m) ≡ joined b (more s.lo m.pending.0 (both s.child.value t.child.value) a) = slots-merged xs i m h ∙ (λ k. joined b (more (j.same_lo k) m.pending.0 (j.child k) a)) in
          let at_i = slot_count-take xs i (omega arith) in
          let over_leaves = did_leaves means S root i b a at_i s.lo t.lo s.pending.0 t.pending.0 m.pending.0 j.taken s.child.value t.child.value alike in
          let over_inner = did_inner means S root i b a at_i s.lo t.lo s.pending.0 t.pending.0 m.pending.0 j.taken s.child.value t.child.value alike in
          subst (λ z. MergeReplies means S root i (Did 0) z (seen_slots (set (remove xs (suc i)) i m))) (sym was) (subst (λ z. MergeReplies means S root i (Did 0) (joined b (more s.lo s.pending.0 s.child.value (more t.lo t.pending.0 t.child.value a))) z) (sym is) (over_leaves, over_inner))

  module _ (means : U → Option V → Option V) (i : ℕ) (xs : List (Slot U V)) where
    -- the slots without the second of the two, where the code reads the first
    module _ (ys : List (Slot U V)) (s t : Slot U V) (h : suc i < length xs) (left : ys ≡ remove xs (suc i)) (at_s : s ≡ get_or ys i s) (at_t : t ≡ get_or xs (suc i) t) where
      -- it is the first of the two
      same_first : s ≡ get_or xs i s
      same_first = at_s ∙ ap (λ z. get_or z i s) left ∙ get_or-remove_below xs (suc i) s i (omega arith) h

      -- they are of one kind, where a and b are the two as they were read before
      pub alike_left : (a b : Slot U V) → a ≡ get_or xs i a → b ≡ get_or xs (suc i) b → are_alike a.child.value b.child.value ≡ true → are_alike s.child.value t.child.value ≡ true
      alike_left a b at_a at_b alike =
          let first : a ≡ s = at_a ∙ get_or_default xs i a s (omega arith) ∙ sym same_first in
          let second : b ≡ t = at_b ∙ get_or_default xs (suc i) b t h ∙ sym at_t in
          subst (λ (z : Slot U V). are_alike z.child.value t.child.value ≡ true) first (subst (λ (z : Slot U V). are_alike a.child.value z.child.value ≡ true) second alike)

      -- what a merge leaves
      pub merged_left : (S : Shape) (root : Bool) (a b m : Slot U V) → a ≡ get_or xs i a → b ≡ get_or xs (suc i) b → are_alike a.child.value b.child.value ≡ true → IsJoined means s t m → MergeReplies means S root i (Did 0) (seen_slots xs) (seen_slots (set ys i m))
      merged_left S root a b m at_a at_b alike j = subst (λ z. MergeReplies means S root i (Did 0) (seen_slots xs) (seen_slots (set z i m))) (sym left) (merged means S root i xs s t h same_first at_t m j (alike_left a b at_a at_b alike))

      -- the slots with the second put back, where both are as they were
      pub put_back : (l r : Slot U V) → see_slot l ≡ see_slot s → see_slot r ≡ see_slot t → seen_slots (insert (set ys i l) (suc i) r) ≡ seen_slots xs
      put_back l r p q = ap (λ z. seen_slots (insert (set z i l) (suc i) r)) left ∙ slots-put_back xs i s t l r h same_first at_t p q
