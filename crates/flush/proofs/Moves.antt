-- Messages that are moved into slots.
use Rattle.std.proofs.Common.{◌≡◌, ℕ, zero, suc, ◌+◌, ◌++◌, ◌<◌, ◌≤◌, List, [], ◌∷◌, length, take, drop, get_or, refl, ap, sym, ◌∙◌, subst, Option, Some, None, true, Result, arith, length-drop}
use Rattle.std.specs.Prelude.{Ok, Err, IfOk}
use Rattle.std.specs.List.{All}
use Rattle.std.specs.Option.{option_to_list}
use Rattle.std.proofs.Math.ListN.{set}
use Rattle.std.proofs.lemmas.List.Elements.{All-head, All-tail}
use Rattle.std.proofs.Math.Seq.{take-add}
use Rattle.std.proofs.lemmas.List.{append-nil, drop-drop, length-take-le}
use Rattle.pathkey.specs.Keys.{is_below}
use Rattle.message.specs.declared.msg.Msg.{Msg}
use Rattle.message.specs.Effects.{point_key, Takes}
use Rattle.message.specs.Oldest.{first_point}
use Rattle.message.specs.Cuts.{cut_to, pieces}
use Rattle.message.proofs.Composing.{takes-then}
use Rattle.node.specs.declared.step.StepReply.TheVariants.{Did}
use Rattle.node.specs.Appended.{batches_by_slot, all_at, HaveTaken}
use Rattle.node.specs.Lawful.{next_lo}
use Rattle.node.specs.Meaning.{holder}
use Rattle.node.specs.declared.node.Slot.{Slot}
use Rattle.node.specs.See.{seen_slots}
use Rattle.node.specs.Pure.{PNode, leaf, inner, PSlots, none, more, slots}
use Rattle.node.specs.Searchable.{AreRising, AreSearchable, IsSearchable}
use Rattle.node.specs.StepRows.{piece_count}
use Rattle.node.proofs.Appending.{next_lo-taken}
use Rattle.message.proofs.Parting.{pieces-append}
use Rattle.node.proofs.Sinking.{pending-taken}
use Rattle.node.proofs.Wholes.{at_holder, see-pending, taken-at, taken-none}
use Rattle.flush.specs.Sunk.{Moved, MovedInto, Sunk, free_pieces}
use Rattle.flush.proofs.Counts.{piece_count-append, piece_count-none}

module _ {U V : Type 0} where
  -- the messages of parts
  abbrev parts_len : List (List (Msg U V)) → ℕ
  parts_len [] = 0
  parts_len (p ∷ ps) = length p + parts_len ps

  parts_len-parts : (ms : List (Msg U V)) (ss : PSlots U V) → parts_len (batches_by_slot None ms ss) ≡ piece_count ms ss
  parts_len-parts ms none = refl
  parts_len-parts ms (more lo old n ss) = ap (λ k. length (pieces lo (next_lo None ss) ms) + k) (parts_len-parts ms ss)

  parts_len-all_at : (i : ℕ) (ms : List (Msg U V)) (ss : PSlots U V) → parts_len (all_at i ms ss) ≤ length ms
  parts_len-all_at i ms none = omega arith
  parts_len-all_at zero ms (more lo old n ss) = omega (arith, parts_len-parts [] ss, piece_count-none ss)
  parts_len-all_at (suc i) ms (more lo old n ss) = omega (arith, parts_len-all_at i ms ss)

  -- messages for one slot make no more pieces than they are
  count-all_at : (i : ℕ) (ms : List (Msg U V)) (ss : PSlots U V) → all_at i ms ss ≡ batches_by_slot None ms ss → piece_count ms ss ≤ length ms
  count-all_at i ms ss e = omega (arith, ap parts_len e, parts_len-parts ms ss, parts_len-all_at i ms ss)

  -- ---- messages for one key

  -- the parts of two lists of messages end to end
  abbrev both_parts : List (List (Msg U V)) → List (List (Msg U V)) → List (List (Msg U V))
  both_parts [] qs = []
  both_parts (p ∷ ps) [] = []
  both_parts (p ∷ ps) (q ∷ qs) = (p ++ q) ∷ both_parts ps qs

  parts_more : (m : Msg U V) (ms : List (Msg U V)) (ss : PSlots U V) → batches_by_slot None (m ∷ ms) ss ≡ both_parts (batches_by_slot None (m ∷ []) ss) (batches_by_slot None ms ss)
  parts_more m ms none = refl
  parts_more m ms (more lo old n ss) =
      ap (λ p. (p ++ pieces lo (next_lo None ss) ms) ∷ batches_by_slot None (m ∷ ms) ss) (sym (append-nil (option_to_list (cut_to lo (next_lo None ss) m))))
      ∙ ap (λ ps. ((option_to_list (cut_to lo (next_lo None ss) m) ++ []) ++ pieces lo (next_lo None ss) ms) ∷ ps) (parts_more m ms ss)

  no_parts : (ss : PSlots U V) → both_parts (batches_by_slot None [] ss) (batches_by_slot None [] ss) ≡ batches_by_slot None [] ss
  no_parts none = refl
  no_parts (more lo old n ss) = ap (λ ps. [] ∷ ps) (no_parts ss)

  all_more : (i : ℕ) (m : Msg U V) (ms : List (Msg U V)) (ss : PSlots U V) → all_at i (m ∷ ms) ss ≡ both_parts (all_at i (m ∷ []) ss) (all_at i ms ss)
  all_more i m ms none = refl
  all_more zero m ms (more lo old n ss) = ap (λ ps. (m ∷ ms) ∷ ps) (sym (no_parts ss))
  all_more (suc i) m ms (more lo old n ss) = ap (λ ps. [] ∷ ps) (all_more i m ms ss)

  all_none : (i : ℕ) (ss : PSlots U V) → all_at i [] ss ≡ batches_by_slot None [] ss
  all_none i none = refl
  all_none zero (more lo old n ss) = refl
  all_none (suc i) (more lo old n ss) = ap (λ ps. [] ∷ ps) (all_none i ss)

  -- they are for the slot that holds the key, whole
  run_at_holder : (ms : List (Msg U V)) (q : List ℕ) (first : Option (List ℕ)) (xs : List (Slot U V)) (i : ℕ) → Some q ≡ first → AreRising (seen_slots xs) → Some i ≡ holder (seen_slots xs) q → All (λ m. point_key m ≡ first) ms → all_at i ms (seen_slots xs) ≡ batches_by_slot None ms (seen_slots xs)
  run_at_holder [] q first xs i f rising held a = all_none i (seen_slots xs)
  run_at_holder (m ∷ ms) q first xs i f rising held a =
      let here = at_holder m q xs i (f ∙ sym (All-head (λ x. point_key x ≡ first) m ms a)) rising held in
      let later = run_at_holder ms q first xs i f rising held (All-tail (λ x. point_key x ≡ first) m ms a) in
      all_more i m ms (seen_slots xs)
      ∙ ap (λ ps. both_parts ps (all_at i ms (seen_slots xs))) here
      ∙ ap (λ ps. both_parts (batches_by_slot None (m ∷ []) (seen_slots xs)) ps) later
      ∙ sym (parts_more m ms (seen_slots xs))

module _ {U V : Type 0} (means : U → Option V → Option V) where
  module _ (ms : List (Msg U V)) where
    -- slots that have taken messages still rise
    pub rising-taken : (ss new : PSlots U V) → HaveTaken means ss (batches_by_slot None ms ss) new → AreRising ss → AreRising new
    rising-taken none none t r = tt
    rising-taken none (more lo' new' n' ss') t r = absurd t
    rising-taken (more lo old n ss) none t r = absurd t
    rising-taken (more lo old n ss) (more lo' new' n' ss') t r = (
      subst (λ (x : List ℕ). is_below x (next_lo None ss') ≡ true) (sym t.0) (subst (λ (x : Option (List ℕ)). is_below lo x ≡ true) (sym (next_lo-taken means None None ms ss ss' t.3)) r.0),
      rising-taken ss ss' t.3 r.1,
    )

    -- they take the same parts of other messages
    parts-taken : (xs : List (Msg U V)) (ss new : PSlots U V) → HaveTaken means ss (batches_by_slot None ms ss) new → batches_by_slot None xs new ≡ batches_by_slot None xs ss
    parts-taken xs none none t = refl
    parts-taken xs none (more lo' new' n' ss') t = absurd t
    parts-taken xs (more lo old n ss) none t = absurd t
    parts-taken xs (more lo old n ss) (more lo' new' n' ss') t = λ i. pieces (t.0 i) (next_lo-taken means None None ms ss ss' t.3 i) xs ∷ parts-taken xs ss ss' t.3 i

  -- slots that take messages, and then more, take them all
  taken-then : (xs ys : List (Msg U V)) (ss mid new : PSlots U V) → HaveTaken means ss (batches_by_slot None xs ss) mid → HaveTaken means mid (batches_by_slot None ys ss) new → HaveTaken means ss (batches_by_slot None (xs ++ ys) ss) new
  taken-then xs ys none none none t u = tt
  taken-then xs ys none none (more lo' new' n' ss') t u = absurd u
  taken-then xs ys none (more lo' new' n' ss') new t u = absurd t
  taken-then xs ys (more lo old n ss) none new t u = absurd t
  taken-then xs ys (more lo old n ss) (more lo' new' n' ss') none t u = absurd u
  taken-then xs ys (more lo old n ss) (more lo' new' n' ss') (more lp np p sp) t u = (
    u.0 ∙ t.0,
    subst (λ zs. Takes means old zs np) (sym (pieces-append lo (next_lo None ss) xs ys)) (takes-then means old (pieces lo (next_lo None ss) xs) new' (pieces lo (next_lo None ss) ys) np t.1 u.1),
    u.2 ∙ t.2,
    taken-then xs ys ss ss' sp t.3 u.3,
  )

  -- no message
  pub moved-none : (ms : List (Msg U V)) (ss : PSlots U V) → Moved means 0 ms ms ss ss
  moved-none ms ss = record { within = omega arith; left = refl; taken = taken-none means ss; few = omega (arith, piece_count-none ss); still = λ z. refl }

  -- the oldest messages, all for the key that one slot holds
  pub moved_run : {E : Type 0} (q : List ℕ) (xs : List (Slot U V)) (i : ℕ) (d : Slot U V) (p : List (Msg U V) × ℕ) (most : ℕ) (ms rest : List (Msg U V)) (r : Result ℕ E) → AreRising (seen_slots xs) → Some i ≡ holder (seen_slots xs) q → i < length xs → Some q ≡ first_point ms → IfOk r (λ n. Takes means (get_or xs i d).pending.0 (take n ms) p.0) → IfOk r (λ n. rest ≡ drop n ms) → IfOk r (λ n. (n ≤ most) × (n ≤ length ms)) → IfOk r (λ n. All (λ m. point_key m ≡ first_point ms) (take n ms)) → IfOk r (λ n. n ≡ 0 → p.0 ≡ (get_or xs i d).pending.0) → IfOk r (λ n. Moved means n ms rest (seen_slots xs) (seen_slots (set xs i (record { lo = (get_or xs i d).lo; pending = p; child = (get_or xs i d).child }))))
  moved_run q xs i d p most ms rest (Err e) rising held b first takes l w a z = tt
  moved_run q xs i d p most ms rest (Ok n) rising held b first takes l w a z =
      let new = seen_slots (set xs i (record { lo = (get_or xs i d).lo; pending = p; child = (get_or xs i d).child })) in
      let whole : all_at i (take n ms) (seen_slots xs) ≡ batches_by_slot None (take n ms) (seen_slots xs) = run_at_holder (take n ms) q (first_point ms) xs i first rising held a in
      let counts : piece_count (take n ms) (seen_slots xs) ≤ length (take n ms) = count-all_at i (take n ms) (seen_slots xs) whole in
      record {
        within = w.1;
        left = l;
        taken = subst (λ ps. HaveTaken means (seen_slots xs) ps new) whole (taken-at means (take n ms) xs i d p b takes);
        few = omega (arith, counts, length-take-le n ms w.1);
        still = λ e. ap slots (see-pending xs i d p (z e));
      }

  -- messages, and then more
  pub moved-then : (a b : ℕ) (ms mid rest : List (Msg U V)) (cs ds es : PSlots U V) → Moved means a ms mid cs ds → Moved means b mid rest ds es → Moved means (a + b) ms rest cs es
  moved-then a b ms mid rest cs ds es s t =
      let both : take (a + b) ms ≡ take a ms ++ take b mid = take-add a b ms ∙ ap (λ xs. take a ms ++ take b xs) (sym s.left) in
      let same : batches_by_slot None (take b mid) ds ≡ batches_by_slot None (take b mid) cs = parts-taken (take a ms) (take b mid) cs ds s.taken in
      let counts : piece_count (take b mid) cs ≤ b = omega (arith, t.few, parts_len-parts (take b mid) cs, parts_len-parts (take b mid) ds, ap parts_len same) in
      record {
        within = omega (arith, s.within, t.within, ap length s.left, length-drop a ms);
        left = t.left ∙ ap (drop b) s.left ∙ drop-drop b a ms;
        taken = subst (λ xs. HaveTaken means cs (batches_by_slot None xs cs) es) (sym both) (taken-then (take a ms) (take b mid) cs ds es s.taken (subst (λ ps. HaveTaken means ds ps es) same t.taken));
        few = subst (λ xs. piece_count xs cs ≤ a + b) (sym both) (omega (arith, s.few, counts, piece_count-append (take a ms) (take b mid) cs));
        still = λ z. t.still (omega (arith, z)) ∙ s.still (omega (arith, z));
      }

  -- nor into a node
  pub all_stay : (ms : List (Msg U V)) (c : PNode U V) → MovedInto means 0 ms ms c c
  all_stay ms (leaf es) = (refl, refl, refl)
  all_stay ms (inner cs) = moved-none ms cs

  -- messages that moved, no more than there was room for, have sunk
  pub moved_sunk : (most n : ℕ) (ms rest : List (Msg U V)) (c d : PNode U V) → (n ≡ 0 → ⊥) → n ≤ free_pieces most c → MovedInto means n ms rest c d → Sunk means most (Did n) ms c d
  moved_sunk most n ms rest (leaf es) d some few m = absurd (some m.0)
  moved_sunk most n ms rest (inner cs) (leaf es) some few m = absurd m
  moved_sunk most zero ms rest (inner cs) (inner ds) some few m = absurd (some refl)
  moved_sunk most (suc n) ms rest (inner cs) (inner ds) some few m = (omega arith, m.within, (m.taken, omega (arith, m.few, few, pending-taken means (take (suc n) ms) cs ds m.taken)))

  -- likewise after others that had sunk
  pub sunk_then : (most a b : ℕ) (ms mid rest : List (Msg U V)) (c d e : PNode U V) → Sunk means most (Did a) ms c d → mid ≡ drop a ms → b ≤ free_pieces most d → MovedInto means b mid rest d e → Sunk means most (Did (a + b)) ms c e
  sunk_then most a b ms mid rest (leaf es) d e s l few m = absurd s.2
  sunk_then most a b ms mid rest (inner cs) (leaf es) e s l few m = absurd s.2
  sunk_then most a b ms mid rest (inner cs) (inner ds) (leaf es) s l few m = absurd m
  sunk_then most a b ms mid rest (inner cs) (inner ds) (inner es) s l few m =
      let both : take (a + b) ms ≡ take a ms ++ take b mid = take-add a b ms ∙ ap (λ xs. take a ms ++ take b xs) (sym l) in
      let same = parts-taken (take a ms) (take b mid) cs ds s.2.0 in
      let all = taken-then (take a ms) (take b mid) cs ds es s.2.0 (subst (λ ps. HaveTaken means ds ps es) same m.taken) in (
        omega (arith, s.0),
        omega (arith, s.1, m.within, ap length l, length-drop a ms),
        (
          subst (λ xs. HaveTaken means cs (batches_by_slot None xs cs) es) (sym both) all,
          omega (arith, m.few, few, s.2.1, pending-taken means (take b mid) ds es m.taken),
        ),
      )

  -- the child of a slot from which messages have sunk is as searchable as it was
  searchable-taken : (ms : List (Msg U V)) (ss new : PSlots U V) → HaveTaken means ss (batches_by_slot None ms ss) new → AreSearchable ss → AreSearchable new
  searchable-taken ms none none t h = tt
  searchable-taken ms none (more lo' new' n' ss') t h = absurd t
  searchable-taken ms (more lo old n ss) none t h = absurd t
  searchable-taken ms (more lo old n ss) (more lo' new' n' ss') t h = (subst (λ (x : PNode U V). IsSearchable x) (sym t.2) h.0, searchable-taken ms ss ss' t.3 h.1)

  pub searchable_sunk : (most n : ℕ) (ms : List (Msg U V)) (c d : PNode U V) → Sunk means most (Did n) ms c d → IsSearchable c → IsSearchable d
  searchable_sunk most n ms (leaf es) d s h = absurd s.2
  searchable_sunk most n ms (inner cs) (leaf es) s h = absurd s.2
  searchable_sunk most n ms (inner cs) (inner ds) s h = (rising-taken (take n ms) cs ds s.2.0 h.0, searchable-taken (take n ms) cs ds s.2.0 h.1)
