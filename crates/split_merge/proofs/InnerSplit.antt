-- A slot over an inner node cut in two, in the words of its row.
use Rattle.std.proofs.Common.{◌≡◌, ℕ, zero, suc, ◌+◌, ◌<◌, ◌≤◌, Bool, true, List, [], ◌∷◌, ◌++◌, length, get_or, take, drop, refl, ap, sym, ◌∙◌, subst, arith, cond, Option, Some, None, pred}
use Rattle.std.proofs.Math.ListN.{set}
use Rattle.std.specs.List.{insert}
use Rattle.pathkey.specs.Keys.{is_below}
use Rattle.pathkey.proofs.KeyOrder.{reaches-from_before, le_lt}
use Rattle.message.specs.declared.msg.Msg.{Msg}
use Rattle.message.specs.Ranges.{reaches, before}
use Rattle.message.specs.Cuts.{pieces}
use Rattle.message.specs.Effects.{Takes, range_count}
use Rattle.node.specs.declared.node.Slot.{Slot}
use Rattle.node.specs.declared.shape.Shape.{Shape}
use Rattle.node.specs.declared.step.StepReply.TheVariants.{Did}
use Rattle.node.specs.declared.step.StepKind.TheVariants.{SplitInner}
use Rattle.node.specs.See.{seen_slots}
use Rattle.node.specs.Pure.{PNode, inner, PSlots, none, more}
use Rattle.node.specs.Meaning.{slots_value, begins_by}
use Rattle.node.specs.Lawful.{IsLawfulNode, AreLawfulSlots, slot_count, starts_at, next_lo}
use Rattle.node.specs.StepRows.{ranges_first, CanPart, CannotPart}
use Rattle.node.specs.Site.{joined, slots_from}
use Rattle.node.specs.Sinks.{first_lo, Sinks}
use Rattle.node.specs.Steps.{Formed, Replies}
use Rattle.node.proofs.StepDone.{replies_did, slots-cut}
use Rattle.node.proofs.Parting.{Parted, pieces-apart, parted_pieces, parted_lawful, parted_sinks}
use Rattle.node.proofs.Splice.{IsMore, slots-split, slot_count-take, slots_from-joined, slot_count-joined, pending-joined, lawful-split, slots_value-joined, counted-more}
use Rattle.node.specs.Cutting.{IsCutAt}
use Rattle.split_merge.specs.declared.split.SplitNode.{SplitNode}
use Rattle.split_merge.specs.SplitNode.{AreHalves}
use Rattle.split_merge.proofs.Splittable.{can_part}

module _ {U V : Type 0} where
  module _ (S : Shape) (h : ℕ) where
    -- lawful slots begin before their end
    first_in : (e : Option (List ℕ)) (lo : List ℕ) (ms : List (Msg U V)) (n : PNode U V) (ss : PSlots U V) → AreLawfulSlots S (more lo ms n ss) h e → is_below lo e ≡ true
    first_in e lo ms n none l = l.0
    first_in None lo ms n (more lp mt o ss) l = refl
    first_in (Some e) lo ms n (more lp mt o ss) l = le_lt lo lp e (reaches-from_before lo lp l.0) (first_in (Some e) lp mt o ss l.3)

    -- slots behind others begin behind them
    begins_behind : (e : Option (List ℕ)) (lo : List ℕ) (ms : List (Msg U V)) (n : PNode U V) (x y : PSlots U V) → IsMore y → AreLawfulSlots S (more lo ms n (joined x y)) h e → before lo (first_lo y) ≡ true
    begins_behind e lo ms n none none q l = absurd q
    begins_behind e lo ms n none (more lp mt o y) q l = l.0
    begins_behind e lo ms n (more lp mt o x) y q l = le_lt lo lp (first_lo y) (reaches-from_before lo lp l.0) (begins_behind e lp mt o x y q l.3)

  -- slots before others end where those begin
  next_lo-more : (e : Option (List ℕ)) (y : PSlots U V) → IsMore y → next_lo e y ≡ Some (first_lo y)
  next_lo-more e none q = absurd q
  next_lo-more e (more lo ms n ss) q = refl

  -- slots begin where their first does
  begins_by-more : (y : PSlots U V) (k : List ℕ) → IsMore y → begins_by y k ≡ reaches (first_lo y) k
  begins_by-more none k q = absurd q
  begins_by-more (more lo ms n ss) k q = refl

  -- they start there
  starts_at-more : (y : PSlots U V) → IsMore y → starts_at (first_lo y) y
  starts_at-more none q = absurd q
  starts_at-more (more lo ms n ss) q = refl

  -- the slots before others start as all do
  starts_at-left : (l : List ℕ) (x y : PSlots U V) → IsMore x → starts_at l (joined x y) → starts_at l x
  starts_at-left l none y q h = absurd q
  starts_at-left l (more lo ms n ss) y q h = h

  module _ (means : U → Option V → Option V) (shape : Shape) (lo : List ℕ) (ms lm rm : List (Msg U V)) (x y : PSlots U V) (px : IsMore x) (py : IsMore y) (tl : Takes means [] (pieces lo (Some (first_lo y)) ms) lm) (tr : Takes means [] (pieces (first_lo y) None ms) rm) where
    -- where the right part begins
    abbrev pivot : List ℕ
    pivot = first_lo y

    -- the slot before the step
    abbrev old : PSlots U V
    old = more lo ms (inner (joined x y)) none

    -- the two slots after it
    abbrev new : PSlots U V
    new = more lo lm (inner x) (more pivot rm (inner y) none)

    -- the left part begins before the pivot
    lo_before : (h : ℕ) (e : Option (List ℕ)) (x : PSlots U V) → IsMore x → IsLawfulNode shape (inner (joined x y)) h lo e → before lo pivot ≡ true
    lo_before h e none q c = absurd q
    lo_before h e (more lp mt o x) q c = ap (λ z. before z pivot) (sym c.3) ∙ begins_behind shape h e lp mt o x y py c.4

    -- the pivot stands before the end
    pivot_before : (h : ℕ) (e : Option (List ℕ)) (y : PSlots U V) → IsMore y → AreLawfulSlots shape y h e → is_below (first_lo y) e ≡ true
    pivot_before h e none q c = absurd q
    pivot_before h e (more lp mt o y) q c = first_in shape h e lp mt o y c

    -- no message goes down, and the child is its left part before the pivot and its right part from it on
    parted : (h : ℕ) (e : Option (List ℕ)) → AreLawfulSlots shape (joined x y) h e → Parted means 0 lo pivot ms lm rm (inner (joined x y)) (inner x) (inner y)
    parted h e l =
        let value_of : (k : List ℕ) → slots_value means (joined x y) k ≡ cond (reaches pivot k) (slots_value means y k) (slots_value means x k) = λ k. slots_value-joined shape h means e x y k px l ∙ ap (λ b. cond b (slots_value means y k) (slots_value means x k)) (begins_by-more y k py) in
        record {
          left_msgs = tl;
          right_msgs = tr;
          below = λ k f. sym (value_of k ∙ ap (λ b. cond b (slots_value means y k) (slots_value means x k)) f);
          above = λ k f. sym (value_of k ∙ ap (λ b. cond b (slots_value means y k) (slots_value means x k)) f);
        }

    -- what became of the slot
    was_split : 1 ≤ slot_count x → 1 ≤ slot_count y → (h : ℕ) (e : Option (List ℕ)) → AreLawfulSlots shape old h e → Sinks means 0 e old new × Formed means SplitInner shape 0 old new × AreLawfulSlots shape new h e
    was_split cx cy h e l =
        let c = l.2 in
        let p = parted (pred h) e c.4 in
        let s = lawful-split shape (pred h) e x y c.4 in
        let n = slot_count-joined x y in
        let w = pending-joined x y in
        let xs : AreLawfulSlots shape x (pred h) (Some pivot) = subst (λ z. AreLawfulSlots shape x (pred h) z) (next_lo-more e y py) s.0 in (
          parted_sinks means 0 lo pivot ms lm rm (inner (joined x y)) (inner x) (inner y) p e,
          (refl, record { lo = lo; msgs = ms; left_msgs = lm; right_msgs = rm; left = x; right = y; some_left = cx; some_right = cy; was = refl; is = refl; pieces_grow = parted_pieces means 0 lo pivot ms lm rm (inner (joined x y)) (inner x) (inner y) p }),
          parted_lawful means 0 lo pivot ms lm rm (inner (joined x y)) (inner x) (inner y) p shape h e l.1 (lo_before (pred h) e x px c) (pivot_before (pred h) e y py s.1) (c.0, omega (arith, c.1, n), omega (arith, c.2, w), starts_at-left lo x y px c.3, xs) (c.0, omega (arith, c.1, n), omega (arith, c.2, w), starts_at-more y py, s.1),
        )

    -- what a split that is done has done to the node
    did : (root : Bool) (i : ℕ) (b a : PSlots U V) → slot_count b ≡ i → 1 ≤ slot_count x → 1 ≤ slot_count y → Replies means SplitInner shape root i (Did 0) (joined b (joined old a)) (joined b (joined new a))
    did root i b a at_i cx cy h lp hi l able may =
        let all = joined b (joined old a) in
        let ranges : ranges_first (slots_from i all) ≡ range_count ms = ap ranges_first (slots_from-joined i b (joined old a) at_i) in
        let room : CanPart shape root all 0 (range_count ms) = can_part shape root all (range_count ms) (λ z. may (subst (CannotPart shape root all 0) (sym ranges) z)) in
        let n = slot_count-joined b (joined old a) in
        let w = pending-joined b (joined old a) in
        let grow : length lm + length rm ≤ length ms + range_count ms = omega (arith, pieces-apart lo pivot ms, tl.bound, tr.bound) in
        replies_did means SplitInner shape root i 0 b old new a at_i refl tt tt refl (λ z. omega (arith, room.0, n)) (λ r z. let y = room.1 r in omega (arith, y, w, grow)) (λ h hi l able. was_split cx cy h (next_lo hi a) l) (λ z. z) h lp hi l able may

  -- slots end to end
  pub slots-append : (xs ys : List (Slot U V)) → seen_slots (xs ++ ys) ≡ joined (seen_slots xs) (seen_slots ys)
  slots-append [] ys = refl
  slots-append (x ∷ xs) ys = ap (more x.lo x.pending.0 x.child.value) (slots-append xs ys)

  -- where the first begins, as the code reads it
  pub first_lo-get : (xs : List (Slot U V)) (d : Slot U V) → 0 < length xs → (get_or xs 0 d).lo ≡ first_lo (seen_slots xs)
  first_lo-get [] d h = absurd (omega arith)
  first_lo-get (x ∷ xs) d h = refl

  -- likewise for the slots as the code writes them: the child is cut in halves, and its slot at the pivot between them
  pub halved : (means : U → Option V → Option V) (shape : Shape) (root : Bool) (i : ℕ) (xs : List (Slot U V)) (halves : SplitNode U V) (s l r : Slot U V) → i < length xs → s ≡ get_or xs i s → AreHalves s.child.value halves → IsCutAt means 0 halves.pivot halves.left.value halves.right.value s l r → Replies means SplitInner shape root i (Did 0) (seen_slots xs) (seen_slots (insert (set xs i l) (suc i) r))
  halved means shape root i xs halves s l r h e p c =
      let b = seen_slots (take i xs) in
      let a = seen_slots (drop (suc i) xs) in
      let new = seen_slots (insert (set xs i l) (suc i) r) in
      let was : seen_slots xs ≡ joined b (more s.lo s.pending.0 (inner (joined p.left p.right)) a) = slots-split xs i s h ∙ ap (λ (x : Slot U V). joined b (more x.lo x.pending.0 x.child.value a)) (sym e) ∙ ap (λ z. joined b (more s.lo s.pending.0 z a)) p.was in
      let is : new ≡ joined b (more s.lo l.pending.0 (inner p.left) (more (first_lo p.right) r.pending.0 (inner p.right) a)) = slots-cut xs i l r h ∙ (λ j. joined b (more (c.left_lo j) l.pending.0 ((c.left_is ∙ p.left_is) j) (more ((c.right_lo ∙ p.pivot_is) j) r.pending.0 ((c.right_is ∙ p.right_is) j) a))) in
      let left_msgs = subst (λ z. Takes means [] (pieces s.lo (Some z) s.pending.0) l.pending.0) p.pivot_is c.left_msgs in
      let right_msgs = subst (λ z. Takes means [] (pieces z None s.pending.0) r.pending.0) p.pivot_is c.right_msgs in
      let core = did means shape s.lo s.pending.0 l.pending.0 r.pending.0 p.left p.right (counted-more p.left p.some_left) (counted-more p.right p.some_right) left_msgs right_msgs root i b a (slot_count-take xs i (omega arith)) p.some_left p.some_right in
      subst (λ z. Replies means SplitInner shape root i (Did 0) z new) (sym was) (subst (λ z. Replies means SplitInner shape root i (Did 0) (joined b (more s.lo s.pending.0 (inner (joined p.left p.right)) a)) z) (sym is) core)
