-- A slot's subtree that goes at once, in the words of its row.
use Rattle.std.proofs.Common.{◌≡◌, ℕ, zero, suc, ◌-◌, ◌<◌, Bool, true, List, [], ◌∷◌, length, get_or, take, drop, refl, ap, sym, ◌∙◌, subst, arith, cond, Option, None, pred, length-drop}
use Rattle.std.proofs.Math.ListN.{set}
use Rattle.std.proofs.lemmas.List.{take_all}
use Rattle.std.specs.Prelude.{◌&&◌}
use Rattle.std.proofs.lemmas.Bool.{both_ways}
use Rattle.pathkey.specs.Keys.{is_below, is_in}
use Rattle.pathkey.specs.declared.range.KeyRange.{KeyRange}
use Rattle.pathkey.proofs.KeyOrder.{le_le}
use Rattle.message.specs.declared.msg.Msg.{Msg}
use Rattle.message.specs.declared.msg.Msg.TheVariants.{Put, Del, DelRange, Edit}
use Rattle.message.specs.Ranges.{reaches, within, ends_within}
use Rattle.message.proofs.KeyOrder.{both}
use Rattle.message.proofs.RangeEnds.{below_later}
use Rattle.node.specs.declared.node.Slot.{Slot}
use Rattle.node.specs.declared.shape.Shape.{Shape}
use Rattle.node.specs.declared.step.StepReply.{StepReply}
use Rattle.node.specs.declared.step.StepReply.TheVariants.{Did, NotThere, NoRoom, NoMemory}
use Rattle.node.specs.declared.step.StepKind.TheVariants.{DropCovered}
use Rattle.node.specs.See.{seen_slots}
use Rattle.node.specs.Pure.{PNode, leaf, inner, PSlots, none, more}
use Rattle.node.specs.Meaning.{value}
use Rattle.node.specs.Lawful.{IsLawfulNode, AreLawfulSlots, slot_count, next_lo}
use Rattle.node.specs.Site.{joined, slots_from}
use Rattle.node.specs.Sinks.{Sinks}
use Rattle.node.specs.StepRows.{can_drop_covered, IsBare}
use Rattle.node.specs.Steps.{Formed, Replies}
use Rattle.node.proofs.StepDone.{replies_did}
use Rattle.node.proofs.Sinking.{touch_only-drop}
use Rattle.node.proofs.Sizes.{lawful_depth}
use Rattle.node.proofs.Splice.{slots-split, slots-set_split, slot_count-take, slots_from-joined}
use Rattle.split_merge.specs.Swept.{bare, Swept}

-- ---- the range

-- a range that covers another holds its keys
in_covering : (r : KeyRange) (lo : List ℕ) (e : Option (List ℕ)) (k : List ℕ) → (reaches r.lo lo && ends_within e r.hi) ≡ true → within lo e k ≡ true → is_in r k ≡ true
in_covering r lo e k c w =
    let p = both (reaches r.lo lo) (ends_within e r.hi) c in
    let q = both (reaches lo k) (is_below k e) w in
    ap (λ z. z && is_below k r.hi) (le_le r.lo lo k p.0 q.0) ∙ below_later k e r.hi p.1 q.1

module _ {U V : Type 0} where
  -- ---- the empty subtree

  -- nothing stands in it
  is_bare : (lo : List ℕ) (n : PNode U V) → IsBare (bare lo n)
  is_bare lo (leaf es) = refl
  is_bare lo (inner none) = (refl, refl, tt)
  is_bare lo (inner (more lp ms n ss)) = (refl, is_bare lo n, tt)

  -- it is lawful where the node is, for any range
  lawful_bare : (S : Shape) (n : PNode U V) (h : ℕ) (lo lp : List ℕ) (hi e : Option (List ℕ)) → is_below lo hi ≡ true → IsLawfulNode S n h lp e → IsLawfulNode S (bare lo n) h lo hi
  lawful_bare S (leaf es) h lo lp hi e b l = (l.0, omega arith, tt)
  lawful_bare S (inner none) h lo lp hi e b l = absurd l.3
  lawful_bare S (inner (more lq ms n ss)) h lo lp hi e b l = (l.0, omega (arith, l.1), omega arith, refl, (b, (λ k out. refl), lawful_bare S n (pred h) lo lq hi (next_lo e ss) b l.4.2, tt))

  module _ (means : U → Option V → Option V) where
    -- it means nothing
    value_bare : (lo : List ℕ) (n : PNode U V) (k : List ℕ) → value means (bare lo n) k ≡ None
    value_bare lo (leaf es) k = refl
    value_bare lo (inner none) k = refl
    value_bare lo (inner (more lp ms n ss)) k = value_bare lo n k

    -- a message of the whole range has sunk into what it covers
    sinks : (lo : List ℕ) (e : Option (List ℕ)) (r : KeyRange) (ms : List (Msg U V)) (c : PNode U V) → (reaches r.lo lo && ends_within e r.hi) ≡ true → Sinks means 1 e (more lo (DelRange r ∷ ms) c none) (more lo ms (bare lo c) none)
    sinks lo e r ms c covers = record {
      starts = refl;
      below = λ k w. value_bare lo c k ∙ ap (λ z. cond z None (value means c k)) (sym (in_covering r lo e k covers w));
      above = λ k v w. refl;
    }

  -- the slot stays lawful
  lawful_swept : (S : Shape) (h : ℕ) (lo : List ℕ) (e : Option (List ℕ)) (m : Msg U V) (ms : List (Msg U V)) (c : PNode U V) → AreLawfulSlots S (more lo (m ∷ ms) c none) h e → AreLawfulSlots S (more lo ms (bare lo c) none) h e
  lawful_swept S h lo e m ms c l = (l.0, touch_only-drop 1 lo e (m ∷ ms) l.1, lawful_bare S c (pred h) lo lo e e l.0 l.2, tt)

  -- ---- the node

  module _ (means : U → Option V → Option V) (shape : Shape) (root : Bool) (i : ℕ) (b a : PSlots U V) (lo : List ℕ) (at_i : slot_count b ≡ i) where
    -- the node's slots before and after
    abbrev from : List (Msg U V) → PNode U V → PSlots U V
    from ms c = joined b (more lo ms c a)

    -- what can be done there rests on the slot and where it ends
    able_there : (hi : Option (List ℕ)) (ms : List (Msg U V)) (c : PNode U V) → can_drop_covered hi (slots_from i (from ms c)) ≡ can_drop_covered hi (more lo ms c a)
    able_there hi ms c = ap (can_drop_covered hi) (slots_from-joined i b (more lo ms c a) at_i)

    -- what became of the slot
    swept : (r : KeyRange) (ms : List (Msg U V)) (c : PNode U V) (h : ℕ) (e : Option (List ℕ)) → AreLawfulSlots shape (more lo (DelRange r ∷ ms) c none) h e → (reaches r.lo lo && ends_within e r.hi) ≡ true → Sinks means 1 e (more lo (DelRange r ∷ ms) c none) (more lo ms (bare lo c) none) × Formed means DropCovered shape 1 (more lo (DelRange r ∷ ms) c none) (more lo ms (bare lo c) none) × AreLawfulSlots shape (more lo ms (bare lo c) none) h e
    swept r ms c h e l covers =
        let below = lawful_bare shape c (pred h) lo lo e e l.0 l.2 in (
          sinks means lo e r ms c covers,
          record { lo = lo; msgs = ms; first = DelRange r; child = c; empty = bare lo c; one = refl; was = refl; is = refl; as_deep = lawful_depth shape (bare lo c) (pred h) lo e below ∙ sym (lawful_depth shape c (pred h) lo e l.2); bare = is_bare lo c; nothing = value_bare means lo c },
          lawful_swept shape h lo e (DelRange r) ms c l,
        )

    -- likewise for each oldest message: one that covers the slot is a range-delete
    did : (ms : List (Msg U V)) (c : PNode U V) → Replies means DropCovered shape root i (Did 1) (from ms c) (from (drop 1 ms) (bare lo c))
    did [] c h lp hi l able may = absurd (both_ways _ (able_there hi [] c) able)
    did (Put q v ∷ ms) c h lp hi l able may = absurd (both_ways _ (able_there hi (Put q v ∷ ms) c) able)
    did (Del q ∷ ms) c h lp hi l able may = absurd (both_ways _ (able_there hi (Del q ∷ ms) c) able)
    did (Edit q u ∷ ms) c h lp hi l able may = absurd (both_ways _ (able_there hi (Edit q u ∷ ms) c) able)
    did (DelRange r ∷ ms) c h lp hi l able may = replies_did means DropCovered shape root i 1 b (more lo (DelRange r ∷ ms) c none) (more lo ms (bare lo c) none) a at_i refl tt tt refl (λ z. z) (λ q z. omega (arith, z)) (λ g e w able. swept r ms c g (next_lo e a) w (sym (able_there e (DelRange r ∷ ms) c) ∙ able)) (λ z. z) h lp hi l able may

    -- what each reply says of the node
    pub replies : (r : StepReply) (ms ns : List (Msg U V)) (c d : PNode U V) → Swept r lo ms ns c d → Replies means DropCovered shape root i r (from ms c) (from ns d)
    replies (Did n) ms ns c d q =
        let one = subst (λ z. Replies means DropCovered shape root i (Did 1) (from ms c) (joined b z)) (λ j. more lo (sym q.1 j) (sym q.2 j) a) (did ms c) in
        subst (λ z. Replies means DropCovered shape root i (Did z) (from ms c) (from ns d)) (sym q.0) one
    replies NotThere ms ns c d q = (λ j. from (q.0 j) (q.1 j), λ hi. able_there hi ms c ∙ ap (λ z. can_drop_covered hi (more lo z c a)) q.2)
    replies NoRoom ms ns c d q = absurd q
    replies NoMemory ms ns c d q = λ j. from (q.0 j) (q.1 j)

  -- likewise for the slots as the code writes them
  pub dropped : (means : U → Option V → Option V) (shape : Shape) (root : Bool) (i : ℕ) (xs : List (Slot U V)) (s t : Slot U V) (r : StepReply) → i < length xs → s ≡ get_or xs i s → t.lo ≡ s.lo → Swept r s.lo s.pending.0 t.pending.0 s.child.value t.child.value → Replies means DropCovered shape root i r (seen_slots xs) (seen_slots (set xs i t))
  dropped means shape root i xs s t r h e el q =
      let b = seen_slots (take i xs) in
      let a = seen_slots (drop (suc i) xs) in
      let was : seen_slots xs ≡ joined b (more s.lo s.pending.0 s.child.value a) = slots-split xs i s h ∙ ap (λ (x : Slot U V). joined b (more x.lo x.pending.0 x.child.value a)) (sym e) in
      let is : seen_slots (set xs i t) ≡ joined b (more s.lo t.pending.0 t.child.value a) = slots-set_split xs i t h ∙ ap (λ z. joined b (more z t.pending.0 t.child.value a)) el in
      let core = replies means shape root i b a s.lo (slot_count-take xs i (omega arith)) r s.pending.0 t.pending.0 s.child.value t.child.value q in
      subst (λ z. Replies means DropCovered shape root i r z (seen_slots (set xs i t))) (sym was) (subst (λ z. Replies means DropCovered shape root i r (joined b (more s.lo s.pending.0 s.child.value a)) z) (sym is) core)

  -- the slots from a number on, as the code cuts them
  pub slots_from-cut : (xs : List (Slot U V)) (i : ℕ) → i < length xs → slots_from i (seen_slots xs) ≡ seen_slots (take (length xs - i) (drop i xs))
  slots_from-cut xs i h = from_drop xs i h ∙ ap (λ z. seen_slots z) (sym (take_all (length xs - i) (drop i xs) (omega (arith, length-drop i xs))))
    where
      -- the same before the cut
      from_drop : (xs : List (Slot U V)) (i : ℕ) → i < length xs → slots_from i (seen_slots xs) ≡ seen_slots (drop i xs)
      from_drop [] i h = absurd (omega arith)
      from_drop (x ∷ xs) zero h = refl
      from_drop (x ∷ xs) (suc i) h = from_drop xs i (omega arith)
