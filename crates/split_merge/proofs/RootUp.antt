-- A new root above the old one.
use Rattle.std.proofs.Common.{◌≡◌, ℕ, suc, ◌+◌, ◌<◌, ◌≤◌, true, false, List, [], ◌∷◌, length, map, refl, ap, sym, ◌∙◌, subst, arith, cond, Option, None, pred, length-append}
use Rattle.std.specs.Prelude.{◌&&◌, IsTrue}
use Rattle.std.proofs.lemmas.Bool.{and_right, both_ways}
use Rattle.pathkey.specs.Keys.{is_below}
use Rattle.pathkey.proofs.KeyOrder.{not_before_from_reaches, from_start}
use Rattle.message.specs.declared.msg.Msg.{Msg}
use Rattle.message.specs.Ranges.{reaches, before, within}
use Rattle.message.specs.Effects.{effects}
use Rattle.message.proofs.Lists.{effects-append, untouched}
use Rattle.node.specs.declared.node.Slot.{Slot}
use Rattle.node.specs.declared.shape.Shape.{Shape}
use Rattle.node.specs.declared.step.StepReply.{StepReply}
use Rattle.node.specs.declared.step.StepReply.TheVariants.{Did, NotThere, NoRoom, NoMemory}
use Rattle.node.specs.See.{seen_slots}
use Rattle.node.specs.Shapes.{is_shape}
use Rattle.node.specs.Pure.{PNode, leaf, inner, PSlots, none, more, PTree, slots}
use Rattle.node.specs.Meaning.{value, slots_value, begins_by}
use Rattle.node.specs.Lawful.{IsLawfulNode, IsLawfulRoot, AreLawfulSlots, IsLawful, TouchOnly, slot_count, pending, starts_at, next_lo}
use Rattle.node.specs.StepRows.{emptied}
use Rattle.node.specs.RootSteps.{levels, has_one_slot, with_root, RootRaised, AnswersUp}
use Rattle.node.specs.Sinks.{msgs_at, child_value}
use Rattle.node.proofs.Placing.{next_above}
use Rattle.node.proofs.Sizes.{root_levels}
use Rattle.node.proofs.Splice.{slots_value_parts}
use Rattle.split_merge.specs.Raised.{hollow, all_msgs, IsAbove, Raised, Refused}

module _ {U V : Type 0} where
  -- k lies past a slot behind which one begins at or before k
  pub past : (lo : List ℕ) (hi : Option (List ℕ)) (ss : PSlots U V) (k : List ℕ) → begins_by ss k ≡ true → within lo (next_lo hi ss) k ≡ false
  past lo hi none k e = (cc)
  past lo hi (more lp ms n ss) k e = and_right (reaches lo k) (before k lp) (not_before_from_reaches lp k e)

  -- slots seen without messages are the slots emptied
  pub emptied-hollow : (xs : List (Slot U V)) → slots (map hollow xs) ≡ emptied (seen_slots xs)
  emptied-hollow [] = refl
  emptied-hollow (x ∷ xs) = ap (more x.lo [] x.child.value) (emptied-hollow xs)

  -- emptied slots end as before
  next_lo-emptied : (hi : Option (List ℕ)) (ss : PSlots U V) → next_lo hi (emptied ss) ≡ next_lo hi ss
  next_lo-emptied hi none = refl
  next_lo-emptied hi (more lo ms n ss) = refl

  -- and begin as before
  begins_by-emptied : (ss : PSlots U V) (k : List ℕ) → begins_by (emptied ss) k ≡ begins_by ss k
  begins_by-emptied none k = refl
  begins_by-emptied (more lo ms n ss) k = refl

  -- and are as many
  slot_count-emptied : (ss : PSlots U V) → slot_count (emptied ss) ≡ slot_count ss
  slot_count-emptied none = refl
  slot_count-emptied (more lo ms n ss) = ap (λ z. z + 1) (slot_count-emptied ss)

  -- and nothing waits in them
  pending-emptied : (ss : PSlots U V) → pending (emptied ss) ≡ 0
  pending-emptied none = refl
  pending-emptied (more lo ms n ss) = omega (arith, pending-emptied ss)

  -- and the first starts as before
  starts_at-emptied : (lo : List ℕ) (ss : PSlots U V) → starts_at lo ss → starts_at lo (emptied ss)
  starts_at-emptied lo none h = h
  starts_at-emptied lo (more l ms n ss) h = h

  -- all messages are those that wait
  length-all_msgs : (ss : PSlots U V) → length (all_msgs ss) ≡ pending ss
  length-all_msgs none = refl
  length-all_msgs (more lo ms n ss) = omega (arith, length-append ms (all_msgs ss), length-all_msgs ss)

  -- every list touches only keys
  touch_only-all : (ms : List (Msg U V)) → TouchOnly [] None ms
  touch_only-all ms k out = absurd (let f : within [] None k ≡ true = ap (λ b. b && true) (from_start k) in (cc))

  -- emptied slots stay lawful
  lawful-emptied : (S : Shape) (h : ℕ) (hi : Option (List ℕ)) (ss : PSlots U V) → AreLawfulSlots S ss h hi → AreLawfulSlots S (emptied ss) h hi
  lawful-emptied S h hi none l = tt
  lawful-emptied S h hi (more lo ms n ss) l =
      let e = sym (next_lo-emptied hi ss) in
      (subst (λ z. is_below lo z ≡ true) e l.0, (λ k out. refl), subst (λ z. IsLawfulNode S n (pred h) lo z) e l.2, lawful-emptied S h hi ss l.3)

  module _ (means : U → Option V → Option V) where
    -- behind k no message means anything at k
    effects-later : (S : Shape) (h : ℕ) (hi : Option (List ℕ)) (ss : PSlots U V) (k : List ℕ) (v : Option V) → AreLawfulSlots S ss h hi → begins_by ss k ≡ false → effects means (all_msgs ss) k v ≡ v
    effects-later S h hi none k v l e = refl
    effects-later S h hi (more lo ms n ss) k v l e =
        effects-append means ms (all_msgs ss) k v ∙ effects-later S h hi ss k _ l.3 (not_behind lo ss k l.0 e) ∙ untouched means ms k v (l.1 k (ap (λ z. z && is_below k (next_lo hi ss)) e))
      where
        -- slots behind one that begins behind a key begin behind it
        not_behind : (lo : List ℕ) (ss : PSlots U V) (k : List ℕ) → is_below lo (next_lo hi ss) ≡ true → reaches lo k ≡ false → begins_by ss k ≡ false
        not_behind lo none k y z = refl
        not_behind lo (more lp mt o ss) k y z = next_above (reaches lp k) lo lp k refl y z

    -- at each key all messages mean what those of the slot that holds it mean
    effects-all : (S : Shape) (h : ℕ) (hi : Option (List ℕ)) (ss : PSlots U V) (k : List ℕ) (v : Option V) → AreLawfulSlots S ss h hi → effects means (all_msgs ss) k v ≡ effects means (msgs_at ss k) k v
    effects-all S h hi none k v l = refl
    effects-all S h hi (more lo ms n ss) k v l =
        effects-append means ms (all_msgs ss) k v ∙ (elim (begins_by ss k) as (λ c. begins_by ss k ≡ c → effects means (all_msgs ss) k (effects means ms k v) ≡ effects means (cond c (msgs_at ss k) ms) k v) [
          | true ↦ λ e. ap (effects means (all_msgs ss) k) (untouched means ms k v (l.1 k (past lo hi ss k e))) ∙ effects-all S h hi ss k v l.3
          | false ↦ λ e. effects-later S h hi ss k _ l.3 e
        ]) refl

    -- emptied slots mean what their children mean
    child_value-emptied : (ss : PSlots U V) (k : List ℕ) → slots_value means (emptied ss) k ≡ child_value means ss k
    child_value-emptied none k = refl
    child_value-emptied (more lo ms n ss) k = ap (λ c. cond c (slots_value means (emptied ss) k) (value means n k)) (begins_by-emptied ss k) ∙ ap (λ z. cond (begins_by ss k) z (value means n k)) (child_value-emptied ss k)

    -- the messages of the new root mean at each key what those of the slot that held it meant
    node_over_slots-same : (S : Shape) (h : ℕ) (ss : PSlots U V) (b : PNode U V) (k : List ℕ) (v : Option V) → AreLawfulSlots S ss h None → (i : IsAbove means ss b) → effects means i.msgs k v ≡ effects means (msgs_at ss k) k v
    node_over_slots-same S h ss b k v l i = i.taken.meaning k v ∙ effects-all S h None ss k v l

    -- the root above means at each key what the old one meant
    pub value-node_over_slots : (S : Shape) (h : ℕ) (ss : PSlots U V) (b : PNode U V) (k : List ℕ) → AreLawfulSlots S ss h None → IsAbove means ss b → value means b k ≡ slots_value means ss k
    value-node_over_slots S h ss b k l i = ap (λ z. value means z k) i.is ∙ ap (effects means i.msgs k) (child_value-emptied ss k) ∙ node_over_slots-same S h ss b k _ l i ∙ sym (slots_value_parts means ss k)

    -- the root above is the old one raised
    new_root_up-node_over_slots : (S : Shape) (h : ℕ) (ss : PSlots U V) (b : PNode U V) → AreLawfulSlots S ss h None → IsAbove means ss b → RootRaised means (inner ss) b
    new_root_up-node_over_slots S h ss b l i = record { slots = ss; msgs = i.msgs; was = refl; is = i.is; same = λ k v. node_over_slots-same S h ss b k v l i; no_more = omega (arith, i.taken.bound, length-all_msgs ss) }

  -- what starts somewhere has a slot
  some_slot : (lo : List ℕ) (ss : PSlots U V) → starts_at lo ss → 1 ≤ slot_count ss
  some_slot lo none h = absurd h
  some_slot lo (more l ms n ss) h = omega arith

  -- the root above is lawful, one level higher
  lawful-node_over_slots : (means : U → Option V → Option V) (S : Shape) (h : ℕ) (ss : PSlots U V) (b : PNode U V) → IsLawfulRoot S (inner ss) h → levels (inner ss) < 16 → IsAbove means ss b → IsLawfulRoot S b (suc h)
  lawful-node_over_slots means S h ss b l e i =
      let s = some_slot [] ss l.3 in
      let n : slot_count (emptied ss) ≤ S.fanout = subst (λ z. z ≤ S.fanout) (sym (slot_count-emptied ss)) l.2 in
      subst (λ z. IsLawfulRoot S z (suc h)) (sym i.is)
      (omega arith, omega (arith, e, root_levels S h (inner ss) l), omega (arith, s, l.2), refl, (refl, touch_only-all i.msgs, (l.0, n, omega (arith, pending-emptied ss), starts_at-emptied [] ss l.3, lawful-emptied S h None ss l.4), tt))

  -- one slot, as the code counts it
  pub one_slot : (xs : List (Slot U V)) (a : PNode U V) → inner (seen_slots xs) ≡ a → length xs ≡ 1 → has_one_slot a ≡ true
  one_slot [] a e h = absurd (omega arith)
  one_slot (x ∷ []) a e h = ap has_one_slot (sym e)
  one_slot (x ∷ (y ∷ xs)) a e h = absurd (omega arith)

  -- any other number of slots
  pub other_slots : (xs : List (Slot U V)) (a : PNode U V) → inner (seen_slots xs) ≡ a → (length xs ≡ 1 → ⊥) → has_one_slot a ≡ false
  other_slots [] a e h = ap has_one_slot (sym e)
  other_slots (x ∷ []) a e h = absurd (h refl)
  other_slots (x ∷ (y ∷ xs)) a e h = ap has_one_slot (sym e)

  -- a raised root keeps the tree lawful
  pub lawful_raised : (means : U → Option V → Option V) (t : PTree U V) (b : PNode U V) → IsLawful t → Raised means t.root b → IsLawful (with_root b t)
  lawful_raised means t b l q = by_root means t.shape l.levels t.root b l.shape l.root q
    where
      by_root : (means : U → Option V → Option V) (S : Shape) (h : ℕ) (a b : PNode U V) → IsTrue (is_shape S) → IsLawfulRoot S a h → Raised means a b → IsLawful (record { shape = S; root = b })
      by_root means S h (leaf es) b ok l q = absurd q
      by_root means S h (inner ss) b ok l q = record { shape = ok; levels = suc h; root = lawful-node_over_slots means S h ss b l q.1 q.2 }

  -- what root_up answers, where it has done its step
  pub answers_raised : (means : U → Option V → Option V) (a b : PTree U V) (n : PNode U V) → IsLawful a → Raised means a.root n → b ≡ with_root n a → AnswersUp means (Did 0) a b
  answers_raised means a b n l q e = subst (λ z. AnswersUp means (Did 0) a z) (sym e) (by_root a.root l.root q)
    where
      by_root : (r : PNode U V) → IsLawfulRoot a.shape r l.levels → Raised means r n → AnswersUp means (Did 0) (with_root r a) (with_root n a)
      by_root (leaf es) m q = absurd q
      by_root (inner ss) m q = record {
        value_kept = λ k. value-node_over_slots means a.shape l.levels ss n k m.4 q.2;
        shape_kept = refl;
        did = (refl, new_root_up-node_over_slots means a.shape l.levels ss n m.4 q.2);
        not_there = (λ z. (cc), λ z. absurd (both_ways (has_one_slot (inner ss)) q.0 z));
        no_room = (λ z. (cc), λ z. absurd (omega (arith, z.1, q.1)));
        unchanged = tt;
      }

  -- and where it has refused
  pub answers_refused : (means : U → Option V → Option V) (r : StepReply) (a : PTree U V) → Refused means r a.root → AnswersUp means r a a
  answers_refused means (Did n) a q = absurd q
  answers_refused means NotThere a q = record { value_kept = λ k. refl; shape_kept = refl; did = tt; not_there = (λ z. q, λ z. refl); no_room = (λ z. (cc), λ z. absurd (both_ways (has_one_slot a.root) z.0 q)); unchanged = refl }
  answers_refused means NoRoom a q = record { value_kept = λ k. refl; shape_kept = refl; did = tt; not_there = (λ z. (cc), λ z. absurd (both_ways (has_one_slot a.root) q.0 z)); no_room = (λ z. q, λ z. refl); unchanged = refl }
  answers_refused means NoMemory a q = record { value_kept = λ k. refl; shape_kept = refl; did = tt; not_there = (λ z. (cc), λ z. absurd (both_ways (has_one_slot a.root) q.0 z)); no_room = (λ z. (cc), λ z. absurd (omega (arith, z.1, q.1))); unchanged = refl }
