-- The only child of a root in the root's place.
use Rattle.std.proofs.Common.{◌≡◌, ℕ, true, false, List, [], ◌∷◌, ◌++◌, length, refl, ap, sym, ◌∙◌, subst, arith, cond, Option, Some, None, pred}
use Rattle.std.specs.Prelude.{◌&&◌}
use Rattle.std.proofs.lemmas.List.{append_assoc, append-nil}
use Rattle.pathkey.specs.Keys.{is_below}
use Rattle.pathkey.proofs.KeyOrder.{from_start, before_from_not_reaches}
use Rattle.message.specs.declared.msg.Msg.{Msg}
use Rattle.message.specs.Ranges.{reaches, before}
use Rattle.message.specs.Cuts.{pieces}
use Rattle.message.specs.Effects.{effects, Takes}
use Rattle.node.specs.declared.node.Slot.{Slot}
use Rattle.node.specs.declared.shape.Shape.{Shape}
use Rattle.node.specs.declared.step.StepReply.TheVariants.{Did}
use Rattle.node.specs.Appended.{batches_by_slot, HaveTaken, IsAppended}
use Rattle.node.specs.See.{seen_slots}
use Rattle.node.specs.Pure.{PNode, leaf, inner, PSlots, none, more, PTree}
use Rattle.node.specs.Lawful.{IsLawfulRoot, IsLawful, next_lo, starts_at}
use Rattle.node.specs.RootSteps.{has_one_inner, with_root, RootLowered, AnswersDown}
use Rattle.node.specs.Sinks.{msgs_at}
use Rattle.node.proofs.Appending.{effects-taken, lawful-appended, value-appended}
use Rattle.node.proofs.Sinking.{emptied-taken, pending-taken}
use Rattle.split_merge.specs.Lowered.{Lowered}

module _ {U V : Type 0} (means : U → Option V → Option V) where
  -- ---- the slots, one by one

  -- slots, the last of which has no end, have taken their parts of messages
  abbrev pub HaveAll : List (Msg U V) → List (Slot U V) → List (Slot U V) → Type 0
  HaveAll ms xs ys = HaveTaken means (seen_slots xs) (batches_by_slot None ms (seen_slots xs)) (seen_slots ys)

  -- whatever the rest becomes, all become that behind what was made
  abbrev pub LeavesRest : List (Msg U V) → List (Slot U V) → List (Slot U V) → List (Slot U V) → Type 0
  LeavesRest ms rest done xs = (ys : List (Slot U V)) → HaveAll ms rest ys → HaveAll ms xs (done ++ ys)

  -- one slot more is made
  pub rest-next : (hi : Option (List ℕ)) (ms : List (Msg U V)) (s new : Slot U V) (rest later done more_done xs : List (Slot U V)) → rest ≡ s ∷ later → more_done ≡ done ++ new ∷ [] → hi ≡ next_lo None (seen_slots later) → HaveTaken means (seen_slots (s ∷ [])) (batches_by_slot hi ms (seen_slots (s ∷ []))) (seen_slots (new ∷ [])) → LeavesRest ms rest done xs → LeavesRest ms later more_done xs
  rest-next hi ms s new rest later done more_done xs e m h t f ys r =
      let here : Takes means s.pending.0 (pieces s.lo (next_lo None (seen_slots later)) ms) new.pending.0 = subst (λ (z : Option (List ℕ)). Takes means s.pending.0 (pieces s.lo z ms) new.pending.0) h t.1 in
      let first : HaveAll ms (s ∷ later) (new ∷ ys) = (t.0, here, t.2, r) in
      let all : HaveAll ms xs (done ++ (new ∷ ys)) = f (new ∷ ys) (subst (λ (z : List (Slot U V)). HaveAll ms z (new ∷ ys)) (sym e) first) in
      subst (λ (z : List (Slot U V)). HaveAll ms xs z) (sym (ap (λ (z : List (Slot U V)). z ++ ys) m ∙ append_assoc done (new ∷ []) ys)) all

  -- none is left
  pub rest-none : (ms : List (Msg U V)) (rest done xs : List (Slot U V)) → length rest ≡ 0 → LeavesRest ms rest done xs → HaveAll ms xs done
  rest-none ms [] done xs e f = subst (λ (z : List (Slot U V)). HaveAll ms xs z) (append-nil done) (f [] tt)
  rest-none ms (s ∷ later) done xs e f = absurd (omega (arith, e))

module _ {U V : Type 0} where
  -- ---- the messages

  -- the list of the slot that holds a key has taken the messages at that key
  msgs-taken : (means : U → Option V → Option V) (hi : Option (List ℕ)) (ms : List (Msg U V)) (lo : List ℕ) (old : List (Msg U V)) (n : PNode U V) (ss new : PSlots U V) (k : List ℕ) (v : Option V) → HaveTaken means (more lo old n ss) (batches_by_slot hi ms (more lo old n ss)) new → reaches lo k ≡ true → is_below k hi ≡ true → effects means (msgs_at new k) k v ≡ effects means ms k (effects means (msgs_at (more lo old n ss) k) k v)
  msgs-taken means hi ms lo old n ss none k v t low high = absurd t
  msgs-taken means hi ms lo old n none (more lp new o none) k v t low high = effects-taken means lo hi old ms new k v t.1 (ap (λ z. z && is_below k hi) low ∙ high)
  msgs-taken means hi ms lo old n none (more lp new o (more lq nq oq ts)) k v t low high = absurd t.3
  msgs-taken means hi ms lo old n (more l m c ss) (more lp new o none) k v t low high = absurd t.3
  msgs-taken means hi ms lo old n (more l m c ss) (more lp new o (more lq nq oq ts)) k v t low high =
      ap (λ b. effects means (cond b (msgs_at (more lq nq oq ts) k) new) k v) (ap (λ x. reaches x k) t.3.0) ∙ (elim (reaches l k) as (λ b. reaches l k ≡ b → effects means (cond b (msgs_at (more lq nq oq ts) k) new) k v ≡ effects means ms k (effects means (cond b (msgs_at (more l m c ss) k) old) k v)) [
        | true ↦ λ e. msgs-taken means hi ms l m c ss (more lq nq oq ts) k v t.3 e high
        | false ↦ λ e. effects-taken means lo (Some l) old ms new k v t.1 (ap (λ z. z && before k l) low ∙ before_from_not_reaches l k e)
      ]) refl

  -- ---- the tree

  -- the only child of a lawful root, an inner node, could be the root
  lawful_child : (S : Shape) (h : ℕ) (lo : List ℕ) (ms : List (Msg U V)) (below : PSlots U V) → IsLawfulRoot S (inner (more lo ms (inner below) none)) h → IsLawfulRoot S (inner below) (pred h)
  lawful_child S h lo ms below l =
      let c = l.4.2 in
      (c.0, omega (arith, l.1), c.1, subst (λ z. starts_at z below) l.3 c.3, c.4)

  -- the old root's messages stand behind those of its child
  lowered_row : (means : U → Option V → Option V) (S : Shape) (h : ℕ) (lo : List ℕ) (ms : List (Msg U V)) (below : PSlots U V) (n : PNode U V) → IsLawfulRoot S (inner (more lo ms (inner below) none)) h → IsAppended means ms (inner below) n → RootLowered means (inner (more lo ms (inner below) none)) n
  lowered_row means S h lo ms below (leaf es) l q = absurd q
  lowered_row means S h lo ms none (inner new) l q = absurd l.4.2.3
  lowered_row means S h lo ms (more lp mt o ss) (inner new) l q = record {
    msgs = ms;
    below = more lp mt o ss;
    grown = new;
    was = ap (λ z. inner (more z ms (inner (more lp mt o ss)) none)) l.3;
    is = refl;
    same_slots = emptied-taken means ms (more lp mt o ss) new q;
    same = λ k v. msgs-taken means None ms lp mt o ss new k v q (ap (λ z. reaches z k) (l.4.2.3 ∙ l.3) ∙ from_start k) refl;
    pieces_grow = pending-taken means ms (more lp mt o ss) new q;
  }

  -- a root that has gone down keeps the tree lawful
  pub lawful_lowered : (means : U → Option V → Option V) (t : PTree U V) (b : PNode U V) → IsLawful t → Lowered means t.root b → IsLawful (with_root b t)
  lawful_lowered means t b l q = by_root t.root l.root q
    where
      by_root : (a : PNode U V) → IsLawfulRoot t.shape a l.levels → Lowered means a b → IsLawful (with_root b t)
      by_root (leaf es) m q = absurd q
      by_root (inner none) m q = absurd q
      by_root (inner (more lo ms (leaf es) none)) m q = absurd q
      by_root (inner (more lo ms (leaf es) (more lp mt o ss))) m q = absurd q
      by_root (inner (more lo ms (inner below) (more lp mt o ss))) m q = absurd q
      by_root (inner (more lo ms (inner below) none)) m q = record { shape = l.shape; levels = pred l.levels; root = lawful-appended means t.shape (pred l.levels) ms (inner below) b q (lawful_child t.shape l.levels lo ms below m) }

  -- what root_down answers, where it has done its step
  pub answers_lowered : (means : U → Option V → Option V) (a b : PTree U V) (n : PNode U V) → IsLawful a → Lowered means a.root n → b ≡ with_root n a → AnswersDown means (Did 0) a b
  answers_lowered means a b n l q e = subst (λ z. AnswersDown means (Did 0) a z) (sym e) (by_root a.root l.root q)
    where
      by_root : (r : PNode U V) → IsLawfulRoot a.shape r l.levels → Lowered means r n → AnswersDown means (Did 0) (with_root r a) (with_root n a)
      by_root (leaf es) m q = absurd q
      by_root (inner none) m q = absurd q
      by_root (inner (more lo ms (leaf es) none)) m q = absurd q
      by_root (inner (more lo ms (leaf es) (more lp mt o ss))) m q = absurd q
      by_root (inner (more lo ms (inner below) (more lp mt o ss))) m q = absurd q
      by_root (inner (more lo ms (inner below) none)) m q = record {
        value_kept = value-appended means a.shape (pred l.levels) ms (inner below) n q (lawful_child a.shape l.levels lo ms below m);
        shape_kept = refl;
        did = (refl, lowered_row means a.shape l.levels lo ms below n m q);
        not_there = (λ z. (cc), λ z. (cc));
        no_room = λ z. (cc);
        unchanged = tt;
      }

  -- ---- as the code reads the root

  -- another number of slots than one
  pub not_one : (xs : List (Slot U V)) (a : PNode U V) → inner (seen_slots xs) ≡ a → (length xs ≡ 1 → ⊥) → has_one_inner a ≡ false
  not_one [] a e h = ap has_one_inner (sym e)
  not_one (x ∷ []) a e h = absurd (h refl)
  not_one (x ∷ (y ∷ xs)) a e h = ap has_one_inner (sym e)
