-- What a step at a node does to the tree.
use Rattle.std.proofs.Common.{◌≡◌, ℕ, zero, suc, ◌≤◌, Bool, true, false, List, [], ◌∷◌, length, refl, ap, sym, ◌∙◌, subst, arith, Option, Some, None, inl, inr}
use Rattle.std.specs.Prelude.{MatchOption, IfSome, ◌==◌, ◌⊎◌}
use Rattle.std.proofs.lemmas.Bool.{both_ways}
use Rattle.node.specs.declared.shape.Shape.{Shape}
use Rattle.node.specs.declared.step.StepReply.{StepReply}
use Rattle.node.specs.declared.step.StepReply.TheVariants.{Did, NotThere, NoRoom, NoMemory}
use Rattle.node.specs.declared.step.StepKind.{StepKind}
use Rattle.node.specs.declared.step.StepKind.TheVariants.{FlushInner, FlushLeaf, SplitInner, MergeLeaves, MergeInner, RootUp, RootDown, DropCovered}
use Rattle.node.specs.Pure.{PNode, leaf, inner, PSlots, none, more, PTree}
use Rattle.pathkey.specs.Keys.{is_below}
use Rattle.message.specs.Ranges.{reaches}
use Rattle.node.specs.Meaning.{value, slots_value}
use Rattle.node.specs.Lawful.{IsLawfulRoot, AreLawfulSlots, slot_count, starts_at}
use Rattle.node.specs.Site.{slots_at, with_slots, end_at, of_child, child_changed, joined, slots_from, Spliced}
use Rattle.node.specs.Sinks.{first_lo}
use Rattle.node.specs.Steps.{LawfulSlots, is_top, width, OthersStay, Stepped, Done, Replies, At, IsMissing, IfDid, UnlessDid, HasNoRoom, OnlyDoingTells, MayHaveRoom, IsAdmitted, IsRefused, Precheck, there, applies, Answers}
use Rattle.message.proofs.KeyOrder.{both}
use Rattle.node.proofs.At.{with_slots-same}
use Rattle.node.proofs.Splice.{value-spliced, counted-more, starts-more, starts-first}
use Rattle.node.proofs.Roots.{tree_of}
use Rattle.node.proofs.Kept.{SlotsKept, root_kept}

-- every step names a slot
width-some : (kind : StepKind) → 1 ≤ width kind
width-some FlushInner = omega arith
width-some FlushLeaf = omega arith
width-some SplitInner = omega arith
width-some MergeLeaves = omega arith
width-some MergeInner = omega arith
width-some RootUp = omega arith
width-some RootDown = omega arith
width-some DropCovered = omega arith

-- the place without numbers is the root
pub is_top-is : (p : List ℕ) → (length p == 0) ≡ is_top p
is_top-is [] = refl
is_top-is (i ∷ p) = grind arith

-- a fact where nothing is done that follows from another
pub on_undone : (r : StepReply) (A B : Type 0) → (A → B) → UnlessDid r A → UnlessDid r B
on_undone (Did n) A B f q = tt
on_undone NotThere A B f q = f q
on_undone NoRoom A B f q = f q
on_undone NoMemory A B f q = f q

module _ {U V : Type 0} where
  -- what a step that can be done has done, by its reply
  pub record Outcome (means : U → Option V → Option V) (kind : StepKind) (shape : Shape) (p : List ℕ) (i h : ℕ) (r : StepReply) (a b : PNode U V) : Type 0 where
    pub lawful : IsLawfulRoot shape b h
    pub same : (k : List ℕ) → value means b k ≡ value means a k
    pub did : IfDid r (λ n. Stepped means kind shape n p i a b)
    pub others : IfDid r (λ n. OthersStay kind p i a b)
    pub there : r ≡ NotThere → ⊥
    pub full : r ≡ NoRoom → IsRefused means kind shape (is_top p) i (end_at p None a) (slots_at p a)
    pub reported : IsRefused means kind shape (is_top p) i (end_at p None a) (slots_at p a) → (r ≡ NoRoom) ⊎ ((r ≡ NoMemory) × MatchOption (slots_at p a) ⊥ (λ ss. OnlyDoingTells kind (slots_from i ss)))
    pub unchanged : UnlessDid r (b ≡ a)

  -- a changed child is a change of its slot alone
  child-spliced : (f : PNode U V → PNode U V) (g : PNode U V → Option (PSlots U V)) (ss ts : PSlots U V) (i : ℕ) (hi : Option (List ℕ)) → of_child None g ts i ≡ Some ss → Spliced (λ e old new. starts_at (first_lo old) new) i 1 hi ts (child_changed f ts i)
  child-spliced f g ss none i hi e = (cc)
  child-spliced f g ss (more lo ms n ts) zero hi e = record { before = none; old = more lo ms n none; new = more lo ms (f n) none; after = ts; was = refl; is = refl; number = refl; width = refl; changed = refl }
  child-spliced f g ss (more lo ms n ts) (suc i) hi e =
      let s = child-spliced f g ss ts i hi e in
      record { before = more lo ms n s.before; old = s.old; new = s.new; after = s.after; was = ap (more lo ms n) s.was; is = ap (more lo ms n) s.is; number = omega (arith, s.number); width = s.width; changed = s.changed }

  module _ (means : U → Option V → Option V) (kind : StepKind) (shape : Shape) (i : ℕ) where
    -- what sinks keeps the slots
    pub kept : (root : Bool) (n h : ℕ) (lo : List ℕ) (hi : Option (List ℕ)) (ss new : PSlots U V) → LawfulSlots shape root h lo hi ss → Done means kind shape n i hi ss new → LawfulSlots shape root h lo hi new → (HasNoRoom means kind shape root i ss → ⊥) → SlotsKept means shape root h lo hi ss new (Done means kind shape n i hi ss new × (HasNoRoom means kind shape root i ss → ⊥))
    kept root n h lo hi ss new l d m f =
        let a = joined d.before (joined d.old d.after) in
        let b = joined d.before (joined d.new d.after) in
        record {
          fact = (d, f);
          lawful = m;
          same = λ k w.
              let q = both (reaches lo k) (is_below k hi) w in
              let first : first_lo a ≡ lo = ap first_lo (sym d.was) ∙ starts-first lo ss l.starts in
              let wide : 1 ≤ slot_count d.old = omega (arith, d.width, width-some kind) in
              ap (λ z. slots_value means z k) d.is
              ∙ value-spliced means shape h n hi d.old d.new d.after (counted-more d.old wide) (starts-more (first_lo d.old) d.new d.changed.0.starts) d.changed.0 d.before k (subst (λ z. AreLawfulSlots shape z h hi) d.was l.each) (subst (λ z. AreLawfulSlots shape z h hi) d.is m.each) (ap (λ z. reaches z k) first ∙ q.0) q.1
              ∙ ap (λ z. slots_value means z k) (sym d.was);
        }

    -- the other slots of the root stay
    others : (n : ℕ) (p : List ℕ) (h : ℕ) (a : PNode U V) (ss new : PSlots U V) → IsLawfulRoot shape a h → slots_at p a ≡ Some ss → Done means kind shape n i (end_at p None a) ss new → OthersStay kind p i a (with_slots p new a)
    others n p h (leaf es) ss new l e d = absurd l
    others n [] h (inner ts) ss new l e d =
        let q : ts ≡ ss = (cc) in
        record { before = d.before; old = d.old; new = d.new; after = d.after; was = q ∙ d.was; is = d.is; number = d.number; width = d.width; changed = d.changed.0.starts }
    others n (j ∷ p) h (inner ts) ss new l e d = child-spliced (with_slots p new) (slots_at p) ss ts j None e

    module _ (p : List ℕ) (h : ℕ) (a b : PNode U V) (ss new : PSlots U V) (l : IsLawfulRoot shape a h) (e : slots_at p a ≡ Some ss) (is : b ≡ with_slots p new a) (able : applies kind (end_at p None a) (slots_from i ss) ≡ true) (room : (g : ℕ) (lo : List ℕ) → LawfulSlots shape (is_top p) g lo (end_at p None a) ss → MayHaveRoom means kind shape (is_top p) i ss) where
      -- slots that stay leave the tree
      same : new ≡ ss → b ≡ a
      same q = is ∙ ap (λ z. with_slots p z a) q ∙ with_slots-same p a ss e

      -- where there is no room at the place, the slots there have none
      lacks : IsRefused means kind shape (is_top p) i (end_at p None a) (slots_at p a) → HasNoRoom means kind shape (is_top p) i ss
      lacks z = subst (λ o. IfSome o (HasNoRoom means kind shape (is_top p) i)) e z.1

      -- and if so, only doing the step tells
      untold : HasNoRoom means kind shape (is_top p) i ss → MatchOption (slots_at p a) ⊥ (λ ts. OnlyDoingTells kind (slots_from i ts))
      untold z =
          let m = (root_kept means shape ss ss (MayHaveRoom means kind shape (is_top p) i ss) p a h e (λ g lo m. record { fact = room g lo m; lawful = m; same = λ k w. refl }) l).2 in
          subst (λ o. MatchOption o ⊥ (λ ts. OnlyDoingTells kind (slots_from i ts))) (sym e) (m z)

      -- what the reply at the place says of the tree
      outcome_by : (r : StepReply) → Replies means kind shape (is_top p) i r ss new → Outcome means kind shape p i h r a b
      outcome_by (Did n) q =
          let k = root_kept means shape ss new (Done means kind shape n i (end_at p None a) ss new × (HasNoRoom means kind shape (is_top p) i ss → ⊥)) p a h e (λ g lo m. let x = q g lo (end_at p None a) m able (room g lo m) in kept (is_top p) n g lo (end_at p None a) ss new m x.0 x.1 x.2) l in
          record {
            lawful = subst (λ z. IsLawfulRoot shape z h) (sym is) k.0;
            same = λ x. ap (λ z. value means z x) is ∙ k.1 x;
            did = record { old = ss; new = new; was = e; is = is; done = k.2.0 };
            others = subst (λ z. OthersStay kind p i a z) (sym is) (others n p h a ss new l e k.2.0);
            there = λ z. (cc);
            full = λ z. (cc);
            reported = λ z. absurd (k.2.1 (lacks z));
            unchanged = tt;
          }
      outcome_by NotThere q = absurd (both_ways (applies kind (end_at p None a) (slots_from i ss)) (q.1 (end_at p None a)) able)
      outcome_by NoRoom q = record {
        lawful = subst (λ z. IsLawfulRoot shape z h) (sym (same q.0)) l;
        same = λ x. ap (λ z. value means z x) (same q.0);
        did = tt;
        others = tt;
        there = λ z. (cc);
        full = λ z. subst (λ o. IsRefused means kind shape (is_top p) i (end_at p None a) o) (sym e) (able, q.1);
        reported = λ z. inl refl;
        unchanged = same q.0;
      }
      outcome_by NoMemory q = record {
        lawful = subst (λ z. IsLawfulRoot shape z h) (sym (same q)) l;
        same = λ x. ap (λ z. value means z x) (same q);
        did = tt;
        others = tt;
        there = λ z. (cc);
        full = λ z. (cc);
        reported = λ z. inr (refl, untold (lacks z));
        unchanged = same q;
      }

    -- the same, where reading did not refuse the step
    pub outcome : (p : List ℕ) (h : ℕ) (r : StepReply) (a b : PNode U V) → IsLawfulRoot shape a h → IsAdmitted means kind shape (is_top p) i (end_at p None a) (slots_at p a) → At p r (Replies means kind shape (is_top p) i r) a b → Outcome means kind shape p i h r a b
    outcome p h r a b l able q =
        (elim (slots_at p a) as (λ o. slots_at p a ≡ o → IsAdmitted means kind shape (is_top p) i (end_at p None a) o → MatchOption o ((b ≡ a) × IsMissing r) (λ ss. (new : PSlots U V) × (b ≡ with_slots p new a) × Replies means kind shape (is_top p) i r ss new) → Outcome means kind shape p i h r a b) [
          | None ↦ λ e t m. absurd (let f : false ≡ true = t.0 in (cc))
          | Some ss ↦ λ e t m. outcome_by p h a b ss m.0 l e m.1 t.0 t.1 r m.2
        ]) refl able q

  -- the outcome in the words of a contract
  pub answers : (means : U → Option V → Option V) (kind : StepKind) (shape : Shape) (i : ℕ) (p : List ℕ) (h : ℕ) (r : StepReply) (a b : PNode U V) (t : PTree U V) → tree_of shape a ≡ t → there kind i p None a ≡ true → Outcome means kind shape p i h r a b → Answers means kind p i r t (tree_of shape b)
  answers means kind shape i p h r a b t e able o = subst (λ z. Answers means kind p i r z (tree_of shape b)) e (record {
    value_kept = o.same;
    shape_kept = refl;
    did = o.did;
    others_stay = o.others;
    not_there = (λ z. absurd (o.there z), λ z. absurd (both_ways (there kind i p None a) z able));
    no_room = o.full;
    no_room_resolved = o.reported;
    unchanged = on_undone r (b ≡ a) (tree_of shape b ≡ tree_of shape a) (ap (tree_of shape)) o.unchanged;
  })

  -- what a step answers that reading refuses
  pub refused : (means : U → Option V → Option V) (kind : StepKind) (i : ℕ) (p : List ℕ) (r : StepReply) (t : PTree U V) → Precheck means kind t.shape (is_top p) i (end_at p None t.root) (slots_at p t.root) (Some r) → Answers means kind p i r t t
  refused means kind i p (Did n) t q = absurd q
  refused means kind i p NotThere t q = record {
    value_kept = λ k. refl;
    shape_kept = refl;
    did = tt;
    others_stay = tt;
    not_there = (λ z. q, λ z. refl);
    no_room = λ z. (cc);
    no_room_resolved = λ z. absurd (both_ways (there kind i p None t.root) q z.0);
    unchanged = refl;
  }
  refused means kind i p NoRoom t q = record {
    value_kept = λ k. refl;
    shape_kept = refl;
    did = tt;
    others_stay = tt;
    not_there = (λ z. (cc), λ z. absurd (both_ways (there kind i p None t.root) z q.0));
    no_room = λ z. q;
    no_room_resolved = λ z. inl refl;
    unchanged = refl;
  }
  refused means kind i p NoMemory t q = absurd q

  -- what reading told of the tree, which it knew by other names
  pub reported : (means : U → Option V → Option V) (kind : StepKind) (shape : Shape) (i : ℕ) (p : List ℕ) (r : Option StepReply) (top : Bool) (x a : PNode U V) → top ≡ is_top p → x ≡ a → Precheck means kind shape top i (end_at p None x) (slots_at p x) r → Precheck means kind shape (is_top p) i (end_at p None a) (slots_at p a) r
  reported means kind shape i p r top x a e f q = subst (λ z. Precheck means kind shape z i (end_at p None a) (slots_at p a) r) e (subst (λ z. Precheck means kind shape top i (end_at p None z) (slots_at p z) r) f q)
