-- What a step at a node does to a subtree that is not a whole tree.
use Rattle.std.proofs.Common.{◌≡◌, ℕ, Bool, false, List, refl, ap, sym, ◌∙◌, subst, Option, Some, None}
use Rattle.std.specs.Prelude.{MatchOption}
use Rattle.node.specs.declared.shape.Shape.{Shape}
use Rattle.node.specs.declared.step.StepReply.{StepReply}
use Rattle.node.specs.declared.step.StepReply.TheVariants.{Did, NotThere, NoRoom, NoMemory}
use Rattle.node.specs.declared.step.StepKind.{StepKind}
use Rattle.node.specs.Pure.{PNode, PSlots}
use Rattle.node.specs.Meaning.{value}
use Rattle.node.specs.Lawful.{IsLawfulNode}
use Rattle.node.specs.Site.{slots_at, with_slots, end_at}
use Rattle.node.specs.Steps.{Done, HasNoRoom, Replies, At, IsMissing, IsAdmitted, Precheck, UnlessDid, can_from}
use Rattle.node.specs.Subtrees.{StaysSubtree}
use Rattle.node.proofs.At.{with_slots-same}
use Rattle.node.proofs.Kept.{node_kept}
use Rattle.node.proofs.Outcome.{kept}

-- a fact where nothing is done, if it holds in any case
pub unless_did : {P : Type 0} (r : StepReply) → P → UnlessDid r P
unless_did (Did n) h = tt
unless_did NotThere h = h
unless_did NoRoom h = h
unless_did NoMemory h = h

-- what reading alone says of a reply that the step is not there
pub not_there_read : {U V : Type 0} (means : U → Option V → Option V) (kind : StepKind) (shape : Shape) (root : Bool) (i : ℕ) (hi : Option (List ℕ)) (ss : Option (PSlots U V)) (r : StepReply) → Precheck means kind shape root i hi ss (Some r) → r ≡ NotThere → can_from kind i hi ss ≡ false
not_there_read means kind shape root i hi ss r q e = subst (λ x. Precheck means kind shape root i hi ss (Some x)) e q

module _ {U V : Type 0} (means : U → Option V → Option V) (shape : Shape) (hi : Option (List ℕ)) where
  -- what stays is as it was
  pub stays_same : (a b : PNode U V) → b ≡ a → StaysSubtree means shape hi a b
  stays_same a b e h lo l = record { lawful = subst (λ n. IsLawfulNode shape n h lo hi) (sym e) l; same = λ k w. ap (λ n. value means n k) e }

  module _ (kind : StepKind) (i : ℕ) (p : List ℕ) (a b : PNode U V) where
    -- a step that is not done leaves the subtree unchanged
    unchanged_by : (ss new : PSlots U V) (r : StepReply) → slots_at p a ≡ Some ss → b ≡ with_slots p new a → Replies means kind shape false i r ss new → UnlessDid r (b ≡ a)
    unchanged_by ss new (Did n) e is q = tt
    unchanged_by ss new NotThere e is q = is ∙ ap (λ z. with_slots p z a) q.0 ∙ with_slots-same p a ss e
    unchanged_by ss new NoRoom e is q = is ∙ ap (λ z. with_slots p z a) q.0 ∙ with_slots-same p a ss e
    unchanged_by ss new NoMemory e is q = is ∙ ap (λ z. with_slots p z a) q ∙ with_slots-same p a ss e

    -- what the reply at the place says of the subtree
    stays_by : (ss new : PSlots U V) (r : StepReply) → slots_at p a ≡ Some ss → b ≡ with_slots p new a → IsAdmitted means kind shape false i (end_at p hi a) (Some ss) → Replies means kind shape false i r ss new → StaysSubtree means shape hi a b
    stays_by ss new (Did n) e is able q = λ h lo l.
        let k = node_kept means shape ss new (Done means kind shape n i (end_at p hi a) ss new × (HasNoRoom means kind shape false i ss → ⊥)) p a h lo hi e (λ g lp m. let x = q g lp (end_at p hi a) m able.0 (able.1 g lp m) in kept means kind shape i false n g lp (end_at p hi a) ss new m x.0 x.1 x.2) l in
        record {
          lawful = subst (λ z. IsLawfulNode shape z h lo hi) (sym is) k.0;
          same = λ x w. ap (λ z. value means z x) is ∙ k.1 x w;
        }
    stays_by ss new NotThere e is able q = stays_same a b (unchanged_by ss new NotThere e is q)
    stays_by ss new NoRoom e is able q = stays_same a b (unchanged_by ss new NoRoom e is q)
    stays_by ss new NoMemory e is able q = stays_same a b (unchanged_by ss new NoMemory e is q)

    -- a step that reading did not refuse
    pub stays : (r : StepReply) → IsAdmitted means kind shape false i (end_at p hi a) (slots_at p a) → At p r (Replies means kind shape false i r) a b → StaysSubtree means shape hi a b
    stays r able q =
        (elim (slots_at p a) as (λ o. slots_at p a ≡ o → IsAdmitted means kind shape false i (end_at p hi a) o → MatchOption o ((b ≡ a) × IsMissing r) (λ ss. (new : PSlots U V) × (b ≡ with_slots p new a) × Replies means kind shape false i r ss new) → StaysSubtree means shape hi a b) [
          | None ↦ λ e t m. stays_same a b m.0
          | Some ss ↦ λ e t m. stays_by ss m.0 r e m.1 t m.2
        ]) refl able q

    -- and so if there is no node at the place
    pub unchanged : (r : StepReply) → At p r (Replies means kind shape false i r) a b → UnlessDid r (b ≡ a)
    unchanged r q =
        (elim (slots_at p a) as (λ o. slots_at p a ≡ o → MatchOption o ((b ≡ a) × IsMissing r) (λ ss. (new : PSlots U V) × (b ≡ with_slots p new a) × Replies means kind shape false i r ss new) → UnlessDid r (b ≡ a)) [
          | None ↦ λ e m. unless_did r m.0
          | Some ss ↦ λ e m. unchanged_by ss m.0 r e m.1 m.2
        ]) refl q

    -- the reply that the step is not there is true
    pub not_there : (r : StepReply) → At p r (Replies means kind shape false i r) a b → r ≡ NotThere → can_from kind i (end_at p hi a) (slots_at p a) ≡ false
    not_there r q is =
        (elim (slots_at p a) as (λ o. MatchOption o ((b ≡ a) × IsMissing r) (λ ss. (new : PSlots U V) × (b ≡ with_slots p new a) × Replies means kind shape false i r ss new) → can_from kind i (end_at p hi a) o ≡ false) [
          | None ↦ λ m. refl
          | Some ss ↦ λ m. (subst (λ x. Replies means kind shape false i x ss m.0) is m.2).1 (end_at p hi a)
        ]) q
