-- How a change of a tree carries out an edit.
use Rattle.std.proofs.Common.{◌≡◌, ◌≢◌, ◌⊎◌, inl, inr, [], ◌∷◌, Bool, true, false, Option, Some, None, sym, refl, ap, ◌∙◌, append-nil, subst}
use Rattle.reference.specs.Calls.{Outcome}
use Rattle.reference.specs.Reads.{Sight, rest_of, sight}
use Rattle.reference.specs.Shape.{IsTree}
use Rattle.reference.specs.Tree.{Path, Tree}
use Rattle.reference.specs.declared.reply.Reply.{Reply}
use Rattle.reference.specs.declared.reply.Reply.TheVariants.{Fault}
use Rattle.reference.proofs.EntryPaths.{rest_of_from, rest_of_itself}
use Rattle.reference.proofs.Points.{IsPoint}
use Rattle.reference.proofs.Sight.{one_tree}
use Rattle.edits.specs.Edits.{AreEdited, Fits, IsEdited, OneTreeLaw, OtherPathsLaw, seen_after}
use Rattle.edits.specs.declared.edit.Edit.{Edit}

-- ---- paths

-- two paths are the same or not
one_or_other : (p q : Path) → (q ≡ p) ⊎ (q ≢ p)
one_or_other p q = elim (rest_of p q) as (λ c. rest_of p q ≡ c → (q ≡ p) ⊎ (q ≢ p)) [
  | None ↦ λ e. inr (λ same. let f : None ≡ Some [] = sym e ∙ ap (rest_of p) same ∙ rest_of_itself p in cc)
  | Some r ↦ λ e. more r e
] refl
  where
    more : (r : Path) → rest_of p q ≡ Some r → (q ≡ p) ⊎ (q ≢ p)
    more [] e = inl (rest_of_from p q [] e ∙ append-nil p)
    more (k ∷ r) e = inr (λ same. let f : Some (k ∷ r) ≡ Some [] = sym e ∙ ap (rest_of p) same ∙ rest_of_itself p in cc)

-- ---- laws

-- an edit makes at most one tree
one_edited : (e : Edit) (t u v : Tree) → IsEdited e t u → IsEdited e t v → u ≡ v
one_edited e t u v a b = one_tree u v a.tree.rising b.tree.rising (λ q. at q (one_or_other e.path q))
  where
    at : (q : Path) → (q ≡ e.path) ⊎ (q ≢ e.path) → sight u q ≡ sight v q
    at q (inl same) = ap (sight u) same ∙ a.itself ∙ sym b.itself ∙ ap (sight v) (sym same)
    at q (inr apart) = a.other q apart ∙ sym (b.other q apart)

pub edits_one_tree : OneTreeLaw
edits_one_tree [] t u v is a b = a ∙ sym b
edits_one_tree (e ∷ es) t u v is a b =
    let same : b.0 ≡ a.0 = one_edited e t b.0 a.0 b.1 a.1 in
    edits_one_tree es a.0 u v a.1.tree a.2 (subst (λ (m : Tree). AreEdited es m v) same b.2)

pub edits_other_paths : OtherPathsLaw
edits_other_paths [] t u p are unnamed = ap (λ (x : Tree). sight x p) are
edits_other_paths (e ∷ es) t u p are unnamed = edits_other_paths es are.0 u p are.2 unnamed.1 ∙ are.1.other p unnamed.0

-- ---- outcomes

-- the reply is a fault
abbrev pub is_fault : Reply → Bool
is_fault (Fault e) = true
is_fault r = false

-- the outcome of a change of t: its tree is the one that the edit makes; and it is a fault only if the edit makes none
pub record CarriesOut (e : Edit) (t : Tree) (o : Outcome) : Type 0 where
  pub done : is_fault o.1 ≡ false → IsTree o.0 → IsEdited e t o.0
  pub possible : (u : Tree) → IsEdited e t u → is_fault o.1 ≡ false

-- an edit that fits, of which no more is seen than what it does at its path
pub edited_at : (e : Edit) (t u : Tree) (s : Option Sight) → IsTree u → Fits e.change (sight t e.path) → seen_after e.change (sight t e.path) ≡ s → IsPoint t u e.path s → IsEdited e t u
edited_at e t u s tree fits after point = record { tree = tree; fits = fits; itself = point.itself ∙ sym after; other = point.other }

-- an outcome without a fault, whose tree is the one that the edit makes
pub carries_done : (e : Edit) (t x : Tree) (r : Reply) (o : Outcome) → o ≡ (x, r) → is_fault r ≡ false → (IsTree x → IsEdited e t x) → CarriesOut e t o
carries_done e t x r o is none make = record {
  done = λ f tree. subst (IsEdited e t) (ap (λ (z : Outcome). z.0) (sym is)) (make (subst IsTree (ap (λ (z : Outcome). z.0) is) tree));
  possible = λ u h. ap (λ (z : Outcome). is_fault z.1) is ∙ none;
}

-- a call that returns nothing and is no fault is done
pub done_from : (o : Outcome) (r : Reply) → o.1 ≡ r → ◌≡◌ {A = Outcome} o (o.0, r)
done_from o r e = ap {B = Outcome} (λ (x : Reply). (o.0, x)) e
