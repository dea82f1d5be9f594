-- The edits between two trees make the second of the first.
use Rattle.std.proofs.Common.{◌≡◌, ⊎_elim, ◌++◌, List, [], ℕ, refl, sym, subst, ◌∙◌, Option, Some, None}
use Rattle.pathkey.specs.Names.{IsPath}
use Rattle.reference.specs.Reads.{Sight, look_of, sight}
use Rattle.reference.specs.Shape.{IsTree}
use Rattle.reference.specs.Tree.{Path, Tree}
use Rattle.reference.proofs.Edits.{look_from}
use Rattle.reference.proofs.Sight.{one_tree}
use Rattle.reference.proofs.TreeEdits.{MayBeSeen, looks_may}
use Rattle.edits.specs.Between.{AreBlocksBetween, AreEntriesBetween, arrivals, edits_between, removals, rewrites}
use Rattle.edits.specs.Edits.{AreEdited}
use Rattle.edits.proofs.Arrivals.{all_come}
use Rattle.edits.proofs.Ordered.{contains_none}
use Rattle.edits.proofs.Removals.{all_gone, edited_append, same_left}
use Rattle.edits.proofs.Rewrites.{all_rewritten, last_block, no_block}

-- trees that are seen alike at each path are one
pub same_tree : (t u : Tree) → IsTree t → IsTree u → ((p : Path) → IsPath p → sight t p ≡ sight u p) → t ≡ u
same_tree t u is_t is_u alike = one_tree t u is_t.rising is_u.rising (λ p. cases p (sight t p) (sight u p) refl refl)
  where
    cases : (p : Path) (a b : Option Sight) → sight t p ≡ a → sight u p ≡ b → sight t p ≡ sight u p
    cases p None None x y = x ∙ sym y
    cases p None (Some s) x y = let may : MayBeSeen p (look_of s) = looks_may u p (look_of s) is_u (look_from u p s y) in alike p may.path
    cases p (Some s) b x y = let may : MayBeSeen p (look_of s) = looks_may t p (look_of s) is_t (look_from t p s x) in alike p may.path

pub edits_make : (t u : Tree) (ps : List Path) (bs : List (Path × ℕ)) → IsTree t → IsTree u → AreEntriesBetween t u ps → AreBlocksBetween t u bs → AreEdited (edits_between t u ps bs) t u
edits_make t u ps bs is_t is_u entries blocks =
    let f = all_gone t u is_t is_u ps entries [] ps refl in
    let g = all_come t u is_t is_u ps entries [] ps refl f.0 (record {
      tree = f.1.tree;
      within = λ q v there. absurd (contains_none q there);
      other = λ q v off. ⊎_elim
          (λ c. f.1.within q c)
          (λ same. f.1.other q (λ c. entries.differ q c same) ∙ sym (same_left (sight t q) (sight u q) same))
          (entries.all q v);
    }) in
    let h = all_rewritten t u is_u bs blocks [] bs refl g.0 (no_block t u is_u bs blocks g.0 g.2 g.3) in
    let one : h.0 ≡ u = same_tree h.0 u h.2.tree is_u (last_block t u is_u bs blocks h.0 h.2) in
    edited_append (removals t u ps) (arrivals t u ps ++ rewrites t u bs) t f.0 u f.1.edited
    (edited_append (arrivals t u ps) (rewrites t u bs) f.0 g.0 u g.1 (subst (λ (x : Tree). AreEdited (rewrites t u bs) g.0 x) one h.1))
