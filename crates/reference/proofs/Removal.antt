-- An entry taken out with all below it: `rmtree` on the two indexes.
use Rattle.std.proofs.Common.{◌≡◌, ◌≢◌, ℕ, [], ◌++◌, Bool, true, false, cond, sym, ap, refl, ◌∙◌, Some, None}
use Rattle.std.proofs.lemmas.Bool.{false_from_ne_true}
use Rattle.reference.specs.Tree.{Path, Tree, edited}
use Rattle.reference.specs.Calls.{Outcome, parent_fault, changed}
use Rattle.reference.specs.Reads.{Bytes, look, sighted, sight}
use Rattle.pathkey.specs.Names.{IsPath}
use Rattle.pathkey.specs.Keys.{enc, block_key, subtree, is_in}
use Rattle.reference.specs.Indexes.{Metadata, Blocks, meta_of, MetaMeans, BlockOf, BlocksMean, cleared}
use Rattle.reference.specs.declared.call.Call.TheVariants.{Rmtree}
use Rattle.reference.specs.declared.reply.Reply.TheVariants.{Done}
use Rattle.pathkey.proofs.KeyFacts.{path_in_subtree, path_in_subtree_from, block_in_subtree, block_in_subtree_from}
use Rattle.reference.proofs.Edits.{alike, unseen, fold-Missing}
use Rattle.reference.proofs.Standing.{parent_from_found}
use Rattle.reference.proofs.CallCases.{removed_cases}
use Rattle.reference.proofs.CallAnswers.{Gives, not_done}
use Rattle.reference.proofs.Points.{edit_outside, edit_inside}
use Rattle.reference.proofs.PointIndexes.{hold_alike}
use Rattle.reference.proofs.BlockRanges.{cleared_some}

-- all at and below p is gone, and nothing else
pub record Removed (t t' : Tree) (p : Path) : Type 0 where
  pub below : (r : Path) → sight t' (p ++ r) ≡ None
  pub other : (q : Path) → ((r : Path) → q ≡ p ++ r → ⊥) → sight t' q ≡ sight t q

-- taking an entry out does that
pub removed_from_edit : (t t' : Tree) (p : Path) → p ≢ [] → parent_fault t p ≡ None → edited t p None ≡ t' → Removed t t' p
removed_from_edit t t' p ne h is = record {
  below = λ r. ap (λ (x : Tree). sight x (p ++ r)) (sym is) ∙ edit_inside t p None r ne h ∙ ap sighted (fold-Missing r);
  other = λ q off. ap (λ (x : Tree). sight x q) (sym is) ∙ edit_outside t p None q ne h off;
}

-- and so does rmtree
removes : (at : ℕ) (t t' : Tree) (p : Path) → ◌≡◌ {A = Outcome} (changed at t (Rmtree p)) (t', Done) → Removed t t' p
unfolding changed
removes at t t' p = removed_cases (Gives t' Done (Removed t t' p)) t p (not_done t t' (Removed t t' p)) (λ ne there e. removed_from_edit t t' p ne (parent_from_found p t ne there) (ap (λ (o : Outcome). o.0) e))

-- ---- the metadata index
-- the metadata at and below the path go
pub rmtree_meta : (at : ℕ) (t t' : Tree) (p : Path) (m : Metadata) → MetaMeans t m → IsPath p → ◌≡◌ {A = Outcome} (changed at t (Rmtree p)) (t', Done) → MetaMeans t' (cleared (subtree p) m)
rmtree_meta at t t' p m old is_path e = record {
  paths = λ q u. elim (is_in (subtree p) (enc q)) as (λ b. is_in (subtree p) (enc q) ≡ b → cond b None (m (enc q)) ≡ meta_of (sight t' q)) [
    | true ↦ λ g. let r : (r : Path) × (q ≡ p ++ r) = path_in_subtree p q is_path.names u.names g in ap meta_of (sym (gone.below r.0)) ∙ ap (λ (x : Path). meta_of (sight t' x)) (sym r.1)
    | false ↦ λ g. old.paths q u ∙ ap meta_of (sym (gone.other q (λ r e. let h : true ≡ false = sym (path_in_subtree_from p q r e) ∙ g in cc)))
  ] refl;
  only_paths = λ k v f. old.only_paths k v (cleared_some (is_in (subtree p) k) (m k) v f).1;
}
  where
    gone : Removed t t' p
    gone = removes at t t' p e

-- ---- the block index
-- the blocks of all files at and below the path go
pub rmtree_blocks : (at : ℕ) (t t' : Tree) (p : Path) (d : Blocks) → BlocksMean t d → IsPath p → ◌≡◌ {A = Outcome} (changed at t (Rmtree p)) (t', Done) → BlocksMean t' (cleared (subtree p) d)
rmtree_blocks at t t' p d old is_path e = record {
  blocks = λ q b u f.
      let off : (r : Path) → q ≡ p ++ r → ⊥ = λ r e. (let x : None ≡ Some (Bytes b) = sym (unseen t' (p ++ r) (gone.below r)) ∙ ap (look t') (sym e) ∙ f in cc) in
      hold_alike (λ i. d (block_key q i)) (λ i. cleared (subtree p) d (block_key q i)) b
      (λ i li. ap (λ (x : Bool). cond x None (d (block_key q i))) (sym (false_from_ne_true (is_in (subtree p) (block_key q i)) (λ g. let r : (r : Path) × (q ≡ p ++ r) = block_in_subtree p q i is_path.names u.names g in off r.0 r.1))))
      (old.blocks q b u (sym (alike t' t q q (gone.other q off)) ∙ f));
  only_blocks = λ k v f.
      let g : (is_in (subtree p) k ≡ false) × (d k ≡ Some v) = cleared_some (is_in (subtree p) k) (d k) v f in
      let o : BlockOf t k = old.only_blocks k v g.1 in
      let off : (r : Path) → o.path ≡ p ++ r → ⊥ = λ r e. (let h : true ≡ false = sym (ap (is_in (subtree p)) o.key ∙ block_in_subtree_from p o.path r o.index e) ∙ g.0 in cc) in
      record { path = o.path; index = o.index; bytes = o.bytes; is_path = o.is_path; few = o.few; key = o.key; file = alike t' t o.path o.path (gone.other o.path off) ∙ o.file };
}
  where
    gone : Removed t t' p
    gone = removes at t t' p e
