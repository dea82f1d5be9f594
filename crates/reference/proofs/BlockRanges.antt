-- What clearing a range of keys leaves of an index, and that one range has all blocks of a path and no other's.
use Rattle.std.proofs.Common.{◌≡◌, ◌<◌, ◌≤◌, ℕ, List, Bool, true, false, cond, sym, ap, refl, ◌∙◌, arith, Option, Some, None, inl}
use Rattle.pathkey.specs.Names.{Path, IsPath}
use Rattle.pathkey.specs.Keys.{Key, block_key, blocks_from, is_in}
use Rattle.pathkey.proofs.KeyFacts.{block_in_blocks, block_in_blocks_from}
use Rattle.reference.specs.Tree.{Tree}
use Rattle.reference.specs.Indexes.{Blocks, most_blocks, BlockOf, BlocksMean, cleared, BlocksChange}

-- what is left of a cleared range stood outside it
pub cleared_some : {V : Type 0} (b : Bool) (o : Option V) (v : V) → cond b None o ≡ Some v → (b ≡ false) × (o ≡ Some v)
cleared_some true o v h = absurd (cc)
cleared_some false o v h = (refl, h)

-- to clear the range takes out the blocks of the path, and no other
pub blocks_cleared : (t : Tree) (p : Path) (d : Blocks) → IsPath p → BlocksMean t d → BlocksChange (λ i o. None) p d (cleared (blocks_from p 0) d)
blocks_cleared t p d is_path means = record {
  block = λ i li. ap (λ (b : Bool). cond b None (d (block_key p i))) (block_in_blocks_from p p 0 i (omega arith) (omega arith) (refl, omega arith));
  elsewhere = λ k off. elim (is_in (blocks_from p 0) k) as (λ b. is_in (blocks_from p 0) k ≡ b → cond b None (d k) ≡ d k) [
    | false ↦ λ h. refl
    | true ↦ λ h. sym (nothing_there k h off (d k) refl)
  ] refl;
  only = λ k v f. inl (v, (cleared_some (is_in (blocks_from p 0) k) (d k) v f).1);
}
  where
    nothing_there : (k : Key) → is_in (blocks_from p 0) k ≡ true → ((i : ℕ) → i < most_blocks → k ≡ block_key p i → ⊥) → (o : Option (List ℕ)) → d k ≡ o → o ≡ None
    nothing_there k h off None e = refl
    nothing_there k h off (Some v) e =
        let o : BlockOf t k = means.only_blocks k v e in
        let few : o.index < most_blocks = o.few in
        let is : (o.path ≡ p) × (0 ≤ o.index) = block_in_blocks p o.path 0 o.index is_path.names o.is_path.names (omega arith) (omega arith) (ap (is_in (blocks_from p 0)) (sym o.key) ∙ h) in
        absurd (off o.index o.few (o.key ∙ ap (λ (x : Path). block_key x o.index) is.0))
