-- The keys of a path's blocks are in the order of their numbers.
use Rattle.std.proofs.Common.{◌≡◌, ℕ, ◌^◌, ◌<◌, ◌≤◌, ◌++◌, ◌∷◌, [], true, refl, sym, subst, arith, Some}
use Rattle.std.proofs.lemmas.Bool.{and_from, and_parts, false_from_ne_true}
use Rattle.message.specs.Ranges.{before, reaches}
use Rattle.pathkey.specs.Keys.{block_key, blocks_from, enc, is_below, is_in}
use Rattle.pathkey.specs.Names.{Path, IsPath}
use Rattle.pathkey.specs.declared.range.KeyRange.{KeyRange}
use Rattle.pathkey.proofs.KeyFacts.{block_in_blocks, block_in_blocks_from}
use Rattle.pathkey.proofs.KeyOrder.{before_from_not_reaches}

pub blocks_range : (p : Path) (a : ℕ) → blocks_from p a ≡ record { lo = block_key p a; hi = Some (enc p ++ 1 ∷ []) }
unfolding blocks_from
blocks_range p a = refl

module _ (p : Path) where
  in_range_from : (a i : ℕ) → a < 2 ^ 32 → i < 2 ^ 32 → a ≤ i → (reaches (block_key p a) (block_key p i) ≡ true) × (is_below (block_key p i) (Some (enc p ++ 1 ∷ [])) ≡ true)
  in_range_from a i ha hi h = and_parts _ _ (subst (λ (r : KeyRange). is_in r (block_key p i) ≡ true) (blocks_range p a) (block_in_blocks_from p p a i ha hi (refl, h)))

  -- a block's key is before those of all later blocks
  pub block_reaches : (a i : ℕ) → a < 2 ^ 32 → i < 2 ^ 32 → a ≤ i → reaches (block_key p a) (block_key p i) ≡ true
  block_reaches a i ha hi h = (in_range_from a i ha hi h).0

  -- and before the end of the path's range
  pub block_below : (i : ℕ) → i < 2 ^ 32 → is_below (block_key p i) (Some (enc p ++ 1 ∷ [])) ≡ true
  block_below i hi = (in_range_from i i hi hi (omega arith)).1

  module _ (is_path : IsPath p) where
    pub reached_blocks : (a i : ℕ) → a < 2 ^ 32 → i < 2 ^ 32 → reaches (block_key p a) (block_key p i) ≡ true → a ≤ i
    reached_blocks a i ha hi h =
        (block_in_blocks p p a i is_path.names is_path.names ha hi (subst (λ (r : KeyRange). is_in r (block_key p i) ≡ true) (sym (blocks_range p a)) (and_from _ _ h (block_below i hi)))).1

    pub block_before : (i l : ℕ) → i < 2 ^ 32 → l < 2 ^ 32 → i < l → before (block_key p i) (block_key p l) ≡ true
    block_before i l hi hl h = before_from_not_reaches (block_key p l) (block_key p i) (false_from_ne_true _ (λ e. let w : l ≤ i = reached_blocks l i hl hi e in absurd (omega arith)))
