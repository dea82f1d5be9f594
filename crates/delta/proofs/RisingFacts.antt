-- Keys in order, and the blocks whose keys they are.
use Rattle.std.proofs.Common.{◌≡◌, ⊎_elim, ℕ, ◌^◌, ◌<◌, List, [], ◌∷◌, ◌++◌, map, refl, sym, ap, subst, ◌∙◌, arith, Some, None}
use Rattle.std.specs.List.{Contains}
use Rattle.std.specs.List.Retain.{DiffersFromLast, IsFiltered}
use Rattle.std.specs.List.Sorted.{IsPermutation, IsSorted, IsStrictlySortedBy}
use Rattle.std.specs.Ordering.{eq_by_cmp}
use Rattle.std.proofs.lemmas.List.{map-append}
use Rattle.std.proofs.lemmas.List.Elements.{Contains-push_cases}
use Rattle.std.proofs.lemmas.List.Filters.{dedup_is}
use Rattle.std.proofs.lemmas.List.Kept.{Contains-dedup, Contains-from_dedup, IsStrictlySortedBy-dedup}
use Rattle.std.proofs.lemmas.List.Sorted.{Contains-permutation, IsPermutation-sym}
use Rattle.pathkey.specs.Keys.{Key, block_key}
use Rattle.pathkey.specs.Names.{IsPath}
use Rattle.pathkey.specs.Order.{by_bytes, by_bytes_equiv, by_bytes_total}
use Rattle.pathkey.specs.PathKeys.{IsPathOf}
use Rattle.pathkey.proofs.KeyFacts.{enc_law}
use Rattle.pathkey.proofs.OrderFacts.{same_true}
use Rattle.reference.specs.Indexes.{most_blocks}
use Rattle.reference.specs.Tree.{Path}
use Rattle.edits.specs.Between.{key_of}
use Rattle.edits.proofs.Ordered.{contains_cases, contains_first, contains_none}
use Rattle.delta.specs.Changed.{AreFound, HaveSame, IsBlockKey, file_key}
use Rattle.delta.proofs.ChangedFacts.{block_file}

module _ (xs ys zs : List Key) (permuted : IsPermutation xs ys) (sorted : IsSorted by_bytes ys) (kept : IsFiltered (DiffersFromLast (eq_by_cmp by_bytes)) [] ys zs) where
  pub rising_left : IsStrictlySortedBy by_bytes zs
  rising_left = subst (IsStrictlySortedBy by_bytes) (sym (dedup_is (eq_by_cmp by_bytes) ys zs kept)) (IsStrictlySortedBy-dedup by_bytes_total (λ x y. refl) ys sorted)

  pub same_left : HaveSame zs xs
  same_left = record {
    to = λ k there. Contains-permutation ys xs k (IsPermutation-sym xs ys permuted) (Contains-from_dedup (eq_by_cmp by_bytes) ys k (subst (λ (l : List Key). Contains l k) (dedup_is (eq_by_cmp by_bytes) ys zs kept) there));
    from = λ k there. subst (λ (l : List Key). Contains l k) (sym (dedup_is (eq_by_cmp by_bytes) ys zs kept)) (Contains-dedup by_bytes_equiv (λ x y e. same_true x y e) ys k (Contains-permutation xs ys k permuted there));
  }

-- no blocks, and one more
pub found_none : AreFound [] []
found_none = record { blocks = λ b there. absurd (contains_none b there); keys = refl }

pub found_more : (ks : List Key) (bs : List (Path × ℕ)) (k : Key) (b : Path × ℕ) (more : List Key) (now : List (Path × ℕ)) → more ≡ ks ++ k ∷ [] → now ≡ bs ++ b ∷ [] → AreFound ks bs → AreFound (k ∷ []) (b ∷ []) → AreFound more now
found_more ks bs k b more now is added found one = record {
  blocks = λ c there. ⊎_elim
      (λ d. found.blocks c d)
      (λ (e : b ≡ c). subst (λ (x : Path × ℕ). IsPath x.0 × (x.1 < most_blocks)) e (one.blocks b (contains_first b [])))
      (Contains-push_cases bs b c (subst (λ (l : List (Path × ℕ)). Contains l c) added there));
  keys = ap (map key_of) added ∙ map-append key_of bs (b ∷ []) ∙ ap (λ (l : List Key). l ++ key_of b ∷ []) found.keys ∙ ap (λ (l : List Key). ks ++ l) one.keys ∙ sym is;
}

-- the block with a key
pub found_one : (k file : Key) (p : Path) (n : ℕ) (of : IsBlockKey k) → file ≡ file_key k → IsPathOf file (Some p) → ((q : Path) (i : ℕ) → i < 2 ^ 32 → k ≡ block_key q i → n ≡ i) → AreFound (k ∷ []) ((p, n) ∷ [])
found_one k file p n of cut read number =
    let one : p ≡ of.path = enc_law p of.path read.0.names of.is_path.names (read.1 ∙ cut ∙ ap file_key of.key ∙ block_file of.path of.index) in
    let at : n ≡ of.index = number of.path of.index (omega (arith, of.few)) of.key in
    record {
      blocks = λ c there. ⊎_elim
          (λ (e : (p, n) ≡ c). subst (λ (x : Path × ℕ). IsPath x.0 × (x.1 < most_blocks)) e (read.0, subst (λ (x : ℕ). x < most_blocks) (sym at) of.few))
          (λ d. absurd (contains_none c d))
          (contains_cases (p, n) [] c there);
      keys = ap (λ (x : Key). x ∷ []) (ap (λ (x : ℕ). block_key p x) at ∙ ap (λ (x : Path). block_key x of.index) one ∙ sym of.key);
    }

-- the file of a block has a path
pub found_path : (k file : Key) (of : IsBlockKey k) → file ≡ file_key k → IsPathOf file None → ⊥
found_path k file of cut none = none of.path of.is_path (sym (cut ∙ ap file_key of.key ∙ block_file of.path of.index))
