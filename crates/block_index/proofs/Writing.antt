-- What the messages of a write make of a block index, one after the other.
use Rattle.std.proofs.Common.{◌≡◌, ◌≢◌, ℕ, ◌+◌, ◌-◌, ◌*◌, ◌/◌, ◌<◌, ◌≤◌, List, [], ◌∷◌, ◌++◌, length, map, true, false, Bool, cond, ltb, sym, ap, refl, ◌∙◌, subst, ◌⊎◌, inl, inr, ⊎_elim, Option, Some, arith}
use Rattle.std.proofs.lemmas.Bool.{cases_lt, ltb-true, ltb-false, lt-ltb, le-ltb, false_from_ne_true, and_left, and_right, and_from}
use Rattle.std.specs.List.{range_with_len}
use Rattle.std.proofs.lemmas.List.FromFn.{map-range_with_len_more}
use Rattle.message.specs.declared.msg.Msg.{Msg}
use Rattle.message.specs.Effects.{effect}
use Rattle.message.proofs.Lists.{effects-append}
use Rattle.pathkey.specs.Names.{Path, IsPath}
use Rattle.pathkey.specs.Keys.{Key, block_key}
use Rattle.pathkey.specs.Order.{same}
use Rattle.pathkey.proofs.OrderFacts.{same_true, same_from_eq}
use Rattle.pathkey.proofs.KeyFacts.{block_key_injective}
use Rattle.reference.specs.Tree.{over}
use Rattle.reference.specs.Indexes.{Blocks, BlocksChange, most_blocks, patched, touches, piece, held}
use Rattle.block_index.specs.declared.update.BlockUpdate.{BlockUpdate}
use Rattle.block_index.specs.Updates.{means}
use Rattle.block_index.specs.Changed.{Messages, after, Changes, patch_of, patches}

abbrev pub Change : Type 0
Change = ℕ → Option (List ℕ) → Option (List ℕ)

-- the blocks before number n changed
abbrev pub up_to : ℕ → Change → Change
up_to n apply_in_place i o = cond (ltb i n) (apply_in_place i o) o

by_touch : (off : ℕ) (w : List ℕ) (i : ℕ) (o : Option (List ℕ)) (t : Bool) → touches off w i ≡ t → patched off w i o ≡ cond t (Some (over (held o) (off - 4096 * i) (piece off w i))) o
by_touch off w i o t e = ap (λ (t : Bool). cond t (Some (over (held o) (off - 4096 * i) (piece off w i))) o) e

-- a write leaves a block that it does not reach
left_alone : (off : ℕ) (w : List ℕ) (i : ℕ) (o : Option (List ℕ)) → (4096 * i + 4096 ≤ off) ⊎ (off + length w ≤ 4096 * i) → patched off w i o ≡ o
left_alone off w i o (inl h) = by_touch off w i o false (and_left _ _ (le-ltb off (4096 * i + 4096) h))
left_alone off w i o (inr h) = by_touch off w i o false (and_right _ _ (le-ltb (4096 * i) (off + length w) h))

-- no messages change no block
pub no_change : (p : Path) (apply_in_place : Change) (d : Blocks) → ((i : ℕ) (o : Option (List ℕ)) → i < most_blocks → apply_in_place i o ≡ o) → BlocksChange apply_in_place p d d
no_change p apply_in_place d idle = record {
  block = λ i li. sym (idle i (d (block_key p i)) li);
  elsewhere = λ k off. refl;
  only = λ k v e. inl (v, e);
}

-- at the first block that a write touches nothing is done yet
pub write_starts : (p : Path) (off : ℕ) (w : List ℕ) (i : ℕ) → 4096 * i ≤ off → Changes (up_to i (patched off w)) p []
write_starts p off w i h = λ d. no_change p (up_to i (patched off w)) d (λ j o _. elim (ltb j i) as (λ t. ltb j i ≡ t → cond t (patched off w j o) o ≡ o) [
  | true ↦ λ e. let l : j < i = ltb-true j i e in left_alone off w j o (inl (omega arith))
  | false ↦ λ e. refl
] refl)

-- the index at a key after one message more
one_more : (ms : Messages) (m : Msg BlockUpdate (List ℕ)) (d : Blocks) (k : Key) → after (ms ++ m ∷ []) d k ≡ effect means m k (after ms d k)
one_more ms m d k = effects-append means ms (m ∷ []) k (d k)

-- what a patch makes of a key
patch_effect : (p : Path) (off : ℕ) (w : List ℕ) (i : ℕ) (k : Key) (o : Option (List ℕ)) (b : Bool) → same (block_key p i) k ≡ b → effect means (patch_of p off w i) k o ≡ cond b (Some (over (held o) (off - 4096 * i) (piece off w i))) o
patch_effect p off w i k o b e = ap (λ (t : Bool). cond t (Some (over (held o) (off - 4096 * i) (piece off w i))) o) e

-- the change of a block that a write touches
touched : (off : ℕ) (w : List ℕ) (i : ℕ) (o : Option (List ℕ)) → off < 4096 * i + 4096 → 4096 * i < off + length w → Some (over (held o) (off - 4096 * i) (piece off w i)) ≡ patched off w i o
touched off w i o h g = sym (by_touch off w i o true (and_from _ _ (lt-ltb off (4096 * i + 4096) h) (lt-ltb (4096 * i) (off + length w) g)))

-- the patch of one block more changes that block more
pub write_goes_on : (p : Path) (off : ℕ) (w : List ℕ) (i : ℕ) (ms : Messages) → IsPath p → i < most_blocks → off < 4096 * i + 4096 → 4096 * i < off + length w
    → Changes (up_to i (patched off w)) p ms → Changes (up_to (i + 1) (patched off w)) p (ms ++ patch_of p off w i ∷ [])
write_goes_on p off w i ms is_path li h g was = λ d. record {
  block = λ j lj. ⊎_elim
      (λ (x : j < i). other d j lj (omega arith) ∙ (was d).block j lj ∙ ap (λ (t : Bool). cond t (patched off w j (d (block_key p j))) (d (block_key p j))) (lt-ltb j i x ∙ sym (lt-ltb j (i + 1) (omega arith))))
      (λ (x : i ≤ j). ⊎_elim
      (λ (y : i < j). other d j lj (omega arith) ∙ (was d).block j lj ∙ ap (λ (t : Bool). cond t (patched off w j (d (block_key p j))) (d (block_key p j))) (le-ltb j i x ∙ sym (le-ltb j (i + 1) (omega arith))))
      (λ (y : j ≤ i). let e : j ≡ i = omega arith in subst (λ (n : ℕ). after (ms ++ patch_of p off w i ∷ []) d (block_key p n) ≡ up_to (i + 1) (patched off w) n (d (block_key p n))) (sym e) (here d))
      (cases_lt i j))
      (cases_lt j i);
  elsewhere = λ k out. one_more ms (patch_of p off w i) d k ∙ patch_effect p off w i k (after ms d k) false (false_from_ne_true (same (block_key p i) k) (λ e. out i li (sym (same_true (block_key p i) k e)))) ∙ (was d).elsewhere k out;
  only = λ k v e. elim (same (block_key p i) k) as (λ t. same (block_key p i) k ≡ t → ((u : List ℕ) × (d k ≡ Some u)) ⊎ ((n : ℕ) × (n < most_blocks) × (k ≡ block_key p n))) [
    | true ↦ λ s. inr (i, li, sym (same_true (block_key p i) k s))
    | false ↦ λ s. (was d).only k v (sym (one_more ms (patch_of p off w i) d k ∙ patch_effect p off w i k (after ms d k) false s) ∙ e)
  ] refl;
}
  where
    other : (d : Blocks) (j : ℕ) → j < most_blocks → j ≢ i → after (ms ++ patch_of p off w i ∷ []) d (block_key p j) ≡ after ms d (block_key p j)
    other d j lj ne = one_more ms (patch_of p off w i) d (block_key p j) ∙ patch_effect p off w i (block_key p j) (after ms d (block_key p j)) false (false_from_ne_true (same (block_key p i) (block_key p j)) (λ e.
        let s : (p ≡ p) × (i ≡ j) = block_key_injective p p i j is_path.names is_path.names (omega arith) (omega arith) (same_true (block_key p i) (block_key p j) e) in ne (sym s.1)))

    here : (d : Blocks) → after (ms ++ patch_of p off w i ∷ []) d (block_key p i) ≡ up_to (i + 1) (patched off w) i (d (block_key p i))
    here d = one_more ms (patch_of p off w i) d (block_key p i) ∙ patch_effect p off w i (block_key p i) (after ms d (block_key p i)) true (same_from_eq (block_key p i) (block_key p i) refl)
        ∙ ap (λ (o : Option (List ℕ)). Some (over (held o) (off - 4096 * i) (piece off w i))) ((was d).block i li ∙ ap (λ (t : Bool). cond t (patched off w i (d (block_key p i))) (d (block_key p i))) (le-ltb i i (omega arith)))
        ∙ touched off w i (d (block_key p i)) h g
        ∙ ap (λ (t : Bool). cond t (patched off w i (d (block_key p i))) (d (block_key p i))) (sym (lt-ltb i (i + 1) (omega arith)))

-- past the last block that it touches the write is done
pub write_ends : (p : Path) (off : ℕ) (w : List ℕ) (i : ℕ) (ms : Messages) → off + length w ≤ 4096 * i → Changes (up_to i (patched off w)) p ms → Changes (patched off w) p ms
write_ends p off w i ms h was = λ d. record {
  block = λ j lj. (was d).block j lj ∙ elim (ltb j i) as (λ t. ltb j i ≡ t → cond t (patched off w j (d (block_key p j))) (d (block_key p j)) ≡ patched off w j (d (block_key p j))) [
    | true ↦ λ e. refl
    | false ↦ λ e. let l : i ≤ j = ltb-false j i e in sym (left_alone off w j (d (block_key p j)) (inr (omega arith)))
  ] refl;
  elsewhere = (was d).elsewhere;
  only = (was d).only;
}

-- ---- the list of messages
module _ (p : Path) (off : ℕ) (w : List ℕ) where
  -- the patches of the blocks from number a up to and without i
  abbrev pub patches_between : ℕ → ℕ → Messages
  patches_between a i = map (patch_of p off w) (range_with_len a (i - a))

  pub no_patches : (a : ℕ) (ms : Messages) → ms ≡ [] → ms ≡ patches_between a a
  no_patches a ms e = let n : 0 ≡ a - a = omega arith in e ∙ ap (λ (n : ℕ). map (patch_of p off w) (range_with_len a n)) n

  pub one_patch_more : (a i : ℕ) (m : Msg BlockUpdate (List ℕ)) (ms new : Messages) → a ≤ i → m ≡ patch_of p off w i → new ≡ ms ++ m ∷ [] → ms ≡ patches_between a i → new ≡ patches_between a (i + 1)
  one_patch_more a i m ms new h is added was =
      let n : (i - a) + 1 ≡ i + 1 - a = omega arith in
      added ∙ ap (λ (x : Msg BlockUpdate (List ℕ)). ms ++ x ∷ []) is ∙ ap (λ (ys : Messages). ys ++ patch_of p off w i ∷ []) was
      ∙ sym (map-range_with_len_more (patch_of p off w) a (i - a) i (omega arith))
      ∙ ap (λ (n : ℕ). map (patch_of p off w) (range_with_len a n)) n

  pub all_patches : (i : ℕ) (ms : Messages) → i ≡ (off + length w - 1) / 4096 + 1 → ms ≡ patches_between (off / 4096) i → ms ≡ patches p off w
  all_patches i ms e was = was ∙ ap (λ (n : ℕ). patches_between (off / 4096) n) e
