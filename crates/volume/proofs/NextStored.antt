-- The first stored block of a file from a number on is what a walk returns.
use Rattle.std.proofs.Common.{◌≡◌, ◌≢◌, ℕ, ◌^◌, ◌<◌, ◌≤◌, List, [], ◌∷◌, ◌++◌, refl, sym, ap, subst, ◌∙◌, true, Option, Some, None, arith}
use Rattle.std.specs.Prelude.{IsSome}
use Rattle.message.specs.Ranges.{before, reaches}
use Rattle.message.proofs.KeyOrder.{begins_before_end, both}
use Rattle.message.proofs.NextKey.{by_bool, in_range}
use Rattle.pathkey.specs.Keys.{Key, block_key, blocks_from, enc, is_below, is_in}
use Rattle.pathkey.specs.Names.{Path, IsPath}
use Rattle.pathkey.specs.declared.range.KeyRange.{KeyRange}
use Rattle.pathkey.proofs.KeyFacts.{block_in_blocks, from_between_high, in_blocks}
use Rattle.pathkey.proofs.KeyOrder.{reaches-from_not_before}
use Rattle.reference.specs.Indexes.{BlockOf, Blocks, BlocksMean, most_blocks}
use Rattle.reference.specs.Tree.{Tree}
use Rattle.scan.specs.Pairs.{IsFirst}
use Rattle.call_compiler.proofs.BlockOrder.{block_before, block_below, block_reaches, blocks_range}
use Rattle.volume.specs.Extents.{IsNextStored}
use Rattle.volume.specs.Walks.{IsOwn}

module _ (t : Tree) (d : Blocks) (means : BlocksMean t d) (p : Path) (is_path : IsPath p) (from : ℕ) (fits : from < 2 ^ 32) where
  abbrev lo : Key
  lo = block_key p from

  abbrev hi : Option Key
  hi = Some (enc p ++ 1 ∷ [])

  pub next_stored : (o : Option (Key × List ℕ)) (x : Option (ℕ × List ℕ)) → IsFirst d lo None o → IsOwn p o x → IsNextStored d p from x
  next_stored None None none own = λ i le li. none (block_key p i) (in_range lo (block_key p i) None (block_reaches p from i fits (omega (arith, li)) le) refl)
  next_stored None (Some x) none own = absurd (cc)
  next_stored (Some q) None (w, at, none) not = λ i le li.
      by_bool (before (block_key p i) q.0) (d (block_key p i) ≡ None)
      (λ u. none (block_key p i) (in_range lo (block_key p i) (Some q.0) (block_reaches p from i fits (omega (arith, li)) le) u))
      (λ u.
      let low : reaches lo q.0 ≡ true = (both (reaches lo q.0) (is_below q.0 None) w).0 in
      let high : is_below q.0 hi ≡ true = begins_before_end q.0 (block_key p i) hi (reaches-from_not_before (block_key p i) q.0 u) (block_below p i (omega (arith, li))) in
      let own = in_blocks p from q.0 (subst (λ (r : KeyRange). is_in r q.0 ≡ true) (sym (blocks_range p from)) (in_range lo q.0 hi low high)) in
      absurd (not own.0 own.1))
  next_stored (Some q) (Some x) (w, at, none) ((z, e), read, value) =
      let low : reaches lo q.0 ≡ true = (both (reaches lo q.0) (is_below q.0 None) w).0 in
      let high : is_below q.0 hi ≡ true = subst (λ (k : Key). is_below k hi ≡ true) (sym e) (from_between_high (enc p) z) in
      let o : BlockOf t q.0 = means.only_blocks q.0 q.1 at in
      let few : o.index < most_blocks = o.few in
      let inside : is_in (record { lo = lo; hi = hi }) q.0 ≡ true = in_range lo q.0 hi low high in
      let is : (o.path ≡ p) × (from ≤ o.index) = block_in_blocks p o.path from o.index is_path.names o.is_path.names fits (omega (arith, few))
      (ap (λ (k : Key). is_in (blocks_from p from) k) (sym o.key) ∙ subst (λ (r : KeyRange). is_in r q.0 ≡ true) (sym (blocks_range p from)) inside) in
      let key : q.0 ≡ block_key p o.index = o.key ∙ ap (λ (y : Path). block_key y o.index) is.0 in
      let number : x.0 ≡ o.index = read p o.index (omega (arith, few)) key in (
        ap (λ (n : ℕ). d (block_key p n)) number ∙ ap d (sym key) ∙ at ∙ ap (λ (v : List ℕ). Some v) (sym value),
        λ i le lt. none (block_key p i) (in_range lo (block_key p i) (Some q.0) (block_reaches p from i fits (omega (arith, lt, number, few)) le)
            (subst (λ (k : Key). before (block_key p i) k ≡ true) (sym key) (block_before p is_path i o.index (omega (arith, lt, number, few)) (omega (arith, few)) (omega (arith, lt, number))))),
      )

-- whether the block with the number is stored
module _ (d : Blocks) (p : Path) (n : ℕ) where
  pub stored_itself : (x : ℕ × List ℕ) → IsNextStored d p n (Some x) → x.0 ≡ n → IsSome (d (block_key p n))
  stored_itself x next is = subst IsSome (sym (ap (λ (i : ℕ). d (block_key p i)) (sym is) ∙ next.0)) refl

  pub not_stored : (x : ℕ × List ℕ) → IsNextStored d p n (Some x) → n ≤ x.0 → x.0 ≢ n → d (block_key p n) ≡ None
  not_stored x next le ne = next.1 n (omega arith) (omega (arith, le, ne))
