-- What removes the pairs at or below a path: a range-delete; no message where there is no pair; and a delete of the path's own
-- pair where that is the only one. It is the first there in any case.
use Rattle.std.proofs.Common.{◌≡◌, ℕ, [], ◌∷◌, get_or, true, false, Bool, cond, refl, sym, ap, ◌∙◌, arith, Option, Some, None}
use Rattle.std.specs.Prelude.{Contains}
use Rattle.message.specs.declared.msg.Msg.TheVariants.{Del, DelRange}
use Rattle.message.specs.Ranges.{before, reaches}
use Rattle.message.proofs.KeyOrder.{both}
use Rattle.pathkey.specs.Keys.{Key, enc, subtree, is_in, next_key}
use Rattle.pathkey.specs.Names.{Path}
use Rattle.pathkey.specs.Order.{same}
use Rattle.pathkey.proofs.KeyFacts.{in_subtree_from}
use Rattle.pathkey.proofs.KeyOrder.{not_before_from_reaches}
use Rattle.pathkey.proofs.OrderFacts.{apart, same_true}
use Rattle.scan.specs.Pairs.{HasAll, HasNone}
use Rattle.scan.proofs.Parts.{IsPart, part_start, part_more, scan_full}
use Rattle.std.proofs.lemmas.List.{append-nil}
use Rattle.meta_index.proofs.BelowPath.{subtree_low}
use Rattle.call_compiler.specs.Moves.{AreFirstBelow, Clears}

-- a path's key is at or below it
pub own_key : (p : Path) → is_in (subtree p) (enc p) ≡ true
own_key p = ap (is_in (subtree p)) (sym (append-nil (enc p))) ∙ in_subtree_from p []

module _ {U V : Type 0} (means : U → Option V → Option V) (f : Key → Option V) (o : Path) where
  pub range_clears : Clears means f o (DelRange (subtree o) ∷ [])
  range_clears = record {
    inside = λ k h. ap (λ (b : Bool). cond b None (f k)) h;
    outside = λ k v h. ap (λ (b : Bool). cond b None v) h;
  }

  pub nothing_clears : HasAll f (subtree o).lo (subtree o).hi [] → Clears means f o []
  nothing_clears all = record {
    inside = λ k h. elim (f k) as (λ v. f k ≡ v → v ≡ None) [
      | None ↦ λ e. refl
      | Some v ↦ λ e. absurd (let c : Contains {X = Key × V} [] (k, v) = all k v h e in omega (arith, c.1))
    ] refl;
    outside = λ k v h. refl;
  }

  pub delete_clears : (v : V) → HasAll f (subtree o).lo (subtree o).hi ((enc o, v) ∷ []) → Clears means f o (Del (enc o) ∷ [])
  delete_clears v all = record {
    inside = λ k h. elim (same (enc o) k) as (λ b. same (enc o) k ≡ b → cond b None (f k) ≡ None) [
      | true ↦ λ s. refl
      | false ↦ λ s. elim (f k) as (λ w. f k ≡ w → w ≡ None) [
        | None ↦ λ e. refl
        | Some w ↦ λ e. absurd (apart (enc o) k s (only k w (all k w h e)))
      ] refl
    ] refl;
    outside = λ k w h. elim (same (enc o) k) as (λ b. same (enc o) k ≡ b → cond b None w ≡ w) [
      | true ↦ λ s. absurd (let both : true ≡ false = sym (own_key o) ∙ ap (is_in (subtree o)) (same_true (enc o) k s) ∙ h in cc)
      | false ↦ λ s. refl
    ] refl;
  }
    where
      only : (k : Key) (w : V) → Contains {X = Key × V} ((enc o, v) ∷ []) (k, w) → enc o ≡ k
      only k w c =
          let first : c.0 ≡ 0 = omega (arith, c.1) in
          ap (λ (i : ℕ). (get_or {A = Key × V} ((enc o, v) ∷ []) i (k, w)).0) (sym first) ∙ ap (λ (p : Key × V). p.0) c.2

-- no pair at or below the path is before its own
pub own_first : {V : Type 0} (f : Key → Option V) (o : Path) (v : V) → f (enc o) ≡ Some v → AreFirstBelow f o ((enc o, v) ∷ [])
own_first f o v here =
    let lo = (subtree o).lo in
    let hi = (subtree o).hi in
    let start : IsPart f lo hi lo [] = part_start f lo hi lo [] refl refl in
    let none : HasNone f lo (Some (enc o)) = λ k w. absurd (
    let q = both (reaches lo k) (before k (enc o)) w in
    let n : before k lo ≡ false = not_before_from_reaches lo k q.0 in
    let b : before k lo ≡ true = ap (before k) (subtree_low o) ∙ q.1 in
    cc) in
    scan_full f lo hi (next_key (enc o)) ((enc o, v) ∷ []) (part_more f lo hi lo [] start (enc o, v) (next_key (enc o)) ((enc o, v) ∷ []) (own_key o, here, none) refl refl) 1 refl
