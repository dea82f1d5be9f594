-- How many walks and pairs a listing needs, entry by entry.
use Rattle.std.proofs.Common.{◌≡◌, ℕ, suc, ◌+◌, ◌-◌, ◌*◌, ◌^◌, ◌≤◌, min, max, Bool, true, false, cond, List, [], ◌∷◌, length, length-drop, refl, ap, sym, ◌∙◌, Option, Some, None, arith, ◌⊎◌, inl, inr}
use Rattle.std.specs.List.{prefix_len}
use Rattle.message.specs.Ranges.{before}
use Rattle.message.proofs.NextKey.{by_bool}
use Rattle.scan.specs.Pairs.{from_unpassed, IsTaken}
use Rattle.scan.specs.Sizes.{IsPiece, is_walked, raised, size_past, walked_for}
use Rattle.scan.proofs.AtHand.{unpassed_first}
use Rattle.meta_index.specs.Asked.{AsksFor, IsFrugal, IsSpent}

module _ {V : Type 0} where
  few_left : (test : List ℕ → Bool) (ps : List (List ℕ × V)) → length (from_unpassed test ps) ≤ length ps
  few_left test ps =
      let left : length (from_unpassed test ps) ≡ length ps - prefix_len (λ (p : List ℕ × V). test p.0) ps = length-drop (prefix_len (λ (p : List ℕ × V). test p.0) ps) ps in
      omega (arith, left)

  -- if a pair was skipped the next batch has one; otherwise it has as many as before, and all pairs remain
  passed_or_kept : (test : List ℕ → Bool) (q : List ℕ × V) (qs : List (List ℕ × V)) (n m : ℕ) → m ≡ size_past test (q ∷ qs) n → (m ≡ 1) ⊎ ((m ≡ n) × (from_unpassed test (q ∷ qs) ≡ q ∷ qs))
  passed_or_kept test q qs n m e = by_bool (test q.0) ((m ≡ 1) ⊎ ((m ≡ n) × (from_unpassed test (q ∷ qs) ≡ q ∷ qs)))
      (λ t. inl (e ∙ ap (λ (b : Bool). cond b 1 n) t))
      (λ t. inr (e ∙ ap (λ (b : Bool). cond b 1 n) t, unpassed_first test q qs t))

  -- one more is given of those at hand
  pub taken_frugal : (test : List ℕ → Bool) (old new : List (List ℕ × V)) (p : List ℕ × V) (g n m walks asked walks' asked' : ℕ) (all all' : Bool) → IsTaken test old (Some p) new → m ≡ size_past test old n → walks' ≡ walks → asked' ≡ asked → all' ≡ all
      → IsFrugal g (length old) n walks asked all → IsFrugal (g + 1) (length new) m walks' asked' all'
  taken_frugal test [] new p g n m walks asked walks' asked' all all' h e w a s was = absurd (let clash : [] ≡ p ∷ new = h.0 in cc)
  taken_frugal test (q ∷ qs) new p g n m walks asked walks' asked' all all' h e w a s was =
      let size : (m ≡ 1) ⊎ ((m ≡ n) × (from_unpassed test (q ∷ qs) ≡ q ∷ qs)) = passed_or_kept test q qs n m e in
      let left : length (from_unpassed test (q ∷ qs)) ≡ suc (length new) = ap length h.0 in
      let fewer : suc (length new) ≤ suc (length qs) = omega (arith, few_left test (q ∷ qs), left) in
      record {
        some = omega (arith, w, was.some);
        few = omega (arith, w, was.few);
        spent = omega (arith, a, was.spent);
        ahead = λ more. elim size [
          | inl one ↦ omega (arith, one, a, was.spent)
          | inr same ↦ (let whole : suc (length qs) ≡ suc (length new) = ap length (sym same.1 ∙ h.0) in omega (arith, same.0, whole, a, was.ahead (sym s ∙ more)))
        ];
        paid = omega (arith, a, fewer, was.paid);
        small = elim size [ inl one ↦ omega (arith, one) | inr same ↦ omega (arith, same.0, was.small) ];
        each = omega (arith, w, a, was.each);
      }

  -- none is left at hand, and there may be others: the next piece is paid
  pub none_frugal : (test : List ℕ → Bool) (old new : List (List ℕ × V)) (g n m walks asked : ℕ) (all : Bool) → IsTaken test old None new → m ≡ size_past test old n → all ≡ false
      → IsFrugal g (length old) n walks asked all → (asked + max m 1 ≤ 2 * g + 32) × (max m 1 ≤ 256)
  none_frugal test [] new g n m walks asked all h e more was =
      let same : m ≡ n = e in
      let ahead : asked + max n 1 ≤ 2 * (g + 0) + 32 = was.ahead more in
      (omega (arith, same, ahead), omega (arith, same, was.small))
  none_frugal test (q ∷ qs) new g n m walks asked all h e more was =
      elim (passed_or_kept test q qs n m e) [
        | inl one ↦ (omega (arith, one, was.spent), omega (arith, one))
        | inr same ↦ absurd (let clash : q ∷ qs ≡ [] = sym same.1 ∙ h.0 ∙ h.1 refl in cc)
      ]

  -- a walk for n pairs gives one more, or none
  walk_asks : (g n walks asked walks' asked' most : ℕ) (r : Option (List ℕ × V)) (all : Bool) (ps : List (List ℕ × V)) → asked + n ≤ 2 * g + 32 → n ≤ 256 → 1 ≤ n → walks ≤ g → min g (2 ^ 64 - 1) ≤ asked → asked ≤ 256 * walks
      → walks' ≡ min (walks + 1) (2 ^ 64 - 1) → asked' ≡ min (asked + n) (2 ^ 64 - 1) → most ≡ min (2 * n) 256 → IsPiece n r all ps → AsksFor g r (length ps) most walks' asked' all
  walk_asks g n walks asked walks' asked' most None all ps spent small some few paid each w a m piece = record {
    some = omega (arith, w);
    few = omega (arith, w, few);
    spent = omega (arith, a, spent);
    paid = omega (arith, a, paid);
    each = omega (arith, w, a, each, small);
  }
  walk_asks g n walks asked walks' asked' most (Some p) all ps spent small some few paid each w a m piece =
      let within : suc (length ps) ≤ n = piece.0 in
      let whole : all ≡ false → suc (length ps) ≡ n = piece.1 in
      record {
        some = omega (arith, w);
        few = omega (arith, w, few);
        spent = omega (arith, a, spent);
        ahead = λ more. (let full : suc (length ps) ≡ n = whole more in omega (arith, a, m, spent, some, full));
        paid = omega (arith, a, paid, within);
        small = omega (arith, m);
        each = omega (arith, w, a, each, small);
      }

  -- so does `first`, if no pair was read ahead and others may be left
  pub first_asks : (lo : List ℕ) (old : List (List ℕ × V)) (all : Bool) (g m walks asked walks' asked' most : ℕ) (r : Option (List ℕ × V)) (all' : Bool) (ps : List (List ℕ × V)) → old ≡ [] → all ≡ false
      → asked + max m 1 ≤ 2 * g + 32 → max m 1 ≤ 256 → walks ≤ g → min g (2 ^ 64 - 1) ≤ asked → asked ≤ 256 * walks
      → walks' ≡ raised (is_walked lo all old) 1 walks → asked' ≡ raised (is_walked lo all old) (walked_for lo old m) asked → most ≡ cond (is_walked lo all old) (min (2 * walked_for lo old m) 256) (size_past (λ k. before k lo) old m)
      → IsPiece (walked_for lo old m) r all' ps → AsksFor g r (length ps) most walks' asked' all'
  first_asks lo [] false g m walks asked walks' asked' most r all' ps none more spent small few paid each w a s piece =
      walk_asks g (max m 1) walks asked walks' asked' most r all' ps spent small (omega arith) few paid each w a s piece
  first_asks lo [] true g m walks asked walks' asked' most r all' ps none more spent small few paid each w a s piece = absurd (let clash : true ≡ false = more in cc)
  first_asks lo (q ∷ qs) all g m walks asked walks' asked' most r all' ps none more spent small few paid each w a s piece = absurd (let clash : q ∷ qs ≡ [] = none in cc)

-- no other pair is left
pub rest_spent : (g n most walks asked walks' asked' : ℕ) (all : Bool) → walks' ≡ walks → asked' ≡ asked → IsFrugal g n most walks asked all → IsSpent g walks' asked'
rest_spent g n most walks asked walks' asked' all w a was = record {
  some = omega (arith, w, was.some);
  few = omega (arith, w, was.few);
  spent = omega (arith, a, was.spent);
  paid = omega (arith, a, was.paid);
  each = omega (arith, w, a, was.each);
}

module _ {P : Type 0} (g n most walks asked : ℕ) (all : Bool) where
  -- an entry was given
  pub asks_one : (next : Option P) (p : P) → next ≡ Some p → AsksFor g next n most walks asked all → IsFrugal (g + 1) n most walks asked all
  asks_one None p is asks = absurd (let clash : None ≡ Some p = is in cc)
  asks_one (Some q) p is asks = asks

  -- none was
  pub asks_none : (next : Option P) → next ≡ None → AsksFor g next n most walks asked all → IsSpent g walks asked
  asks_none None is asks = asks
  asks_none (Some q) is asks = absurd (let clash : Some q ≡ None = is in cc)
