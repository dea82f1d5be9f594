-- First pairs of parts of a range, and that of the range.
use Rattle.std.proofs.Common.{◌≡◌, ℕ, true, false, List, ◌∙◌, subst, Option, Some, None}
use Rattle.pathkey.specs.Keys.{is_below}
use Rattle.pathkey.proofs.KeyOrder.{le_le, reaches-from_not_before, not_before_from_reaches}
use Rattle.message.specs.Ranges.{reaches, before, within}
use Rattle.message.proofs.KeyOrder.{both, below_next}
use Rattle.scan.specs.Pairs.{HasNone, IsFirst}
use Rattle.message.proofs.NextKey.{by_bool, in_range}
use Rattle.message.proofs.PointKeys.{below_past}

module _ {V : Type 0} (f : List ℕ → Option V) where
  -- before its beginning a range has no value
  pub none_start : (lo : List ℕ) → HasNone f lo (Some lo)
  none_start lo k h =
      let p = both (reaches lo k) (before k lo) h in
      absurd (let e : before k lo ≡ false = not_before_from_reaches lo k p.0 in cc)

  -- two ranges side by side
  pub none_join : (lo c : List ℕ) (stop : Option (List ℕ)) → HasNone f lo (Some c) → HasNone f c stop → HasNone f lo stop
  none_join lo c stop a b k h =
      let p = both (reaches lo k) (is_below k stop) h in
      by_bool (before k c) (f k ≡ None) (λ e. a k (in_range lo k (Some c) p.0 e)) (λ e. b k (in_range c k stop (reaches-from_not_before k c e) p.1))

  -- up to a key that is past the end of the range
  pub none_past : (lo from : List ℕ) (hi : Option (List ℕ)) → HasNone f lo (Some from) → is_below from hi ≡ false → HasNone f lo hi
  none_past lo from hi a e k h = let p = both (reaches lo k) (is_below k hi) h in a k (in_range lo k (Some from) p.0 (below_past from k hi e p.1))

  -- none up to a key, and a first pair from there on
  pub first_join : (lo c : List ℕ) (hi stop : Option (List ℕ)) (p : List ℕ × V) → HasNone f lo (Some c) → reaches lo c ≡ true → ((k : List ℕ) → is_below k stop ≡ true → is_below k hi ≡ true) → IsFirst f c stop (Some p) → IsFirst f lo hi (Some p)
  first_join lo c hi stop p a l u b =
      let q = both (reaches c p.0) (is_below p.0 stop) b.0 in
      (in_range lo p.0 hi (le_le lo c p.0 l q.0) (u p.0 q.1), b.1, none_join lo c (Some p.0) a b.2)

-- what is found for one function is found for another that agrees with it on the range
pub first_along : {V : Type 0} (f g : List ℕ → Option V) (lo : List ℕ) (hi : Option (List ℕ)) (r : Option (List ℕ × V)) → ((k : List ℕ) → within lo hi k ≡ true → f k ≡ g k) → IsFirst g lo hi r → IsFirst f lo hi r
first_along f g lo hi None e a = λ k h. e k h ∙ a k h
first_along f g lo hi (Some p) e a =
    let q = both (reaches lo p.0) (is_below p.0 hi) a.0 in
    (a.0, e p.0 a.0 ∙ a.1, λ k h. let t = both (reaches lo k) (before k p.0) h in e k (in_range lo k hi t.0 (below_next k p.0 hi t.1 q.1)) ∙ a.2 k h)

-- what was found up to an end that a call names otherwise
pub as_called : {V : Type 0} (f : List ℕ → Option V) (from : List ℕ) (e stop : Option (List ℕ)) (r q : Option (List ℕ × V)) → e ≡ stop → r ≡ q → IsFirst f from e r → IsFirst f from stop q
as_called f from e stop r q ee er h = subst (λ o. IsFirst f from o q) ee (subst (λ x. IsFirst f from e x) er h)
