-- Where ranges begin and end: the later of two beginnings, the earlier of two ends.
use Rattle.std.proofs.Common.{◌≡◌, ℕ, true, false, List, [], ◌∷◌, refl, ap, sym, ◌∙◌, Option, Some, None, cond}
use Rattle.std.specs.declared.cmp.Ordering.TheVariants.{Less, Equal, Greater}
use Rattle.std.specs.Ordering.{is_lt, is_le}
use Rattle.pathkey.specs.Keys.{is_below}
use Rattle.pathkey.specs.Order.{by_bytes}
use Rattle.pathkey.proofs.OrderFacts.{equal}
use Rattle.pathkey.proofs.KeyOrder.{reaches-from_before, not_before_from_reaches, lt_le}
use Rattle.message.specs.Ranges.{reaches, before, later_key, earlier_end, ends_within}

-- ---- beginnings

-- no key stands before the empty one
pub later_start : (k : List ℕ) → later_key [] k ≡ k
later_start [] = refl
later_start (x ∷ k) = refl

pub later_same : (p a : List ℕ) → reaches p a ≡ true → later_key p a ≡ a
later_same p a h = elim (by_bytes p a) as (λ o. by_bytes p a ≡ o → cond (is_lt o) a p ≡ a) [
  | Less ↦ λ e. refl
  | Equal ↦ λ e. equal p a e
  | Greater ↦ λ e. absurd (let no : false ≡ true = sym (ap is_le e) ∙ h in cc)
] refl

pub later_pivot : (p a : List ℕ) → before a p ≡ true → later_key p a ≡ p
later_pivot p a h = ap (λ b. cond b a p) (not_before_from_reaches a p (reaches-from_before a p h))

-- ---- ends

-- an end that stands at or before another is the earlier of the two
pub first_end : (end most : Option (List ℕ)) → ends_within end most ≡ true → earlier_end most end ≡ end
first_end end None h = refl
first_end None (Some k) h = absurd (cc)
first_end (Some a) (Some k) h = ap (λ c. Some (cond c k a)) (not_before_from_reaches a k h)

-- what lies before an end lies before each later one
pub below_later : (k : List ℕ) (hi end : Option (List ℕ)) → ends_within hi end ≡ true → is_below k hi ≡ true → is_below k end ≡ true
below_later k hi None e b = refl
below_later k None (Some d) e b = absurd (cc)
below_later k (Some h) (Some d) e b = lt_le k h d b e
