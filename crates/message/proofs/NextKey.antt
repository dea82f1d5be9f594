-- The least key after a key, and more on the order of keys.
use Rattle.std.proofs.Common.{◌≡◌, ℕ, ◌<◌, Bool, true, false, List, [], ◌∷◌, refl, ap, sym, ◌∙◌, Option, Some, arith}
use Rattle.std.specs.Prelude.{◌&&◌}
use Rattle.std.specs.declared.cmp.Ordering.{Ordering}
use Rattle.std.specs.declared.cmp.Ordering.TheVariants.{Less, Equal, Greater}
use Rattle.std.specs.Ordering.{nat_cmp, is_lt, is_le, ordering_then, MatchOrdering}
use Rattle.std.proofs.lemmas.Bool.{false_from_ne_true}
use Rattle.std.proofs.lemmas.Cmp.{ranked}
use Rattle.pathkey.specs.Order.{by_bytes, same}
use Rattle.pathkey.specs.Keys.{is_below, next_key}
use Rattle.pathkey.proofs.OrderFacts.{same_true}
use Rattle.pathkey.proofs.KeyOrder.{from_start, reaches-refl, reaches-from_not_before, not_before_from_reaches}
use Rattle.message.specs.Ranges.{reaches, before, within}
use Rattle.message.proofs.KeyOrder.{both, beyond}

-- both cases of a test
pub by_bool : (b : Bool) (P : Type 0) → (b ≡ true → P) → (b ≡ false → P) → P
by_bool true P f g = f refl
by_bool false P f g = g refl

-- a key that stands before another does not stand at it or behind it
pub not_reaches : (a b : List ℕ) → before a b ≡ true → reaches b a ≡ false
not_reaches a b h = false_from_ne_true (reaches b a) (λ e. let f : before a b ≡ false = not_before_from_reaches b a e in cc)

-- keys that stand each at or before the other are one
pub one_key : (a b : List ℕ) → reaches a b ≡ true → reaches b a ≡ true → a ≡ b
one_key a b h k = by_bool (same a b) (a ≡ b) (same_true a b) (λ s. absurd (
    let far : before b a ≡ true = beyond a b (not_before_from_reaches b a k) s in
    let near : before b a ≡ false = not_before_from_reaches a b h in
    cc))

-- a key from a beginning on and below an end lies in the range
pub in_range : (lo k : List ℕ) (hi : Option (List ℕ)) → reaches lo k ≡ true → is_below k hi ≡ true → within lo hi k ≡ true
in_range lo k hi a b = ap (λ x. x && is_below k hi) a ∙ b

then_le : (o p q : Ordering) → is_le p ≡ is_lt q → is_le (ordering_then o p) ≡ is_lt (ordering_then o q)
then_le Less p q e = refl
then_le Equal p q e = e
then_le Greater p q e = refl

zero_le : (y : ℕ) (o : Ordering) → is_le o ≡ true → is_le (ordering_then (nat_cmp 0 y) o) ≡ true
zero_le y o h = (elim (nat_cmp 0 y) as (λ x. nat_cmp 0 y ≡ x → is_le (ordering_then x o) ≡ true) [
  | Less ↦ λ e. refl
  | Equal ↦ λ e. h
  | Greater ↦ λ e. let lt : MatchOrdering Greater (0 < y) (0 ≡ y) (y < 0) = ranked 0 y Greater (sym e) in absurd (omega (arith, lt))
]) refl

-- what stands at or behind the next key stands behind the key, and the other way round
pub reaches-next : (k q : List ℕ) → reaches (next_key k) q ≡ before k q
reaches-next [] [] = refl
reaches-next [] (y ∷ ys) = zero_le y (by_bytes [] ys) (from_start ys)
reaches-next (x ∷ xs) [] = refl
reaches-next (x ∷ xs) (y ∷ ys) = then_le (nat_cmp x y) (by_bytes (next_key xs) ys) (by_bytes xs ys) (reaches-next xs ys)

-- a key stands before the next
pub before-next : (k : List ℕ) → before k (next_key k) ≡ true
before-next k = sym (reaches-next k (next_key k)) ∙ reaches-refl (next_key k)

-- what stands before the next key stands at the key or before it
pub reaches-from_before_next : (q k : List ℕ) → before q (next_key k) ≡ true → reaches q k ≡ true
reaches-from_before_next q k h = reaches-from_not_before k q (sym (reaches-next k q) ∙ not_reaches q (next_key k) h)

-- from a key up to the next there is the key alone
pub one_before_next : (q k : List ℕ) → within k (Some (next_key k)) q ≡ true → k ≡ q
one_before_next q k h = let p = both (reaches k q) (before q (next_key k)) h in one_key k q p.0 (reaches-from_before_next q k p.1)
