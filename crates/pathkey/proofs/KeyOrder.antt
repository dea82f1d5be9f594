-- The order of two and three keys: one stands before another, or at or before it.
use Rattle.std.proofs.Common.{◌≡◌, ℕ, zero, suc, ◌<◌, ◌≤◌, true, false, List, [], ◌∷◌, take, refl, ap, sym, subst, ◌∙◌, ⊎_elim, Ordering}
use Rattle.std.specs.declared.cmp.Ordering.TheVariants.{Less, Equal, Greater}
use Rattle.std.specs.Ordering.{is_lt, is_le, ordering_reverse, ordering_then}
use Rattle.std.proofs.lemmas.Bool.{cases_order}
use Rattle.std.proofs.lemmas.List.{take-take}
use Rattle.pathkey.specs.Order.{by_bytes, by_bytes_total}
use Rattle.pathkey.proofs.OrderFacts.{tied, equal, cmp_less, cmp_greater}
use Rattle.pathkey.proofs.HeadFacts.{one_first}

-- ---- two keys compared both ways

-- what stands before stands at or before
le_from_lt : (o : Ordering) → is_lt o ≡ true → is_le o ≡ true
le_from_lt Less e = refl
le_from_lt Equal e = (cc)
le_from_lt Greater e = (cc)

-- not before, so the other way round at or before
le_back : (o p : Ordering) → p ≡ ordering_reverse o → is_lt o ≡ false → is_le p ≡ true
le_back Less p e h = (cc)
le_back Equal p e h = ap is_le e
le_back Greater p e h = ap is_le e

-- not at or before, so the other way round before
lt_back : (o p : Ordering) → p ≡ ordering_reverse o → is_le o ≡ false → is_lt p ≡ true
lt_back Less p e f = (cc)
lt_back Equal p e f = (cc)
lt_back Greater p e f = ap is_lt e

-- at or before, so the other way round not before
not_lt_back : (o p : Ordering) → p ≡ ordering_reverse o → is_le o ≡ true → is_lt p ≡ false
not_lt_back Less p e f = ap is_lt e
not_lt_back Equal p e f = ap is_lt e
not_lt_back Greater p e f = (cc)

pub less_from_lt : (o : Ordering) → is_lt o ≡ true → o ≡ Less
less_from_lt Less h = refl
less_from_lt Equal h = (cc)
less_from_lt Greater h = (cc)

-- a key stands at itself
pub reaches-refl : (a : List ℕ) → is_le (by_bytes a a) ≡ true
reaches-refl a = ap is_le (tied a)

pub reaches-from_before : (a b : List ℕ) → is_lt (by_bytes a b) ≡ true → is_le (by_bytes a b) ≡ true
reaches-from_before a b h = le_from_lt (by_bytes a b) h

pub reaches-from_not_before : (a b : List ℕ) → is_lt (by_bytes a b) ≡ false → is_le (by_bytes b a) ≡ true
reaches-from_not_before a b h = le_back (by_bytes a b) (by_bytes b a) (by_bytes_total.antisymm b a) h

pub not_before_from_reaches : (a k : List ℕ) → is_le (by_bytes a k) ≡ true → is_lt (by_bytes k a) ≡ false
not_before_from_reaches a k f = not_lt_back (by_bytes a k) (by_bytes k a) (by_bytes_total.antisymm k a) f

pub before_from_not_reaches : (a k : List ℕ) → is_le (by_bytes a k) ≡ false → is_lt (by_bytes k a) ≡ true
before_from_not_reaches a k f = lt_back (by_bytes a k) (by_bytes k a) (by_bytes_total.antisymm k a) f

-- a key behind another
pub greater_from : (k x : List ℕ) → is_lt (by_bytes x k) ≡ true → by_bytes k x ≡ Greater
greater_from k x h = by_bytes_total.antisymm k x ∙ ap ordering_reverse (less_from_lt (by_bytes x k) h)

pub before_from : (k x : List ℕ) → by_bytes k x ≡ Greater → is_lt (by_bytes x k) ≡ true
before_from k x p = ap is_lt (by_bytes_total.antisymm x k ∙ ap ordering_reverse p)

-- a key before another is not reached by it
pub not_reaches_from_before : (q p : List ℕ) → is_lt (by_bytes q p) ≡ true → is_le (by_bytes p q) ≡ false
not_reaches_from_before q p h = ap is_le (greater_from p q h)

-- the empty key stands at or before every key
pub from_start : (k : List ℕ) → is_le (by_bytes [] k) ≡ true
from_start [] = refl
from_start (x ∷ k) = refl

-- ---- three keys in a row

le_le_by : (a b c : List ℕ) (o p : Ordering) → by_bytes a b ≡ o → by_bytes b c ≡ p → is_le o ≡ true → is_le p ≡ true → is_le (by_bytes a c) ≡ true
le_le_by a b c Less Less x y h k = ap is_le (by_bytes_total.trans a b c x y)
le_le_by a b c Less Equal x y h k = ap (λ t. is_le (by_bytes a t)) (sym (equal b c y)) ∙ ap is_le x
le_le_by a b c Less Greater x y h k = (cc)
le_le_by a b c Equal p x y h k = ap is_le (by_bytes_total.congr a b c x ∙ y) ∙ k
le_le_by a b c Greater p x y h k = (cc)

le_lt_by : (a b c : List ℕ) (o p : Ordering) → by_bytes a b ≡ o → by_bytes b c ≡ p → is_le o ≡ true → is_lt p ≡ true → is_lt (by_bytes a c) ≡ true
le_lt_by a b c Less Less x y h k = ap is_lt (by_bytes_total.trans a b c x y)
le_lt_by a b c Less Equal x y h k = (cc)
le_lt_by a b c Less Greater x y h k = (cc)
le_lt_by a b c Equal p x y h k = ap is_lt (by_bytes_total.congr a b c x ∙ y) ∙ k
le_lt_by a b c Greater p x y h k = (cc)

lt_le_by : (a b c : List ℕ) (o p : Ordering) → by_bytes a b ≡ o → by_bytes b c ≡ p → is_lt o ≡ true → is_le p ≡ true → is_lt (by_bytes a c) ≡ true
lt_le_by a b c Less Less x y h k = ap is_lt (by_bytes_total.trans a b c x y)
lt_le_by a b c Less Equal x y h k = ap (λ t. is_lt (by_bytes a t)) (sym (equal b c y)) ∙ ap is_lt x
lt_le_by a b c Less Greater x y h k = (cc)
lt_le_by a b c Equal p x y h k = (cc)
lt_le_by a b c Greater p x y h k = (cc)

-- at or before, twice
pub le_le : (a b c : List ℕ) → is_le (by_bytes a b) ≡ true → is_le (by_bytes b c) ≡ true → is_le (by_bytes a c) ≡ true
le_le a b c h k = le_le_by a b c (by_bytes a b) (by_bytes b c) refl refl h k

-- at or before, and then before
pub le_lt : (a b c : List ℕ) → is_le (by_bytes a b) ≡ true → is_lt (by_bytes b c) ≡ true → is_lt (by_bytes a c) ≡ true
le_lt a b c h k = le_lt_by a b c (by_bytes a b) (by_bytes b c) refl refl h k

-- before, and then at or before
pub lt_le : (a b c : List ℕ) → is_lt (by_bytes a b) ≡ true → is_le (by_bytes b c) ≡ true → is_lt (by_bytes a c) ≡ true
lt_le a b c h k = lt_le_by a b c (by_bytes a b) (by_bytes b c) refl refl h k

-- a key behind one that stands behind a third
pub behind : (x y k : List ℕ) → by_bytes x y ≡ Less → by_bytes k y ≡ Greater → by_bytes k x ≡ Greater
behind x y k l g =
    let back : by_bytes y k ≡ Less = by_bytes_total.antisymm y k ∙ ap ordering_reverse g in
    by_bytes_total.antisymm k x ∙ ap ordering_reverse (by_bytes_total.trans x y k l back)

-- ---- first bytes

-- keys are one where each stands at the other or before it
both_ways : (o p : Ordering) → p ≡ ordering_reverse o → is_le o ≡ true → is_le p ≡ true → o ≡ Equal
both_ways Less p e h k = absurd (cc)
both_ways Equal p e h k = refl
both_ways Greater p e h k = absurd (cc)

pub one_key : (a b : List ℕ) → is_le (by_bytes a b) ≡ true → is_le (by_bytes b a) ≡ true → a ≡ b
one_key a b h k = equal a b (both_ways (by_bytes a b) (by_bytes b a) (by_bytes_total.antisymm b a) h k)

-- the first bytes of keys stand in the keys' order
pub first_bytes : (n : ℕ) (a b : List ℕ) → is_le (by_bytes a b) ≡ true → is_le (by_bytes (take n a) (take n b)) ≡ true
first_bytes zero a b h = refl
first_bytes (suc n) [] b h = from_start (take (suc n) b)
first_bytes (suc n) (x ∷ a) [] h = absurd (cc)
first_bytes (suc n) (x ∷ a) (y ∷ b) h =
    ⊎_elim (λ (e : x ≡ y). ap is_le (one_first x y (take n a) (take n b) e) ∙ first_bytes n a b (sym (ap is_le (one_first x y a b e)) ∙ h))
    (⊎_elim
    (λ (l : x < y). ap (λ (o : Ordering). is_le (ordering_then o (by_bytes (take n a) (take n b)))) (cmp_less x y l))
    (λ (l : y < x). absurd (let no : is_le (ordering_then Greater (by_bytes a b)) ≡ true = subst (λ (o : Ordering). is_le (ordering_then o (by_bytes a b)) ≡ true) (cmp_greater x y l) h in cc)))
    (cases_order x y)

-- and fewer of them in that of more
fewer_bytes : (n m : ℕ) (a b : List ℕ) → n ≤ m → is_le (by_bytes (take m a) (take m b)) ≡ true → is_le (by_bytes (take n a) (take n b)) ≡ true
fewer_bytes n m a b l h =
    ap (λ (t : List ℕ). is_le (by_bytes t (take n b))) (sym (take-take n m a l))
    ∙ ap (λ (t : List ℕ). is_le (by_bytes (take n (take m a)) t)) (sym (take-take n m b l))
    ∙ first_bytes n (take m a) (take m b) h

-- a key between two that begin as a third does begins so too
pub between_alike : (n m j : ℕ) (k x : List ℕ) → n ≤ m → n ≤ j → is_le (by_bytes (take m k) (take m x)) ≡ true → is_le (by_bytes (take j x) (take j k)) ≡ true → take n x ≡ take n k
between_alike n m j k x l g low high = one_key (take n x) (take n k) (fewer_bytes n j x k g high) (fewer_bytes n m k x l low)
