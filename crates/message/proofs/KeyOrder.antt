-- The order of keys, and where a key lies between two ends.
use Rattle.std.proofs.Common.{◌≡◌, ℕ, Bool, true, false, List, refl, ap, sym, ◌∙◌, Option, Some, None, cond}
use Rattle.std.specs.Prelude.{◌&&◌}
use Rattle.std.specs.declared.cmp.Ordering.{Ordering}
use Rattle.std.specs.declared.cmp.Ordering.TheVariants.{Less, Equal, Greater}
use Rattle.std.specs.Ordering.{is_lt, is_eq, ordering_reverse}
use Rattle.std.proofs.lemmas.Bool.{false_from_ne_true}
use Rattle.std.proofs.lemmas.Cmp.{nat_list_cmp_total}
use Rattle.pathkey.specs.Order.{by_bytes, same}
use Rattle.pathkey.specs.Keys.{is_below}
use Rattle.pathkey.proofs.OrderFacts.{same_true, same_false, apart}
use Rattle.pathkey.proofs.KeyOrder.{reaches-refl, reaches-from_before, reaches-from_not_before, le_le, le_lt, lt_le}
use Rattle.message.specs.Ranges.{reaches, before, within, later_key, earlier_end}

-- one of two ways
pub split_bool : {P : Type 0} (b : Bool) → (b ≡ true → P) → (b ≡ false → P) → P
split_bool true f g = f refl
split_bool false f g = g refl

-- both of two tests that hold together
pub both : (a b : Bool) → (a && b) ≡ true → (a ≡ true) × (b ≡ true)
both true true e = (refl, refl)
both true false e = (cc)
both false b e = (cc)

-- ---- the later beginning and the earlier end

later_by : (c : Bool) (lo a : List ℕ) → before lo a ≡ c → reaches lo (cond c a lo) ≡ true
later_by true lo a e = reaches-from_before lo a e
later_by false lo a e = reaches-refl lo

-- the later of two keys stands at or after the first
pub reaches-later : (lo a : List ℕ) → reaches lo (later_key lo a) ≡ true
reaches-later lo a = later_by (before lo a) lo a refl

-- from the first beginning on, the later one tests as the second
from_later_by : (c : Bool) (lo a k : List ℕ) → before lo a ≡ c → reaches lo k ≡ true → reaches (cond c a lo) k ≡ reaches a k
from_later_by true lo a k e h = refl
from_later_by false lo a k e h = h ∙ sym (le_le a lo k (reaches-from_not_before lo a e) h)

below_earlier_by : (c : Bool) (h b k : List ℕ) → before h b ≡ c → before k h ≡ true → before k (cond c h b) ≡ before k b
below_earlier_by true h b k e l = l ∙ sym (le_lt k h b (reaches-from_before k h l) e)
below_earlier_by false h b k e l = refl

-- below the first end, the earlier one tests as the second
below_earlier : (hi b : Option (List ℕ)) (k : List ℕ) → is_below k hi ≡ true → is_below k (earlier_end hi b) ≡ is_below k b
below_earlier None b k l = refl
below_earlier (Some h) None k l = l
below_earlier (Some h) (Some b) k l = below_earlier_by (before h b) h b k refl l

-- inside a range, what was cut to it lies as before
pub within-cut : (lo a : List ℕ) (hi b : Option (List ℕ)) (k : List ℕ) → within lo hi k ≡ true → within (later_key lo a) (earlier_end hi b) k ≡ within a b k
within-cut lo a hi b k h =
    let p = both (reaches lo k) (is_below k hi) h in
    ap (λ x. x && is_below k (earlier_end hi b)) (from_later_by (before lo a) lo a k refl p.0) ∙ ap (λ y. reaches a k && y) (below_earlier hi b k p.1)

-- what the later beginning reaches, the first one reaches
reaches_from_later_by : (c : Bool) (lo a k : List ℕ) → before lo a ≡ c → reaches (cond c a lo) k ≡ true → reaches lo k ≡ true
reaches_from_later_by true lo a k e h = le_le lo a k (reaches-from_before lo a e) h
reaches_from_later_by false lo a k e h = h

below_from_earlier_by : (c : Bool) (h b k : List ℕ) → before h b ≡ c → before k (cond c h b) ≡ true → before k h ≡ true
below_from_earlier_by true h b k e l = l
below_from_earlier_by false h b k e l = lt_le k b h l (reaches-from_not_before h b e)

-- what lies below the earlier end lies below the first one
below_from_earlier : (hi b : Option (List ℕ)) (k : List ℕ) → is_below k (earlier_end hi b) ≡ true → is_below k hi ≡ true
below_from_earlier None b k l = refl
below_from_earlier (Some h) None k l = l
below_from_earlier (Some h) (Some b) k l = below_from_earlier_by (before h b) h b k refl l

-- what was cut to a range lies inside it
pub cut_within : (lo a : List ℕ) (hi b : Option (List ℕ)) (k : List ℕ) → within lo hi k ≡ false → within (later_key lo a) (earlier_end hi b) k ≡ false
cut_within lo a hi b k h = false_from_ne_true (within (later_key lo a) (earlier_end hi b) k) (λ e.
    let p = both (reaches (later_key lo a) k) (is_below k (earlier_end hi b)) e in
    let low : reaches lo k ≡ true = reaches_from_later_by (before lo a) lo a k refl p.0 in
    let high : is_below k hi ≡ true = below_from_earlier hi b k p.1 in
    let in_range : within lo hi k ≡ true = ap (λ x. x && is_below k hi) low ∙ high in
    (cc))

-- a range that holds a key begins before its end
pub begins_before_end : (lo k : List ℕ) (hi : Option (List ℕ)) → reaches lo k ≡ true → is_below k hi ≡ true → is_below lo hi ≡ true
begins_before_end lo k None h l = refl
begins_before_end lo k (Some e) h l = le_lt lo k e h l

-- no key lies in a range that ends where it begins, or before
pub empty_by : (c : Bool) (lo k : List ℕ) (hi : Option (List ℕ)) → within lo hi k ≡ c → is_below lo hi ≡ false → c ≡ false
empty_by false lo k hi e h = refl
empty_by true lo k hi e h =
    let p = both (reaches lo k) (is_below k hi) e in
    sym (begins_before_end lo k hi p.0 p.1) ∙ h

-- equal keys lie alike
pub within-same : (lo q k : List ℕ) (hi : Option (List ℕ)) → same q k ≡ true → within lo hi q ≡ within lo hi k
within-same lo q k hi e = ap (λ x. within lo hi x) (same_true q k e)

-- a key outside a range is none inside it
pub apart_by : (c : Bool) (lo q k : List ℕ) (hi : Option (List ℕ)) → same q k ≡ c → within lo hi q ≡ false → within lo hi k ≡ true → c ≡ false
apart_by false lo q k hi e f h = refl
apart_by true lo q k hi e f h = sym h ∙ sym (within-same lo q k hi e) ∙ f

-- ---- keys that are not one

-- what stands before a key that stands below an end does so too
pub below_next : (p a : List ℕ) (o : Option (List ℕ)) → before p a ≡ true → is_below a o ≡ true → is_below p o ≡ true
below_next p a o h l = begins_before_end p a o (reaches-from_before p a h) l

-- keys that compare as one before the other are not one
unlike_by : (o : Ordering) → is_lt o ≡ true → is_eq o ≡ false
unlike_by Less h = refl
unlike_by Equal h = (cc)
unlike_by Greater h = refl

-- a key before another is not that key
pub unlike_earlier : (a k : List ℕ) → before a k ≡ true → same a k ≡ false
unlike_earlier a k h = unlike_by (by_bytes a k) h

-- nor is a key behind it
pub unlike_later : (a k : List ℕ) → before k a ≡ true → same a k ≡ false
unlike_later a k h = same_false a k (λ e. apart k a (unlike_earlier k a h) (sym e))

beyond_by : (o p : Ordering) → p ≡ ordering_reverse o → is_lt o ≡ false → is_eq o ≡ false → is_lt p ≡ true
beyond_by Less p e h s = (cc)
beyond_by Equal p e h s = (cc)
beyond_by Greater p e h s = ap is_lt e

-- a key that stands neither before another nor with it stands behind it
pub beyond : (a k : List ℕ) → before a k ≡ false → same a k ≡ false → before k a ≡ true
beyond a k h s = beyond_by (by_bytes a k) (by_bytes k a) (nat_list_cmp_total.antisymm k a) h s
