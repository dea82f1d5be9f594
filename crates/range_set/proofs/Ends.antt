-- Ends of ranges and keys, and what the ranges of a list have in common.
use Rattle.std.proofs.Common.{◌≡◌, ℕ, Bool, true, false, not, List, [], ◌∷◌, ◌++◌, take, drop, Option, Some, None, refl, ap, sym, ◌∙◌, subst}
use Rattle.std.specs.Prelude.{◌||◌, Result, Ok, Err, OnOk, OnErr}
use Rattle.std.specs.declared.cmp.Ordering.TheVariants.{Less}
use Rattle.std.specs.List.{AllByRecursion}
use Rattle.std.specs.List.Sorted.{IsStrictlySortedBy}
use Rattle.std.specs.Map.{keys_of}
use Rattle.std.proofs.lemmas.List.{take-append-drop}
use Rattle.pathkey.specs.Order.{by_bytes}
use Rattle.pathkey.specs.Keys.{is_below}
use Rattle.pathkey.proofs.KeyOrder.{less_from_lt, reaches-from_before, reaches-from_not_before, not_before_from_reaches, le_le, lt_le}
use Rattle.message.specs.Ranges.{reaches, before, within, ends_within}
use Rattle.message.proofs.KeyOrder.{both, begins_before_end}
use Rattle.cow_map.specs.Places.{Rises}
use Rattle.range_set.specs.Disjoint.{Span, covered, ends_before, BeginBehind, AreApart, CoversMore}

-- ---- booleans

pub not_true : (b : Bool) → not b ≡ true → b ≡ false
not_true true h = absurd (cc)
not_true false h = refl

pub not_false : (b : Bool) → not b ≡ false → b ≡ true
not_false true h = refl
not_false false h = absurd (cc)

-- what follows from either outcome
pub either_way : {T E P Q R : Type 0} (r : Result T E) → OnOk r P → OnErr r Q → (P → R) → (Q → R) → R
either_way (Ok x) p q f g = f p
either_way (Err e) p q f g = g q

-- ---- an end and keys

-- a key behind one that an end stands before, or does not pass
pub ends_on : (h : Option (List ℕ)) (a b : List ℕ) → ends_before h a ≡ true → reaches a b ≡ true → ends_before h b ≡ true
ends_on None a b e r = absurd (cc)
ends_on (Some h) a b e r = lt_le h a b e r

pub past_on : (h : Option (List ℕ)) (a b : List ℕ) → is_below a h ≡ false → reaches a b ≡ true → is_below b h ≡ false
past_on None a b e r = absurd (cc)
past_on (Some h) a b e r = not_before_from_reaches h b (le_le h a b (reaches-from_not_before a h e) r)

pub past_end : (h : Option (List ℕ)) (k : List ℕ) → ends_before h k ≡ true → is_below k h ≡ false
past_end None k e = absurd (cc)
past_end (Some h) k e = not_before_from_reaches h k (reaches-from_before h k e)

-- what lies before an end that another key does not pass stands before that key
pub ahead_of_end : (h : Option (List ℕ)) (a b : List ℕ) → is_below a h ≡ true → is_below b h ≡ false → before a b ≡ true
ahead_of_end None a b x y = absurd (cc)
ahead_of_end (Some h) a b x y = lt_le a h b x (reaches-from_not_before b h y)

pub end_passed : (h : Option (List ℕ)) (k : List ℕ) → ends_within h (Some k) ≡ true → is_below k h ≡ false
end_passed None k e = absurd (cc)
end_passed (Some h) k e = not_before_from_reaches h k e

pub end_reached : (h : Option (List ℕ)) (k : List ℕ) → is_below k h ≡ false → ends_within h (Some k) ≡ true
end_reached None k e = absurd (cc)
end_reached (Some h) k e = reaches-from_not_before k h e

pub less_from_before : (a b : List ℕ) → before a b ≡ true → by_bytes a b ≡ Less
less_from_before a b h = less_from_lt (by_bytes a b) h

-- no key lies in a range that ends where it begins, or before
pub none_within : (lo : List ℕ) (hi : Option (List ℕ)) (k : List ℕ) → is_below lo hi ≡ false → within lo hi k ≡ false
none_within lo hi k n = elim (within lo hi k) as (λ c. within lo hi k ≡ c → c ≡ false) [
  | true ↦ λ w. (let p = both (reaches lo k) (is_below k hi) w in sym (begins_before_end lo k hi p.0 p.1) ∙ n)
  | false ↦ λ w. refl
] refl

pub none_more : (lo : List ℕ) (hi : Option (List ℕ)) (rs : List Span) → is_below lo hi ≡ false → CoversMore lo hi rs rs
none_more lo hi rs n k = sym (ap (λ b. b || covered rs k) (none_within lo hi k n))

-- ---- ranges that lie apart

all_ahead : (k : List ℕ) (h : Option (List ℕ)) (rs : List Span) → is_below k h ≡ true → BeginBehind h rs → AllByRecursion (λ y. by_bytes k y ≡ Less) (keys_of rs)
all_ahead k h [] b a = tt
all_ahead k h (e ∷ rs) b a = (less_from_before k e.0 (ahead_of_end h k e.0 b (past_end h e.0 a.0)), all_ahead k h rs b a.1)

pub apart_rises : (rs : List Span) → AreApart rs → Rises rs
unfolding IsStrictlySortedBy
apart_rises [] a = tt
apart_rises (e ∷ rs) a = (all_ahead e.0 e.1 rs a.0 a.1, apart_rises rs a.2)

begin_left : (h : Option (List ℕ)) (es fs : List Span) → BeginBehind h (es ++ fs) → BeginBehind h es
begin_left h [] fs b = tt
begin_left h (e ∷ es) fs b = (b.0, begin_left h es fs b.1)

pub apart_left : (es fs : List Span) → AreApart (es ++ fs) → AreApart es
apart_left [] fs a = tt
apart_left (e ∷ es) fs a = (a.0, begin_left e.1 es fs a.1, apart_left es fs a.2)

pub apart_right : (es fs : List Span) → AreApart (es ++ fs) → AreApart fs
apart_right [] fs a = a
apart_right (e ∷ es) fs a = apart_right es fs a.2

pub apart_drop : (n : ℕ) (rs : List Span) → AreApart rs → AreApart (drop n rs)
apart_drop n rs a = apart_right (take n rs) (drop n rs) (subst (λ t. AreApart t) (sym (take-append-drop n rs)) a)
