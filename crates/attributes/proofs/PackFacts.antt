-- Packed extended attributes: a guess of the decoder that is packed to the same bytes is the right
-- one.
use Rattle.std.proofs.Common.{◌≡◌, ◌≢◌, ℕ, zero, suc, ◌+◌, ◌<◌, ◌≤◌, List, [], ◌∷◌, ◌++◌, length, get_or, take, drop, true, false, ◌==◌, ◌&&◌, not, nat_le, sym, ap, subst, ◌∙◌, arith, append_assoc, length-append, flat_map, All}
use Rattle.std.specs.List.{list_all, AllByRecursion}
use Rattle.std.specs.Ordering.{is_lt}
use Rattle.std.proofs.lemmas.Bool.{and_parts, false≢true}
use Rattle.std.proofs.lemmas.List.{drop_at, take_at}
use Rattle.std.proofs.lemmas.Bool.Decides.{nat_tests}
use Rattle.textio.proofs.Texts.{taken_more}
use Rattle.pathkey.specs.Order.{by_bytes}
use Rattle.attributes.specs.declared.record.ExtendedAttribute.{ExtendedAttribute}
use Rattle.attributes.specs.Attributes.{may_stand, assert_invariant}
use Rattle.attributes.specs.Packed.{four_bytes, packed, packed_one}
use Rattle.attributes.proofs.ReadFacts.{Lacks, lacks_from_all, lacks_from_test, not_there, same_cut}

rise_parts : (last : List ℕ) (e : ExtendedAttribute) (es : List ExtendedAttribute) → assert_invariant last (e ∷ es) ≡ true → (may_stand e ≡ true) × (assert_invariant e.name es ≡ true)
rise_parts last e es h =
    let outer : ((is_lt (by_bytes last e.name) && may_stand e) ≡ true) × (assert_invariant e.name es ≡ true) = and_parts _ _ h in
    let inner : (is_lt (by_bytes last e.name) ≡ true) × (may_stand e ≡ true) = and_parts _ _ outer.0 in
    (inner.1, outer.1)

-- each of a sorted list of attributes is within the limits
pub all_stand : (last : List ℕ) (es : List ExtendedAttribute) → assert_invariant last es ≡ true → AllByRecursion (λ e. may_stand e ≡ true) es
all_stand last [] h = tt
all_stand last (e ∷ es) h = let parts = rise_parts last e es h in (parts.0, all_stand e.name es parts.1)

pub stands_at : (last : List ℕ) (es : List ExtendedAttribute) (i : ℕ) (one : ExtendedAttribute) → assert_invariant last es ≡ true → i < length es → one ≡ get_or es i one → may_stand one ≡ true
stands_at last [] i one h lt is = absurd (omega arith)
stands_at last (e ∷ es) zero one h lt is = subst (λ (x : ExtendedAttribute). may_stand x ≡ true) (sym is) (rise_parts last e es h).0
stands_at last (e ∷ es) (suc i) one h lt is = stands_at e.name es i one (rise_parts last e es h).1 (omega arith) is

-- what the limits say of a name and of a value
record Stands (e : ExtendedAttribute) : Type 0 where
  name : Lacks 0 e.name
  value : length e.value ≤ 65536

stands : (e : ExtendedAttribute) → may_stand e ≡ true → Stands e
stands e h =
    let outer : ((nat_le (length e.name) 255 && list_all (λ b. not (b == 0)) e.name) ≡ true) × (nat_le (length e.value) 65536 ≡ true) = and_parts _ _ h in
    let inner : (nat_le (length e.name) 255 ≡ true) × (list_all (λ b. not (b == 0)) e.name ≡ true) = and_parts _ _ outer.0 in
    let short : length e.value ≤ 65536 = grind (arith, nat_tests, outer.1) in
    record { name = lacks_from_test 0 e.name inner.1; value = short }

pub short_value : (e : ExtendedAttribute) → may_stand e ≡ true → length e.value ≤ 65536
short_value e h = (stands e h).value

-- one more was packed
pub packed_more : (bytes new : List ℕ) (es : List ExtendedAttribute) (i : ℕ) (one : ExtendedAttribute) → i < length es → one ≡ get_or es i one → bytes ≡ flat_map packed_one (take i es)
    → new ≡ bytes ++ packed_one one → new ≡ flat_map packed_one (take (i + 1) es)
packed_more bytes new es i one lt is before wrote =
    wrote ∙ ap (λ (x : List ℕ). x ++ packed_one one) before ∙ ap (λ (a : ExtendedAttribute). flat_map packed_one (take i es) ++ packed_one a) is ∙ sym (taken_more packed_one one es i lt)

grouped : (n f v r : List ℕ) → (n ++ 0 ∷ (f ++ v)) ++ r ≡ n ++ 0 ∷ (f ++ (v ++ r))
grouped n f v r = append_assoc n (0 ∷ (f ++ v)) r ∙ ap (λ (x : List ℕ). n ++ 0 ∷ x) (append_assoc f v r)

-- a name that ends at the first byte 0
pub name_cut : (bytes front back rest : List ℕ) (e : ExtendedAttribute) → may_stand e ≡ true → bytes ≡ packed_one e ++ rest → bytes ≡ front ++ 0 ∷ back → All (λ b. b ≢ 0) front
    → (front ≡ e.name) × (back ≡ four_bytes (length e.value) ++ (e.value ++ rest))
unfolding packed_one
name_cut bytes front back rest e h same is all =
    same_cut 0 front e.name back (four_bytes (length e.value) ++ (e.value ++ rest)) (lacks_from_all 0 front all) (stands e h).name
    (sym is ∙ same ∙ grouped e.name (four_bytes (length e.value)) e.value rest)

pub no_name : (bytes rest : List ℕ) (e : ExtendedAttribute) → bytes ≡ packed_one e ++ rest → All (λ b. b ≢ 0) bytes → ⊥
unfolding packed_one
no_name bytes rest e same all =
    not_there 0 e.name (four_bytes (length e.value) ++ (e.value ++ rest))
    (subst (Lacks 0) (same ∙ grouped e.name (four_bytes (length e.value)) e.value rest) (lacks_from_all 0 bytes all))

-- the four bytes of a number, and the bytes after them
pub number_cut : (bytes digits behind rest : List ℕ) (n : ℕ) → digits ≡ take 4 bytes → behind ≡ drop 4 bytes → bytes ≡ four_bytes n ++ rest → (digits ≡ four_bytes n) × (behind ≡ rest)
unfolding four_bytes
number_cut bytes digits behind rest n front back e = (front ∙ ap (take 4) e, back ∙ ap (drop 4) e)

pub has_number : (bytes rest : List ℕ) (n : ℕ) → bytes ≡ four_bytes n ++ rest → 4 ≤ length bytes
unfolding four_bytes
has_number bytes rest n e = let size : length bytes ≡ suc (suc (suc (suc (length rest)))) = ap length e in omega arith

pub value_cut : (behind value rest front back : List ℕ) (n : ℕ) → behind ≡ value ++ rest → n ≡ length value → front ≡ take n behind → back ≡ drop n behind → (front ≡ value) × (back ≡ rest)
value_cut behind value rest front back n e is f b =
    (f ∙ ap (take n) e ∙ take_at value rest n (sym is), b ∙ ap (drop n) e ∙ drop_at value rest n (sym is))

pub has_value : (behind value rest : List ℕ) (n : ℕ) → behind ≡ value ++ rest → n ≡ length value → n ≤ length behind
has_value behind value rest n e is = let size : length behind ≡ length value + length rest = ap length e ∙ length-append value rest in omega arith

-- ---- bytes that are not packed extended attributes

module _ (bytes : List ℕ) (parse_unchecked : List ExtendedAttribute) (outcome : (es : List ExtendedAttribute) → assert_invariant [] es ≡ true → bytes ≡ packed es → parse_unchecked ≡ es) where
  pub not_risen : assert_invariant [] parse_unchecked ≡ false → (es : List ExtendedAttribute) → assert_invariant [] es ≡ true → bytes ≡ packed es → ⊥
  not_risen bad es is e = false≢true (sym bad ∙ ap (assert_invariant []) (outcome es is e) ∙ is)

  pub not_packed : (bytes ≡ packed parse_unchecked → ⊥) → (es : List ExtendedAttribute) → assert_invariant [] es ≡ true → bytes ≡ packed es → ⊥
  not_packed other es is e = other (e ∙ ap packed (sym (outcome es is e)))
