-- Texts that are written part by part, and extended attributes that are checked one by one.
use Rattle.std.proofs.Common.{◌≡◌, ℕ, suc, ◌+◌, ◌<◌, List, ◌∷◌, ◌++◌, length, take, drop, get_or, true, ◌&&◌, sym, ap, ◌∙◌, append_assoc, add-one, drop-cons, flat_map}
use Rattle.std.specs.Ordering.{is_lt}
use Rattle.pathkey.specs.Order.{by_bytes}
use Rattle.textio.proofs.Texts.{taken_more}
use Rattle.attributes.specs.declared.record.ExtendedAttribute.{ExtendedAttribute}
use Rattle.attributes.specs.Attributes.{may_stand, assert_invariant}
use Rattle.attributes.specs.Text.{Text, extended_line}

-- seven parts, one after the other
pub seven_parts : (a b c d e f g z h k m u w n t : Text) → b ≡ a ++ h → c ≡ b ++ k → d ≡ c ++ m → e ≡ d ++ u → f ≡ e ++ w → g ≡ f ++ n → z ≡ g ++ t
    → z ≡ a ++ (h ++ k ++ m ++ u ++ w ++ n ++ t)
seven_parts a b c d e f g z h k m u w n t pb pc pd pe pf pg pz =
    pz ∙ ap (λ (x : Text). x ++ t) (pg ∙ ap (λ (x : Text). x ++ n) (pf ∙ ap (λ (x : Text). x ++ w) (pe ∙ ap (λ (x : Text). x ++ u) (pd ∙ ap (λ (x : Text). x ++ m) (pc ∙ ap (λ (x : Text). x ++ k) pb)))))
    ∙ grouped
  where
    grouped : a ++ h ++ k ++ m ++ u ++ w ++ n ++ t ≡ a ++ (h ++ k ++ m ++ u ++ w ++ n ++ t)
    grouped = simp append_assoc

-- one extended attribute more
pub line_more : (old front now new : Text) (items : List ExtendedAttribute) (i : ℕ) (one : ExtendedAttribute) → i < length items → one ≡ get_or items i one
    → now ≡ old ++ (front ++ flat_map extended_line (take i items)) → new ≡ now ++ extended_line one
    → new ≡ old ++ (front ++ flat_map extended_line (take (i + 1) items))
line_more old front now new items i one lt is before wrote =
    wrote ∙ ap (λ (x : Text). x ++ extended_line one) before
    ∙ append_assoc old (front ++ flat_map extended_line (take i items)) (extended_line one)
    ∙ ap (λ (x : Text). old ++ x) (append_assoc front (flat_map extended_line (take i items)) (extended_line one)
    ∙ ap (λ (x : Text). front ++ x) (ap (λ (a : ExtendedAttribute). flat_map extended_line (take i items) ++ extended_line a) is ∙ sym (taken_more extended_line one items i lt)))

-- a list of attributes is valid if its first one is, and the list after it is
pub rise_at : (last : List ℕ) (items : List ExtendedAttribute) (i : ℕ) (one : ExtendedAttribute) → i < length items → one ≡ get_or items i one
    → assert_invariant last (drop i items) ≡ (is_lt (by_bytes last one.name) && may_stand one && assert_invariant one.name (drop (i + 1) items))
rise_at last items i one lt is =
    ap (assert_invariant last) (drop-cons items i one lt ∙ ap (λ (a : ExtendedAttribute). a ∷ drop (suc i) items) (sym is))
    ∙ ap (λ (n : ℕ). is_lt (by_bytes last one.name) && may_stand one && assert_invariant one.name (drop n items)) (sym (add-one i))

pub rise_kept : (last name : List ℕ) (items : List ExtendedAttribute) (i : ℕ) (one : ExtendedAttribute) → i < length items → one ≡ get_or items i one → name ≡ one.name
    → is_lt (by_bytes last name) ≡ true → may_stand one ≡ true → assert_invariant name (drop (i + 1) items) ≡ assert_invariant last (drop i items)
rise_kept last name items i one lt is same above stands =
    let over : is_lt (by_bytes last one.name) ≡ true = ap (λ (n : List ℕ). is_lt (by_bytes last n)) (sym same) ∙ above in
    sym (rise_at last items i one lt is ∙ rw (over, stands) (ap (λ (n : List ℕ). assert_invariant n (drop (i + 1) items)) (sym same)))
