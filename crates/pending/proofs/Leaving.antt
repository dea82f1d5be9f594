-- Messages that leave a list one by one.
use Rattle.std.proofs.Common.{◌≡◌, ℕ, zero, suc, ◌+◌, ◌<◌, refl, sym, ap, ◌∙◌, List, [], ◌∷◌, ◌++◌, length, drop, arith, subst}
use Rattle.std.proofs.Common.{Option, Some, None}
use Rattle.std.specs.Option.{option_to_list, IfNone}

one_more : (i : ℕ) → suc i ≡ i + 1
one_more i = omega arith

drop_one : {X : Type 0} (i : ℕ) (xs : List X) → drop (suc i) xs ≡ drop 1 (drop i xs)
drop_one zero xs = refl
drop_one (suc i) [] = refl
drop_one (suc i) (x ∷ xs) = drop_one i xs

-- behind number i there is one more
pub left_turn : {X : Type 0} (i : ℕ) (old now new : List X) (x : X) → now ≡ drop i old → now ≡ x ∷ new → new ≡ drop (i + 1) old
left_turn i old now new x l m = subst (λ (n : ℕ). new ≡ drop n old) (one_more i) (sym (drop_one i old ∙ ap (λ t. drop 1 t) (sym l ∙ m)))

-- before its end a list has one more
pub not_ended : {X : Type 0} (i : ℕ) (old now : List X) → now ≡ drop i old → i < length old → now ≡ [] → ⊥
not_ended zero [] now l h e = omega (arith, h)
not_ended zero (x ∷ old) now l h e = (let no : [] ≡ x ∷ old = sym e ∙ l in cc)
not_ended (suc i) [] now l h e = omega (arith, h)
not_ended (suc i) (x ∷ old) now l h e = not_ended i old now l (omega (arith, h)) e

pub left_any : {X : Type 0} (i : ℕ) (old now new : List X) (r : Option X) → now ≡ drop i old → now ≡ option_to_list r ++ new → IfNone r (now ≡ []) → i < length old → new ≡ drop (i + 1) old
left_any i old now new (Some x) l m e h = left_turn i old now new x l m
left_any i old now new None l m e h = absurd (not_ended i old now l h e)
