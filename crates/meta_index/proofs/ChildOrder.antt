-- The order of the keys below a path: by the next name, each followed by everything below it.
use Rattle.std.proofs.Common.{◌≡◌, ℕ, ◌<◌, List, [], ◌∷◌, ◌++◌, true, eqb, refl, sym, ap, subst, ◌∙◌, arith, ⊎_elim, append_assoc}
use Rattle.std.specs.Cmp.{both_ways}
use Rattle.std.specs.List.{starts_with}
use Rattle.std.specs.declared.cmp.Ordering.{Ordering}
use Rattle.std.specs.declared.cmp.Ordering.TheVariants.{Less, Greater}
use Rattle.std.specs.Ordering.{is_lt, is_le, nat_cmp, ordering_then}
use Rattle.std.proofs.lemmas.Bool.{cases_order}
use Rattle.std.proofs.lemmas.Bool.Decides.{Decides-eqb}
use Rattle.std.proofs.lemmas.Slice.Eq.{starts_is}
use Rattle.pathkey.specs.Order.{by_bytes}
use Rattle.pathkey.specs.Names.{Name, Path, HasNameBytes}
use Rattle.pathkey.specs.Keys.{Key, enc}
use Rattle.pathkey.proofs.OrderFacts.{cmp_less, cmp_equal, cmp_greater}
use Rattle.reference.proofs.PathOrder.{behind_beginning}
use Rattle.pathkey.proofs.KeyFacts.{between, enc-append, from_between_high, from_between_low}
use Rattle.pathkey.proofs.KeyOrder.{from_start}
use Rattle.message.specs.Ranges.{before, reaches}
use Rattle.scan.specs.Pairs.{IsEndOf}

-- ---- bytes

-- first bytes that are in order decide
tails : (x c : ℕ) (a b : List ℕ) (P : Ordering → Type 0) → ordering_then (nat_cmp x c) (by_bytes a b) ≡ Less → (x ≡ c → by_bytes a b ≡ Less → P (nat_cmp x c)) → P Less → P (nat_cmp x c)
tails x c a b P h f p = ⊎_elim
    (λ (e : x ≡ c). f e (sym (ap (λ (o : Ordering). ordering_then o (by_bytes a b)) (ap (nat_cmp x) (sym e) ∙ cmp_equal x)) ∙ h))
    (⊎_elim
    (λ (l : x < c). subst P (sym (cmp_less x c l)) p)
    (λ (l : c < x). absurd (let g : ordering_then Greater (by_bytes a b) ≡ Less = sym (ap (λ (o : Ordering). ordering_then o (by_bytes a b)) (cmp_greater x c l)) ∙ h in cc)))
    (cases_order x c)

-- a name, and what follows it after a byte 0, is before a later name and what follows that
name_before : (a b y z : List ℕ) → HasNameBytes b → by_bytes a b ≡ Less → before (a ++ 0 ∷ y) (b ++ z) ≡ true
name_before [] [] y z u h = absurd (cc)
name_before [] (c ∷ b) y z u h = subst (λ (o : Ordering). is_lt (ordering_then o (by_bytes y (b ++ z))) ≡ true) (sym (cmp_less 0 c u.0)) refl
name_before (x ∷ a) [] y z u h = absurd (cc)
name_before (x ∷ a) (c ∷ b) y z u h = tails x c a b (λ o. is_lt (ordering_then o (by_bytes (a ++ 0 ∷ y) (b ++ z))) ≡ true) h
    (λ e g. subst (λ (o : Ordering). is_lt (ordering_then o (by_bytes (a ++ 0 ∷ y) (b ++ z))) ≡ true) (sym (ap (nat_cmp x) (sym e) ∙ cmp_equal x)) (name_before a b y z u.3 g))
    refl

-- and even the end of all that is not after the later name
end_reaches : (a b z : List ℕ) → HasNameBytes b → by_bytes a b ≡ Less → reaches (a ++ 1 ∷ []) (b ++ z) ≡ true
end_reaches [] [] z u h = absurd (cc)
end_reaches [] (c ∷ b) z u h = ⊎_elim
    (λ (e : 1 ≡ c). subst (λ (o : Ordering). is_le (ordering_then o (by_bytes [] (b ++ z))) ≡ true) (sym (ap (nat_cmp 1) (sym e) ∙ cmp_equal 1)) (from_start (b ++ z)))
    (⊎_elim
    (λ (l : 1 < c). subst (λ (o : Ordering). is_le (ordering_then o (by_bytes [] (b ++ z))) ≡ true) (sym (cmp_less 1 c l)) refl)
    (λ (l : c < 1). absurd (omega (arith, u.0))))
    (cases_order 1 c)
end_reaches (x ∷ a) [] z u h = absurd (cc)
end_reaches (x ∷ a) (c ∷ b) z u h = tails x c a b (λ o. is_le (ordering_then o (by_bytes (a ++ 1 ∷ []) (b ++ z))) ≡ true) h
    (λ e g. subst (λ (o : Ordering). is_le (ordering_then o (by_bytes (a ++ 1 ∷ []) (b ++ z))) ≡ true) (sym (ap (nat_cmp x) (sym e) ∙ cmp_equal x)) (end_reaches a b z u.3 g))
    refl

-- ---- keys

-- the least key after everything at or below the name n of p
abbrev pub end_key : Path → Name → Key
end_key p n = enc p ++ (n ++ 1 ∷ [])

-- a path's key ends with a byte 0, and the end of the keys with this prefix is the key with that byte set to 1
pub end_of_zero : (s : List ℕ) → IsEndOf (s ++ 1 ∷ []) (s ++ 0 ∷ [])
end_of_zero s k low =
    let reads = starts_is {E = eqb} Decides-eqb k (s ++ 0 ∷ []) (starts_with eqb k (s ++ 0 ∷ [])) refl in
    both_ways (before k (s ++ 1 ∷ [])) (starts_with eqb k (s ++ 0 ∷ []))
    (λ t. let at : (z : Key) × (k ≡ s ++ 0 ∷ z) = between s k low t in reads.1 at.0 (at.1 ∙ sym (append_assoc s (0 ∷ []) at.0)))
    (λ t. let is = reads.0 t ∙ append_assoc s (0 ∷ []) _ in subst (λ (x : Key). before x (s ++ 1 ∷ []) ≡ true) (sym is) (from_between_high s _))

-- everything at or below one name is before everything at or below a later one
pub child_before : (p : Path) (a b : Name) (q r : Path) → HasNameBytes b → by_bytes a b ≡ Less → before (enc (p ++ a ∷ q)) (enc (p ++ b ∷ r)) ≡ true
child_before p a b q r u h =
    ap is_lt (ap (λ (k : Key). by_bytes k (enc (p ++ b ∷ r))) (enc-append p (a ∷ q)) ∙ ap (by_bytes (enc p ++ (a ++ 0 ∷ enc q))) (enc-append p (b ∷ r)) ∙ behind_beginning (enc p) (a ++ 0 ∷ enc q) (b ++ 0 ∷ enc r))
    ∙ name_before a b (enc q) (0 ∷ enc r) u h

-- and so does the end of the earlier one, or at it
pub end_before : (p : Path) (a b : Name) (r : Path) → HasNameBytes b → by_bytes a b ≡ Less → reaches (end_key p a) (enc (p ++ b ∷ r)) ≡ true
end_before p a b r u h =
    ap is_le (ap (by_bytes (end_key p a)) (enc-append p (b ∷ r)) ∙ behind_beginning (enc p) (a ++ 1 ∷ []) (b ++ 0 ∷ enc r))
    ∙ end_reaches a b (0 ∷ enc r) u h

-- everything at or below a name is before that end
pub child_inside : (p : Path) (n : Name) (r : Path) → before (enc (p ++ n ∷ r)) (end_key p n) ≡ true
child_inside p n r =
    ap is_lt (ap (λ (k : Key). by_bytes k (end_key p n)) (enc-append p (n ∷ r)) ∙ behind_beginning (enc p) (n ++ 0 ∷ enc r) (n ++ 1 ∷ []))
    ∙ from_between_high n (enc r)

-- and the entry of that name is the first
pub child_first : (p : Path) (n : Name) (r : Path) → reaches (enc (p ++ n ∷ [])) (enc (p ++ n ∷ r)) ≡ true
child_first p n r =
    ap is_le (ap (λ (k : Key). by_bytes k (enc (p ++ n ∷ r))) (enc-append p (n ∷ [])) ∙ ap (by_bytes (enc p ++ (n ++ 0 ∷ []))) (enc-append p (n ∷ r)) ∙ behind_beginning (enc p) (n ++ 0 ∷ []) (n ++ 0 ∷ enc r))
    ∙ from_between_low n (enc r)
