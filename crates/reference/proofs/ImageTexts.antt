-- Texts that can be taken apart: where a visible text ends, and which name, number or bytes it tells.
use Rattle.std.proofs.Common.{◌≡◌, ◌≢◌, ◌⊎◌, inl, inr, ⊎_elim, ℕ, ◌+◌, ◌/◌, ◌%◌, ◌^◌, ◌<◌, ◌≤◌, List, [], ◌∷◌, ◌++◌, true, false, cond, nat_lt, ◌==◌, ◌||◌, refl, sym, ap, subst, ◌∙◌, arith, flat_map, decimal}
use Rattle.std.proofs.lemmas.Bool.{ltb-true, ltb-false, eqb-false, or_parts}
use Rattle.std.proofs.lemmas.Fmt.{decimal_by_steps}
use Rattle.reference.specs.Tree.{Name, Path}
use Rattle.reference.specs.Image.{Text, digit, two_digits, percent, path_text}

-- ---- visible texts

-- no byte is a space or a line feed
abbrev pub Visible : Text → Type 0
Visible [] = Unit {0}
Visible (x ∷ xs) = (33 ≤ x) × Visible xs

pub visible-append : (xs ys : Text) → Visible xs → Visible ys → Visible (xs ++ ys)
visible-append [] ys v w = w
visible-append (x ∷ xs) ys v w = (v.0, visible-append xs ys v.1 w)

-- a visible text is known from what follows it
pub cut : (xs ys : Text) (a b : ℕ) (r s : Text) → Visible xs → Visible ys → a < 33 → b < 33 → xs ++ a ∷ r ≡ ys ++ b ∷ s → (xs ≡ ys) × (r ≡ s)
cut [] [] a b r s v w la lb e = (refl, cc)
cut [] (y ∷ ys) a b r s v w la lb e = absurd (let same : a ≡ y = cc in let far : 33 ≤ y = w.0 in omega arith)
cut (x ∷ xs) [] a b r s v w la lb e = absurd (let same : x ≡ b = cc in let far : 33 ≤ x = v.0 in omega arith)
cut (x ∷ xs) (y ∷ ys) a b r s v w la lb e =
    let first : x ≡ y = cc in
    let rest : xs ++ a ∷ r ≡ ys ++ b ∷ s = cc in
    let ih : (xs ≡ ys) × (r ≡ s) = cut xs ys a b r s v.1 w.1 la lb rest in
    (cc (first, ih.0), ih.1)

-- ---- hexadecimal digits

digit_cases : (l d : ℕ) → ((d < 10) × (digit l d ≡ 48 + d)) ⊎ ((10 ≤ d) × (digit l d ≡ l + d))
digit_cases l d = elim (nat_lt d 10) as (λ b. nat_lt d 10 ≡ b → ((d < 10) × (cond b (48 + d) (l + d) ≡ 48 + d)) ⊎ ((10 ≤ d) × (cond b (48 + d) (l + d) ≡ l + d))) [
  | true ↦ λ e. inl (ltb-true d 10 e, refl)
  | false ↦ λ e. inr (ltb-false d 10 e, refl)
] refl

digit_from : (l d : ℕ) → 48 ≤ l → 48 ≤ digit l d
digit_from l d h = ⊎_elim (λ (f : (d < 10) × (digit l d ≡ 48 + d)). omega arith) (λ (f : (10 ≤ d) × (digit l d ≡ l + d)). omega arith) (digit_cases l d)

digit_injective : (l d e : ℕ) → 48 ≤ l → digit l d ≡ digit l e → d ≡ e
digit_injective l d e h g = ⊎_elim
    (λ (f : (d < 10) × (digit l d ≡ 48 + d)). ⊎_elim (λ (k : (e < 10) × (digit l e ≡ 48 + e)). omega arith) (λ (k : (10 ≤ e) × (digit l e ≡ l + e)). omega arith) (digit_cases l e))
    (λ (f : (10 ≤ d) × (digit l d ≡ l + d)). ⊎_elim (λ (k : (e < 10) × (digit l e ≡ 48 + e)). omega arith) (λ (k : (10 ≤ e) × (digit l e ≡ l + e)). omega arith) (digit_cases l e))
    (digit_cases l d)

two_injective : (l b c : ℕ) (r s : Text) → 48 ≤ l → two_digits l b ++ r ≡ two_digits l c ++ s → (b ≡ c) × (r ≡ s)
two_injective l b c r s h e =
    let high : digit l (b / 16) ≡ digit l (c / 16) = cc in
    let low : digit l (b % 16) ≡ digit l (c % 16) = cc in
    let rest : r ≡ s = cc in
    let high_is : b / 16 ≡ c / 16 = digit_injective l (b / 16) (c / 16) h high in
    let low_is : b % 16 ≡ c % 16 = digit_injective l (b % 16) (c % 16) h low in
    (omega arith, rest)

two_visible : (l b : ℕ) → 48 ≤ l → Visible (two_digits l b)
two_visible l b h =
    let high : 48 ≤ digit l (b / 16) = digit_from l (b / 16) h in
    let low : 48 ≤ digit l (b % 16) = digit_from l (b % 16) h in
    (omega arith, (omega arith, tt))

-- the bytes of a block in digits
pub hex_visible : (bs : List ℕ) → Visible (flat_map (two_digits 87) bs)
hex_visible [] = tt
hex_visible (b ∷ bs) = visible-append (two_digits 87 b) (flat_map (two_digits 87) bs) (two_visible 87 b (omega arith)) (hex_visible bs)

pub hex_injective : (bs cs : List ℕ) → flat_map (two_digits 87) bs ≡ flat_map (two_digits 87) cs → bs ≡ cs
hex_injective [] [] e = refl
hex_injective [] (c ∷ cs) e = absurd (cc)
hex_injective (b ∷ bs) [] e = absurd (cc)
hex_injective (b ∷ bs) (c ∷ cs) e =
    let first : (b ≡ c) × (flat_map (two_digits 87) bs ≡ flat_map (two_digits 87) cs) = two_injective 87 b c (flat_map (two_digits 87) bs) (flat_map (two_digits 87) cs) (omega arith) e in
    let rest : bs ≡ cs = hex_injective bs cs first.1 in
    cc (first.0, rest)

-- ---- decimal digits

pub decimal_visible : (n : ℕ) → n < 2 ^ 64 → Visible (decimal n)
decimal_visible n h = decimal_by_steps (λ k ds. Visible ds) (λ k l. (omega arith, tt)) (λ k ds l v. visible-append ds ((48 + k % 10) ∷ []) v (omega arith, tt)) n h

-- ---- names

-- a byte stands for itself, or is told by a percent sign and two digits
pub percent_cases : (b : ℕ) → (percent b ≡ 37 ∷ two_digits 55 b) ⊎ ((33 ≤ b) × (b ≢ 37) × (percent b ≡ b ∷ []))
percent_cases b = elim (nat_lt b 33 || b == 37 || nat_lt 126 b) as (λ t. (nat_lt b 33 || b == 37 || nat_lt 126 b) ≡ t → (cond t (37 ∷ two_digits 55 b) (b ∷ []) ≡ 37 ∷ two_digits 55 b) ⊎ ((33 ≤ b) × (b ≢ 37) × (cond t (37 ∷ two_digits 55 b) (b ∷ []) ≡ b ∷ []))) [
  | true ↦ λ e. inl refl
  | false ↦ λ e.
      let outer : ((nat_lt b 33 || b == 37) ≡ false) × (nat_lt 126 b ≡ false) = or_parts _ _ e in
      let inner : (nat_lt b 33 ≡ false) × ((b == 37) ≡ false) = or_parts _ _ outer.0 in
      inr (ltb-false b 33 inner.0, eqb-false b 37 inner.1, refl)
] refl

percent_visible : (b : ℕ) → Visible (percent b)
percent_visible b = ⊎_elim
    (λ (f : percent b ≡ 37 ∷ two_digits 55 b). subst Visible (sym f) (omega arith, two_visible 55 b (omega arith)))
    (λ (f : (33 ≤ b) × (b ≢ 37) × (percent b ≡ b ∷ [])). subst Visible (sym f.2) (f.0, tt))
    (percent_cases b)

pub name_visible : (n : Name) → Visible (flat_map percent n)
name_visible [] = tt
name_visible (b ∷ n) = visible-append (percent b) (flat_map percent n) (percent_visible b) (name_visible n)

pub path_visible : (p : Path) → Visible (path_text p)
path_visible [] = tt
path_visible (n ∷ p) = (omega arith, visible-append (flat_map percent n) (path_text p) (name_visible n) (path_visible p))

first_injective : (b c : ℕ) (r s : Text) → percent b ++ r ≡ percent c ++ s → (b ≡ c) × (r ≡ s)
first_injective b c r s e = ⊎_elim
    (λ (f : percent b ≡ 37 ∷ two_digits 55 b). ⊎_elim
    (λ (g : percent c ≡ 37 ∷ two_digits 55 c).
    let both : 37 ∷ two_digits 55 b ++ r ≡ 37 ∷ two_digits 55 c ++ s = ap (λ (x : Text). x ++ r) (sym f) ∙ e ∙ ap (λ (x : Text). x ++ s) g in
    two_injective 55 b c r s (omega arith) (cc))
    (λ (g : (33 ≤ c) × (c ≢ 37) × (percent c ≡ c ∷ [])). absurd (
    let both : 37 ∷ two_digits 55 b ++ r ≡ c ∷ s = ap (λ (x : Text). x ++ r) (sym f) ∙ e ∙ ap (λ (x : Text). x ++ s) g.2 in
    g.1 (cc)))
    (percent_cases c))
    (λ (f : (33 ≤ b) × (b ≢ 37) × (percent b ≡ b ∷ [])). ⊎_elim
    (λ (g : percent c ≡ 37 ∷ two_digits 55 c). absurd (
    let both : b ∷ r ≡ 37 ∷ two_digits 55 c ++ s = ap (λ (x : Text). x ++ r) (sym f.2) ∙ e ∙ ap (λ (x : Text). x ++ s) g in
    f.1 (cc)))
    (λ (g : (33 ≤ c) × (c ≢ 37) × (percent c ≡ c ∷ [])).
    let both : b ∷ r ≡ c ∷ s = ap (λ (x : Text). x ++ r) (sym f.2) ∙ e ∙ ap (λ (x : Text). x ++ s) g.2 in
    (cc, cc))
    (percent_cases c))
    (percent_cases b)

not_empty : (b : ℕ) (r : Text) → [] ≡ percent b ++ r → ⊥
not_empty b r e = ⊎_elim
    (λ (f : percent b ≡ 37 ∷ two_digits 55 b). let clash : [] ≡ 37 ∷ two_digits 55 b ++ r = e ∙ ap (λ (x : Text). x ++ r) f in cc)
    (λ (f : (33 ≤ b) × (b ≢ 37) × (percent b ≡ b ∷ [])). let clash : [] ≡ b ∷ r = e ∙ ap (λ (x : Text). x ++ r) f.2 in cc)
    (percent_cases b)

pub name_injective : (n m : Name) → flat_map percent n ≡ flat_map percent m → n ≡ m
name_injective [] [] e = refl
name_injective [] (c ∷ m) e = absurd (not_empty c (flat_map percent m) e)
name_injective (b ∷ n) [] e = absurd (not_empty b (flat_map percent n) (sym e))
name_injective (b ∷ n) (c ∷ m) e =
    let first : (b ≡ c) × (flat_map percent n ≡ flat_map percent m) = first_injective b c (flat_map percent n) (flat_map percent m) e in
    let rest : n ≡ m = name_injective n m first.1 in
    cc (first.0, rest)

-- ---- slashes

-- no byte is a slash
abbrev pub Slashless : Text → Type 0
Slashless [] = Unit {0}
Slashless (x ∷ xs) = (x ≢ 47) × Slashless xs

slashless-append : (xs ys : Text) → Slashless xs → Slashless ys → Slashless (xs ++ ys)
slashless-append [] ys v w = w
slashless-append (x ∷ xs) ys v w = (v.0, slashless-append xs ys v.1 w)

two_slashless : (l b : ℕ) → 48 ≤ l → Slashless (two_digits l b)
two_slashless l b h =
    let high : 48 ≤ digit l (b / 16) = digit_from l (b / 16) h in
    let low : 48 ≤ digit l (b % 16) = digit_from l (b % 16) h in
    (omega arith, (omega arith, tt))

percent_slashless : (b : ℕ) → b ≢ 47 → Slashless (percent b)
percent_slashless b ne = ⊎_elim
    (λ (f : percent b ≡ 37 ∷ two_digits 55 b). subst Slashless (sym f) (omega arith, two_slashless 55 b (omega arith)))
    (λ (f : (33 ≤ b) × (b ≢ 37) × (percent b ≡ b ∷ [])). subst Slashless (sym f.2) (ne, tt))
    (percent_cases b)

pub name_slashless : (n : Name) → Slashless n → Slashless (flat_map percent n)
name_slashless [] v = tt
name_slashless (b ∷ n) v = slashless-append (percent b) (flat_map percent n) (percent_slashless b v.0) (name_slashless n v.1)

-- a text without a slash has none in it
pub no_slash : (xs ys zs : Text) → Slashless xs → xs ≡ ys ++ 47 ∷ zs → ⊥
no_slash [] [] zs v e = cc
no_slash [] (y ∷ ys) zs v e = cc
no_slash (x ∷ xs) [] zs v e = v.0 (cc)
no_slash (x ∷ xs) (y ∷ ys) zs v e = no_slash xs ys zs v.1 (cc)
