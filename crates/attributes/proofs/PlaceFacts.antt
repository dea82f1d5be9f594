-- Escaped names and paths, and their keys.
use Rattle.std.proofs.Common.{◌≡◌, ◌≢◌, ◌⊎◌, ⊎_elim, inl, inr, ℕ, ◌<◌, ◌≤◌, List, [], ◌∷◌, ◌++◌, length, map, true, false, cond, ◌==◌, nat_le, codes, refl, sym, ap, subst, ◌∙◌, arith, rules, append_assoc, Ok, Err}
use Rattle.std.specs.List.{list_all}
use Rattle.std.proofs.lemmas.Bool.{and_parts, and_from, eqb-true, eqb-false}
use Rattle.std.proofs.lemmas.Bool.Decides.{nat_tests}
use Rattle.pathkey.specs.Names.{Name, Path, IsName, EachName, IsPath, text_len}
use Rattle.pathkey.specs.Enc.{enc}
use Rattle.pathkey.proofs.KeyFacts.{peel}
use Rattle.pathkey.proofs.Pieces.{not_empty}
use Rattle.pathkey.specs.declared.errno.Errno.TheVariants.{ENAMETOOLONG}
use Rattle.attributes.specs.Places.{reserved, escaped, record_dir, record_path, fits, fitting, is_reserved, placed, IsPlainName, HasPlainNames}

-- ---- names

escaped_cases : (b : ℕ) (n : Name) → ((b ≡ 1) × (escaped (b ∷ n) ≡ 1 ∷ b ∷ n)) ⊎ ((b ≢ 1) × (escaped (b ∷ n) ≡ b ∷ n))
escaped_cases b n = elim (b == 1) as (λ t. (b == 1) ≡ t → ((b ≡ 1) × (cond t (1 ∷ b ∷ n) (b ∷ n) ≡ 1 ∷ b ∷ n)) ⊎ ((b ≢ 1) × (cond t (1 ∷ b ∷ n) (b ∷ n) ≡ b ∷ n))) [
  | true ↦ λ e. inl (eqb-true b 1 e, refl)
  | false ↦ λ e. inr (eqb-false b 1 e, refl)
] refl

-- only the empty name is escaped to the empty name, and no name to the byte 1 alone
not_nothing : (b : ℕ) (n : Name) → escaped (b ∷ n) ≡ [] → ⊥
not_nothing b n e = ⊎_elim
    (λ (f : (b ≡ 1) × (escaped (b ∷ n) ≡ 1 ∷ b ∷ n)). let g : 1 ∷ b ∷ n ≡ [] = sym f.1 ∙ e in cc)
    (λ (f : (b ≢ 1) × (escaped (b ∷ n) ≡ b ∷ n)). let g : b ∷ n ≡ [] = sym f.1 ∙ e in cc)
    (escaped_cases b n)

not_the_mark : (n : Name) → escaped n ≡ 1 ∷ [] → ⊥
not_the_mark [] e = cc
not_the_mark (b ∷ n) e = ⊎_elim
    (λ (f : (b ≡ 1) × (escaped (b ∷ n) ≡ 1 ∷ b ∷ n)). let g : 1 ∷ b ∷ n ≡ 1 ∷ [] = sym f.1 ∙ e in cc)
    (λ (f : (b ≢ 1) × (escaped (b ∷ n) ≡ b ∷ n)). let g : b ∷ n ≡ 1 ∷ [] = sym f.1 ∙ e in f.0 (cc))
    (escaped_cases b n)

escaped_once : (n m : Name) → escaped n ≡ escaped m → n ≡ m
escaped_once [] [] e = refl
escaped_once [] (c ∷ m) e = absurd (not_nothing c m (sym e))
escaped_once (b ∷ n) [] e = absurd (not_nothing b n e)
escaped_once (b ∷ n) (c ∷ m) e = ⊎_elim
    (λ (f : (b ≡ 1) × (escaped (b ∷ n) ≡ 1 ∷ b ∷ n)). ⊎_elim
    (λ (g : (c ≡ 1) × (escaped (c ∷ m) ≡ 1 ∷ c ∷ m)). let h : 1 ∷ b ∷ n ≡ 1 ∷ c ∷ m = sym f.1 ∙ e ∙ g.1 in cc)
    (λ (g : (c ≢ 1) × (escaped (c ∷ m) ≡ c ∷ m)). let h : 1 ∷ b ∷ n ≡ c ∷ m = sym f.1 ∙ e ∙ g.1 in absurd (g.0 (cc)))
    (escaped_cases c m))
    (λ (f : (b ≢ 1) × (escaped (b ∷ n) ≡ b ∷ n)). ⊎_elim
    (λ (g : (c ≡ 1) × (escaped (c ∷ m) ≡ 1 ∷ c ∷ m)). let h : b ∷ n ≡ 1 ∷ c ∷ m = sym f.1 ∙ e ∙ g.1 in absurd (f.0 (cc)))
    (λ (g : (c ≢ 1) × (escaped (c ∷ m) ≡ c ∷ m)). sym f.1 ∙ e ∙ g.1)
    (escaped_cases c m))
    (escaped_cases b n)

-- ---- paths

pub mirrored_once : (p q : Path) → map escaped p ≡ map escaped q → p ≡ q
mirrored_once [] [] e = refl
mirrored_once [] (m ∷ q) e = absurd (cc)
mirrored_once (n ∷ p) [] e = absurd (cc)
mirrored_once (n ∷ p) (m ∷ q) e =
    let first : n ≡ m = escaped_once n m (cc) in
    let rest : p ≡ q = mirrored_once p q (cc) in
    cc (first, rest)

pub recorded_once : (p q : Path) → map escaped p ++ (1 ∷ []) ∷ [] ≡ map escaped q ++ (1 ∷ []) ∷ [] → p ≡ q
recorded_once [] [] e = refl
recorded_once [] (m ∷ q) e = absurd (not_the_mark m (cc))
recorded_once (n ∷ p) [] e = absurd (not_the_mark n (cc))
recorded_once (n ∷ p) (m ∷ q) e =
    let first : n ≡ m = escaped_once n m (cc) in
    let rest : p ≡ q = recorded_once p q (cc) in
    cc (first, rest)

pub not_below : (p q r : Path) → map escaped q ≡ (map escaped p ++ (1 ∷ []) ∷ []) ++ r → ⊥
not_below [] [] r e = cc
not_below [] (m ∷ q) r e = not_the_mark m (cc)
not_below (n ∷ p) [] r e = cc
not_below (n ∷ p) (m ∷ q) r e = not_below p q r (cc)

-- ---- which escaped paths are paths

plain_escaped : (n : Name) → IsName n → IsPlainName (escaped n)
plain_escaped [] h = absurd (let some : 0 < 0 = h.some in omega arith)
plain_escaped (b ∷ n) h = ⊎_elim
    (λ (f : (b ≡ 1) × (escaped (b ∷ n) ≡ 1 ∷ b ∷ n)). subst IsPlainName (sym f.1) (record {
      some = omega arith;
      bytes = (omega arith, omega arith, (λ e. omega arith), h.bytes);
      not_dot = λ e. cc;
      not_dots = λ e. cc;
    }))
    (λ (f : (b ≢ 1) × (escaped (b ∷ n) ≡ b ∷ n)). subst IsPlainName (sym f.1) (record { some = h.some; bytes = h.bytes; not_dot = h.not_dot; not_dots = h.not_dots }))
    (escaped_cases b n)

plain_reserved : IsPlainName reserved
plain_reserved = record { some = omega arith; bytes = search rules; not_dot = λ e. cc; not_dots = λ e. cc }

plain_tree : IsPlainName (codes "tree")
plain_tree = record { some = omega arith; bytes = search rules; not_dot = λ e. cc; not_dots = λ e. cc }

plain_names : (p : Path) → EachName p → HasPlainNames (map escaped p)
plain_names [] h = tt
plain_names (n ∷ p) h = (plain_escaped n h.0, plain_names p h.1)

plain_with_mark : (p : Path) → EachName p → HasPlainNames (map escaped p ++ (1 ∷ []) ∷ [])
plain_with_mark [] h = (record { some = omega arith; bytes = search rules; not_dot = λ e. cc; not_dots = λ e. cc }, tt)
plain_with_mark (n ∷ p) h = (plain_escaped n h.0, plain_with_mark p h.1)

pub plain_mirror : (p : Path) → EachName p → HasPlainNames (record_dir p)
plain_mirror p h = (plain_reserved, (plain_tree, plain_names p h))

pub plain_record : (p : Path) → EachName p → HasPlainNames (record_path p)
plain_record p h = (plain_reserved, (plain_tree, plain_with_mark p h))

short_names : (q : Path) → HasPlainNames q → list_all (λ n. nat_le (length n) 255) q ≡ true → EachName q
short_names [] h e = tt
short_names (n ∷ q) h e =
    let both : (nat_le (length n) 255 ≡ true) × (list_all (λ n. nat_le (length n) 255) q ≡ true) = and_parts _ _ e in
    let short : length n ≤ 255 = grind (arith, nat_tests, both.0) in
    (record { some = h.0.some; fits = short; bytes = h.0.bytes; not_dot = h.0.not_dot; not_dots = h.0.not_dots }, short_names q h.1 both.1)

names_short : (q : Path) → EachName q → list_all (λ n. nat_le (length n) 255) q ≡ true
names_short [] h = refl
names_short (n ∷ q) h =
    let short : length n ≤ 255 = h.0.fits in
    let test : nat_le (length n) 255 ≡ true = grind (arith, nat_tests) in
    and_from _ _ test (names_short q h.1)

pub path_from_fits : (q : Path) → HasPlainNames q → fits q ≡ true → IsPath q
path_from_fits q h e =
    let both : (list_all (λ n. nat_le (length n) 255) q ≡ true) × (nat_le (text_len q) 1023 ≡ true) = and_parts _ _ e in
    let short : text_len q ≤ 1023 = grind (arith, nat_tests, both.1) in
    record { names = short_names q h both.0; fits = short }

pub fits_from_path : (q : Path) → IsPath q → fits q ≡ true
fits_from_path q h =
    let short : text_len q ≤ 1023 = h.fits in
    let test : nat_le (text_len q) 1023 ≡ true = grind (arith, nat_tests) in
    and_from _ _ (names_short q h.names) test

-- ---- keys

pub one_path : (p q : Path) → HasPlainNames p → EachName q → enc p ≡ enc q → p ≡ q
one_path [] [] h k e = refl
one_path [] (m ∷ q) h k e = absurd (not_empty m (enc q) 0 (sym e))
one_path (n ∷ p) [] h k e = absurd (not_empty n (enc p) 0 e)
one_path (n ∷ p) (m ∷ q) h k e =
    let both = peel n m (enc p) (enc q) h.0.bytes k.0.bytes e in
    let rest : p ≡ q = one_path p q h.1 k.1 both.1 in
    cc (both.0, rest)

pub fitting_some : (p q : Path) (key : List ℕ) → HasPlainNames p → key ≡ enc p → IsPath q × (enc q ≡ key) → Ok q ≡ fitting p
fitting_some p q key plain is found =
    let same : p ≡ q = one_path p q plain found.0.names (sym is ∙ sym found.1) in
    let test : fits p ≡ true = subst (λ (r : Path). fits r ≡ true) (sym same) (fits_from_path q found.0) in
    rw test (ap Ok (sym same))

pub fitting_none : (p : Path) (key : List ℕ) → HasPlainNames p → key ≡ enc p → ((q : Path) → IsPath q → enc q ≢ key) → Err ENAMETOOLONG ≡ fitting p
fitting_none p key plain is none = elim (fits p) as (λ t. fits p ≡ t → Err ENAMETOOLONG ≡ fitting p) [
  | true ↦ λ e. absurd (none p (path_from_fits p plain e) (sym is))
  | false ↦ λ e. rw e refl
] refl

pub placed_fitting : (p q : Path) → is_reserved p ≡ false → placed p q ≡ fitting q
placed_fitting p q e = rw e refl

-- one name more
pub name_more : (key name rest : List ℕ) → key ++ (name ++ 0 ∷ rest) ≡ (key ++ (name ++ 0 ∷ [])) ++ rest
name_more key name rest = ap (λ t. key ++ t) (sym (append_assoc name (0 ∷ []) rest)) ∙ sym (append_assoc key (name ++ 0 ∷ []) rest)

pub slash_more : (text name rest : List ℕ) → text ++ (47 ∷ name ++ rest) ≡ ((text ++ 47 ∷ []) ++ name) ++ rest
slash_more text name rest = sym (append_assoc (text ++ 47 ∷ []) name rest ∙ append_assoc text (47 ∷ []) (name ++ rest))
