-- Words as they are written, read back.
use Rattle.std.proofs.Common.{◌≡◌, ◌≢◌, ⊎_elim, ℕ, ◌/◌, ◌%◌, ◌^◌, ◌<◌, ◌≤◌, List, [], ◌∷◌, ◌++◌, length, get_or, true, false, cond, ◌==◌, ◌&&◌, nat_lt, refl, sym, ap, ◌∙◌, arith, append_assoc, Some, Ok, decimal, flat_map, codes, All}
use Rattle.std.specs.Prelude.{bytes_eq}
use Rattle.std.specs.List.{list_all}
use Rattle.std.specs.Char.{is_ascii_digit}
use Rattle.std.specs.Str.Parse.{digits_value}
use Rattle.std.proofs.lemmas.Bool.{lt-ltb, cases_lt, eqb-true}
use Rattle.std.proofs.lemmas.Fmt.{decimal_digit, first_decimal, digits_decimal, digits_value-decimal}
use Rattle.std.proofs.lemmas.List.{get_or_past}
use Rattle.std.proofs.lemmas.List.Elements.{All-cons, All-from_recursion, All-get_or, All-nil}
use Rattle.hex.specs.Hex.{decode_of, IsBytes}
use Rattle.hex.proofs.HexLemmas.{decode_of-encode_lower}
use Rattle.percent_encoding.specs.Percent.{percent_decode, percent_encode_byte}
use Rattle.percent_encoding.proofs.PercentLemmas.{percent_decode-nil, percent_decode-percent_encode_byte, percent_decode_not_percent}
use Rattle.pathkey.specs.Heads.{AreBytes}
use Rattle.pathkey.specs.Names.{Name, Path, IsPath, EachName, HasNameBytes}
use Rattle.pathkey.specs.Texts.{parsed, slashed}
use Rattle.pathkey.proofs.TextFacts.{read_back}
use Rattle.reference.specs.Image.{Text, digit, path_text, percent, two_digits}
use Rattle.reference.proofs.ImageTexts.{Visible, hex_visible, percent_cases}
use Rattle.textio.specs.Texts.{hex_text}
use Rattle.textio.specs.Values.{bytes_of, is_decimal, number_of, path_of}
use Rattle.textio.proofs.HexFacts.{encoded}
use Rattle.textio.proofs.ValueFacts.{bytes_decoded, own}

-- ---- numbers

not_led : (ds : Text) → 48 < get_or ds 0 0 → list_all is_ascii_digit ds ≡ true → is_decimal ds ≡ true
not_led [] h g = absurd (omega arith)
not_led (d ∷ ds) h g = elim (d == 48) as (λ b. (d == 48) ≡ b → cond b (length (d ∷ ds) == 1) (list_all is_ascii_digit (d ∷ ds)) ≡ true) [
  | true ↦ λ e. absurd (let f : d ≡ 48 = eqb-true d 48 e in omega arith)
  | false ↦ λ e. g
] refl

written_decimal : (n : ℕ) → n < 2 ^ 64 → is_decimal (decimal n) ≡ true
written_decimal n h = ⊎_elim
    (λ (z : 0 < n). not_led (decimal n) (first_decimal n z h) (digits_decimal own n h))
    (λ (z : n ≤ 0). ap is_decimal (ap decimal (let e : n ≡ 0 = omega arith in e) ∙ decimal_digit 0 (omega arith)))
    (cases_lt 0 n)

-- the number that a word writes
pub number_reported : (word : Text) (n : ℕ) → n < 2 ^ 64 → word ≡ decimal n → number_of word ≡ Some n
number_reported word n h e =
    let value : digits_value 10 (decimal n) ≡ n = digits_value-decimal own n h in
    let within : nat_lt (digits_value 10 (decimal n)) (2 ^ 64) ≡ true = lt-ltb _ _ (omega arith) in
    ap number_of e ∙ rw (written_decimal n h, within) (ap Some value)

-- ---- names

escaped_byte : (b : ℕ) → b < 256 → 37 ∷ two_digits 55 b ≡ percent_encode_byte b
unfolding percent_encode_byte
escaped_byte b h = ap (λ (d : ℕ). 37 ∷ digit 55 d ∷ digit 55 (b % 16) ∷ []) (let e : b / 16 ≡ b / 16 % 16 = omega arith in e)

decode_byte : (b : ℕ) (rest : Text) → b < 256 → percent_decode (percent b ++ rest) ≡ b ∷ percent_decode rest
decode_byte b rest h = ⊎_elim
    (λ (f : percent b ≡ 37 ∷ two_digits 55 b). ap (λ (t : Text). percent_decode (t ++ rest)) (f ∙ escaped_byte b h) ∙ percent_decode-percent_encode_byte b rest h)
    (λ (f : (33 ≤ b) × (b ≢ 37) × (percent b ≡ b ∷ [])). ap (λ (t : Text). percent_decode (t ++ rest)) f.2 ∙ percent_decode_not_percent b rest f.1)
    (percent_cases b)

-- the name that a word writes in percent form
pub name_reported : (n : List ℕ) → AreBytes n → percent_decode (flat_map percent n) ≡ n
name_reported [] h = percent_decode-nil
name_reported (b ∷ n) h = decode_byte b (flat_map percent n) h.0 ∙ ap (λ (t : Text). b ∷ t) (name_reported n h.1)

-- ---- paths

decode_name : (n : Name) (rest : Text) → HasNameBytes n → percent_decode (flat_map percent n ++ rest) ≡ n ++ percent_decode rest
decode_name [] rest h = refl
decode_name (b ∷ n) rest h =
    ap percent_decode (append_assoc (percent b) (flat_map percent n) rest)
    ∙ decode_byte b (flat_map percent n ++ rest) h.1
    ∙ ap (λ (t : Text). b ∷ t) (decode_name n rest h.3)

decode_path : (p : Path) → EachName p → percent_decode (path_text p) ≡ slashed p
decode_path [] h = percent_decode-nil
decode_path (n ∷ p) h =
    percent_decode_not_percent 47 (flat_map percent n ++ path_text p) (λ e. omega arith)
    ∙ ap (λ (t : Text). 47 ∷ t) (decode_name n (path_text p) h.0.bytes ∙ ap (λ (t : Text). n ++ t) (decode_path p h.1))

-- the path whose names a word writes
pub path_read : (p : Path) → IsPath p → p ≢ [] → path_of (path_text p) ≡ Ok p
path_read [] h ne = absurd (ne refl)
path_read (n ∷ p) h ne = ap parsed (decode_path (n ∷ p) h.names) ∙ read_back (n ∷ p) h

-- a slash is the root
pub root_read : path_of (47 ∷ []) ≡ Ok []
root_read = ap parsed (percent_decode_not_percent 47 [] (λ e. omega arith) ∙ ap (λ (t : Text). 47 ∷ t) percent_decode-nil)

-- ---- bytes

are_small : (b : List ℕ) → AreBytes b → IsBytes b
are_small b h = λ i. ⊎_elim
    (λ (l : i < length b). All-get_or (λ x. x < 256) b i 0 l (All-from_recursion (λ x. x < 256) b h))
    (λ (g : length b ≤ i). let e : get_or b i 0 ≡ 0 = get_or_past b i 0 g in omega arith)
    (cases_lt i (length b))

-- the bytes of two digits each
pub digits_reported : (v : List ℕ) → AreBytes v → decode_of (flat_map (two_digits 87) v) ≡ Ok v
digits_reported v h = ap decode_of (sym (encoded v h)) ∙ decode_of-encode_lower v (are_small v h)

-- the bytes that a word writes in hexadecimal
pub bytes_reported : (v : List ℕ) → AreBytes v → Some v ≡ bytes_of (hex_text v)
bytes_reported [] h = refl
bytes_reported (b ∷ v) h = bytes_decoded (flat_map (two_digits 87) (b ∷ v)) (b ∷ v) (no_dash (digit 87 (b / 16)) (digit 87 (b % 16)) (flat_map (two_digits 87) v)) (omega arith) (digits_reported (b ∷ v) h)
  where
    no_dash : (x y : ℕ) (l : Text) → bytes_eq (x ∷ y ∷ l) (codes "-") ≡ false
    no_dash x y l = elim (x == 45) as (λ t. (t && false) ≡ false) [ true ↦ refl | false ↦ refl ]

-- ---- no space and no line feed

pub hex_text_visible : (v : List ℕ) → Visible (hex_text v)
hex_text_visible [] = (omega arith, tt)
hex_text_visible (b ∷ v) = hex_visible (b ∷ v)

-- visible bytes are none below them
pub all_visible : (s : ℕ) (xs : Text) → s < 33 → Visible xs → All (λ b. b ≢ s) xs
all_visible s [] low v = All-nil (λ b. b ≢ s)
all_visible s (x ∷ xs) low v = All-cons (λ b. b ≢ s) x xs (λ e. let far : 33 ≤ x = v.0 in omega arith) (all_visible s xs low v.1)
