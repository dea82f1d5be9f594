-- Words that write numbers and bytes.
use Rattle.std.proofs.Common.{◌≡◌, ◌≢◌, ℕ, ◌+◌, ◌-◌, ◌*◌, ◌%◌, ◌^◌, ◌<◌, ◌≤◌, nat_lt, take, add-one, sym, ◌∙◌, List, [], ◌∷◌, length, ◌==◌, true, false, refl, ap, inl, inr, arith, rules, codes, get_or, Some, Result, Ok, Err}
use Rattle.std.specs.Prelude.{bytes_eq, is_some}
use Rattle.std.specs.List.{list_all, AllByRecursion}
use Rattle.std.specs.Char.{is_ascii_digit, is_ascii_hexdigit, digit_value}
use Rattle.std.specs.Int.{IsInRange}
use Rattle.std.proofs.lemmas.Str.{digit_value_digit}
use Rattle.std.proofs.lemmas.Int.Digits.{digits_value_more}
use Rattle.std.proofs.lemmas.List.Folds.{list_all_more}
use native.Mathlib.Nat.{pow-le-pow_right, pow-suc}
use Rattle.std.specs.Result.{OkIff, result_ok}
use Rattle.std.specs.Str.{IsAscii, IsUtf8}
use Rattle.std.specs.Str.Parse.{ParsesUnsigned, digits_value}
use Rattle.std.proofs.lemmas.Bool.{and_parts, and_from, cases_lt, lt-ltb, le-ltb, eqb-true}
use Rattle.std.proofs.lemmas.List.Sums.{AllPass-from_list_all, list_all-from_AllPass}
use Rattle.std.proofs.lemmas.Str.{IsUtf8-from_ascii}
use Rattle.std.proofs.lemmas.Str.Ascii.{IsAscii-nil, IsAscii-cons}
use Rattle.std.proofs.lemmas.Str.Parse.{IsNumeralModel, numerals_by_value, parse_digits}
use Rattle.std.proofs.lemmas.Bool.Decides.{nat_tests}
use Rattle.hex.specs.Hex.{decode_of, is_hex_digit}
use Rattle.hex.proofs.HexLemmas.{decode_of-digits, decode_of-ok}
use Rattle.percent_encoding.specs.Percent.{percent_decode}
use Rattle.percent_encoding.proofs.PercentLemmas.{percent_decode-nil, percent_decode_not_percent}
use Rattle.pathkey.specs.Texts.{parsed}
use Rattle.pathkey.specs.PlainTexts.{is_plain}
use Rattle.pathkey.proofs.PlainFacts.{lacks_percent}
use Rattle.textio.specs.Values.{bytes_of, is_hex, number_of_digits, path_of}

-- ---- numbers

pub own : IsNumeralModel (λ ds. list_all is_ascii_digit ds ≡ true) (digits_value 10)
own = numerals_by_value _ (search rules)

small_digit : (d : ℕ) → is_ascii_digit d ≡ true → d < 128
small_digit d h = grind (arith, nat_tests)

digits_ascii : (word : List ℕ) → list_all is_ascii_digit word ≡ true → IsAscii word
digits_ascii [] h = IsAscii-nil
digits_ascii (d ∷ ds) h =
    let both = and_parts _ _ h in
    IsAscii-cons d ds (small_digit d both.0) (digits_ascii ds both.1)

-- and so they are UTF-8
pub digits_utf8 : (word : List ℕ) → list_all is_ascii_digit word ≡ true → IsUtf8 word
digits_utf8 word h = IsUtf8-from_ascii word (digits_ascii word h)

-- what `parse` answers for digits is their number
pub number_parsed : {E : Type 0} (word : List ℕ) (r : Result ℕ E) → 0 < length word → list_all is_ascii_digit word ≡ true → ParsesUnsigned 64 10 word r → result_ok r ≡ number_of_digits word
number_parsed {E} word r some digits parses = go r (parse_digits own 64 word r parses digits)
  where
    go : (s : Result ℕ E) → OkIff s ((0 < length word) × (digits_value 10 word < 2 ^ 64)) (digits_value 10 word) → result_ok s ≡ number_of_digits word
    go (Ok n) (fits, is) =
        let within : nat_lt (digits_value 10 word) (2 ^ 64) ≡ true = lt-ltb _ _ fits.1 in
        rw (digits, within) (ap Some is)
    go (Err e) never = elim (cases_lt (digits_value 10 word) (2 ^ 64)) [
      | inl fits ↦ absurd (never (some, fits))
      | inr past ↦
          let beyond : nat_lt (digits_value 10 word) (2 ^ 64) ≡ false = le-ltb _ _ past in
          rw (digits, beyond) refl
    ]

-- so few digits write a number that is not too large
below_so_few : (i n : ℕ) → i ≤ 19 → n < 10 ^ i → n < 10 ^ 19
below_so_few i n few h = let top : 10 ^ i ≤ 10 ^ 19 = pow-le-pow_right {n = 10} (omega arith) few in omega arith

pub few_digits : (ds : List ℕ) (n : ℕ) → length ds ≤ 19 → list_all is_ascii_digit ds ≡ true → n ≡ digits_value 10 ds → n < 10 ^ length ds → Some n ≡ number_of_digits ds
few_digits ds n few digits is below =
    let small : n < 10 ^ 19 = below_so_few (length ds) n few below in
    let within : nat_lt (digits_value 10 ds) (2 ^ 64) ≡ true = lt-ltb _ _ (omega arith) in
    rw (digits, within) (ap Some is)

-- a digit, as a byte and as what it is worth
digit_range : (d : ℕ) → is_ascii_digit d ≡ true → IsInRange 48 57 d
digit_range d h = grind (arith, nat_tests)

pub digit_worth : (d : ℕ) → is_ascii_digit d ≡ true → (48 ≤ d) × (d ≤ 57) × (digit_value d ≡ d - 48)
digit_worth d h =
    let range : IsInRange 48 57 d = digit_range d h in
    (range.0, range.1, (omega (arith, digit_value_digit d range)))

-- the number with one more of so few digits is not too large
pub one_more_fits : (i n d : ℕ) → i < 19 → n < 10 ^ i → is_ascii_digit d ≡ true → n * 10 + (d - 48) < 10 ^ 19
one_more_fits i n d few h digit =
    let room : i ≤ 18 = omega arith in
    let top : 10 ^ i ≤ 10 ^ 18 = pow-le-pow_right {n = 10} (omega arith) room in
    let worth = digit_worth d digit in
    omega (arith, worth.0, worth.1)

-- and is below the power of ten with that many digits
pub one_more_below : (i n d : ℕ) → n < 10 ^ i → is_ascii_digit d ≡ true → n * 10 + (d - 48) < 10 ^ (i + 1)
one_more_below i n d h digit =
    let worth = digit_worth d digit in
    omega (arith, worth.0, worth.1, ap (λ (k : ℕ). 10 ^ k) (add-one i), pow-suc 10 i)

-- the number of the digits up to a place, and of one more
pub one_more_value : (ds : List ℕ) (i n : ℕ) → i < length ds → is_ascii_digit (get_or ds i 0) ≡ true → n ≡ digits_value 10 (take i ds)
    → n * 10 + (get_or ds i 0 - 48) ≡ digits_value 10 (take (i + 1) ds)
one_more_value ds i n h digit is =
    ap (λ (v : ℕ). v * 10 + (get_or ds i 0 - 48)) is
    ∙ ap (λ (d : ℕ). digits_value 10 (take i ds) * 10 + d) (sym (digit_worth (get_or ds i 0) digit).2)
    ∙ sym (digits_value_more 10 ds i h)

pub one_more_digit : (ds : List ℕ) (i : ℕ) → i < length ds → is_ascii_digit (get_or ds i 0) ≡ true → list_all is_ascii_digit (take i ds) ≡ true
    → list_all is_ascii_digit (take (i + 1) ds) ≡ true
one_more_digit ds i h digit all = list_all_more is_ascii_digit ds i 0 h ∙ and_from _ _ all digit

-- ---- bytes

hex_digit : (c : ℕ) → is_ascii_hexdigit c ≡ true → is_hex_digit c ≡ true
hex_digit c h = grind (arith, nat_tests)

-- a word of digits decodes
pub hex_decodes : (word : List ℕ) → is_hex word ≡ true → is_some (result_ok (decode_of word)) ≡ true
hex_decodes word h =
    let parts = and_parts _ _ h in
    let even : length word % 2 ≡ 0 = eqb-true _ _ (and_parts _ _ parts.0).1 in
    let digits = AllPass-from_list_all is_ascii_hexdigit word parts.1 in
    let (bytes, is) = decode_of-digits word even (λ k d lt. hex_digit (get_or word k d) (digits k d lt)) in
    rw is refl

hex_digit_of : (c : ℕ) → is_hex_digit c ≡ true → is_ascii_hexdigit c ≡ true
hex_digit_of c h = grind (arith, nat_tests)

-- a word that decodes to bytes is digits, and not empty if there are bytes
pub decoded_is_hex : (word bytes : List ℕ) → 0 < length word → decode_of word ≡ Ok bytes → is_hex word ≡ true
decoded_is_hex word bytes some is =
    let ok = decode_of-ok word bytes is in
    let even : (length word % 2 == 0) ≡ true = rw ok.0 refl in
    let digits = list_all-from_AllPass is_ascii_hexdigit word (λ k d lt. hex_digit_of (get_or word k d) (ok.1 k d lt)) in
    and_from _ _ (and_from _ _ (lt-ltb _ _ some) even) digits

-- the bytes of a word that decodes
pub bytes_decoded : (word bytes : List ℕ) → bytes_eq word (codes "-") ≡ false → 0 < length word → decode_of word ≡ Ok bytes → Some bytes ≡ bytes_of word
bytes_decoded word bytes other some is = rw (other, decoded_is_hex word bytes some is, is) refl

pub has_bytes : (word bytes : List ℕ) → Some bytes ≡ bytes_of word → is_some (bytes_of word) ≡ true
has_bytes word bytes is = rw (← is) refl

-- a word of digits writes bytes
pub writes : (word : List ℕ) → bytes_eq word (codes "-") ≡ false → is_hex word ≡ true → is_some (bytes_of word) ≡ true
writes word other is = rw (other, is) (hex_decodes word is)

-- ---- paths
-- a text without a percent sign is its own percent form
pub decoded_itself : (text : List ℕ) → AllByRecursion (λ b. b ≢ 37) text → percent_decode text ≡ text
decoded_itself [] h = percent_decode-nil
decoded_itself (b ∷ text) h = percent_decode_not_percent b text h.0 ∙ ap (λ (rest : List ℕ). b ∷ rest) (decoded_itself text h.1)

-- so a plain text is parsed without decoding
pub plain_path : (text : List ℕ) → is_plain text ≡ true → path_of text ≡ parsed text
plain_path text h = ap parsed (decoded_itself text (lacks_percent text h))
