-- Numbers and digests as words of a line.
use Rattle.std.proofs.Common.{◌≡◌, ◌≢◌, ⊎_elim, ℕ, ◌^◌, ◌<◌, ◌≤◌, nat_lt, ◌&&◌, List, [], ◌∷◌, length, ◌==◌, true, false, Bool, cond, refl, sym, ap, subst, ◌∙◌, arith, decimal, get_or, Some, None, Option, Result, Ok}
use Rattle.std.specs.Prelude.{bytes_eq, not}
use Rattle.std.proofs.lemmas.Slice.Eq.{bytes_eq-Decides}
use Rattle.std.specs.Bool.{Decides}
use Rattle.std.specs.List.{list_all}
use Rattle.std.specs.Char.{is_ascii_digit}
use Rattle.std.specs.Str.Parse.{digits_value}
use Rattle.std.proofs.lemmas.Bool.{cases_lt, lt-ltb, ltb-true, eqb-true, ne_eqb, false≢true}
use Rattle.std.proofs.lemmas.Fmt.{decimal-digits_value, decimal_nonempty, digits_decimal, digits_value-decimal, first_decimal}
use Rattle.std.proofs.lemmas.List.{get_or_past}
use Rattle.std.proofs.lemmas.List.Elements.{All-get_or}
use Rattle.hex.specs.Hex.{IsBytes, decode_sized, encode_lower}
use Rattle.hex.specs.declared.error.FromHexError.{FromHexError}
use Rattle.hex.proofs.HexLemmas.{decode_sized-encode_lower}
use Rattle.reference.specs.Shape.{AreBytes}
use Rattle.textio.specs.Values.{is_decimal, number_of}
use Rattle.textio.proofs.ValueFacts.{own}
use Rattle.edits.proofs.WordFacts.{Decodes, decoded_as, decoded_digest}
use Rattle.delta.specs.Deltas.{IsDigest}

-- ---- numbers

-- a decimal word is digits
decimal_digits : (word : List ℕ) → is_decimal word ≡ true → list_all is_ascii_digit word ≡ true
decimal_digits [] h = absurd (false≢true h)
decimal_digits (d ∷ ds) h = go (d == 48) refl h
  where
    one : (l : List ℕ) → d ≡ 48 → length (d ∷ l) ≡ 1 → list_all is_ascii_digit (d ∷ l) ≡ true
    one [] zero n = rw zero refl
    one (x ∷ l) zero n = absurd (omega arith)

    go : (b : Bool) → (d == 48) ≡ b → cond b (length (d ∷ ds) == 1) (list_all is_ascii_digit (d ∷ ds)) ≡ true → list_all is_ascii_digit (d ∷ ds) ≡ true
    go true e k = one ds (eqb-true d 48 e) (eqb-true (length (d ∷ ds)) 1 k)
    go false e k = k

decimal_some : (word : List ℕ) → is_decimal word ≡ true → 0 < length word
decimal_some [] h = absurd (false≢true h)
decimal_some (d ∷ ds) h = omega arith

-- only 0 begins with the digit 0
decimal_zero : (word : List ℕ) → is_decimal word ≡ true → get_or word 0 0 ≡ 48 → length word ≡ 1
decimal_zero [] h e = absurd (false≢true h)
decimal_zero (d ∷ ds) h e = eqb-true (length (d ∷ ds)) 1 (subst (λ (b : Bool). cond b (length (d ∷ ds) == 1) (list_all is_ascii_digit (d ∷ ds)) ≡ true) (let z : (d == 48) ≡ true = rw e refl in z) h)

-- a word that writes a number is its spelling
pub number_spelled : (word : List ℕ) (n : ℕ) → number_of word ≡ Some n → word ≡ decimal n
number_spelled word n = go (is_decimal word) (nat_lt (digits_value 10 word) (2 ^ 64)) refl refl
  where
    go : (a b : Bool) → is_decimal word ≡ a → nat_lt (digits_value 10 word) (2 ^ 64) ≡ b → cond (a && b) (Some (digits_value 10 word)) None ≡ Some n → word ≡ decimal n
    go true true is fits e =
        let value : digits_value 10 word ≡ n = cc in
        sym (ap decimal (sym value) ∙ decimal-digits_value own word (decimal_digits word is) (decimal_some word is) (decimal_zero word is) (ltb-true _ _ fits))
    go true false is fits e = absurd (let clash : ◌≡◌ {A = Option ℕ} None (Some n) = e in cc)
    go false b is fits e = absurd (let clash : ◌≡◌ {A = Option ℕ} None (Some n) = e in cc)

digits_are_decimal : (ds : List ℕ) → 0 < length ds → 48 < get_or ds 0 0 → list_all is_ascii_digit ds ≡ true → is_decimal ds ≡ true
digits_are_decimal [] some first all = absurd (omega arith)
digits_are_decimal (d ∷ ds) some first all = let other : (d == 48) ≡ false = ne_eqb d 48 (λ e. omega arith) in rw other all

-- and a spelling writes its number
pub number_written : (n : ℕ) → 0 < n → n < 2 ^ 64 → number_of (decimal n) ≡ Some n
number_written n some small =
    let is : is_decimal (decimal n) ≡ true = digits_are_decimal (decimal n) (decimal_nonempty n small) (first_decimal n some small) (digits_decimal own n small) in
    let value : digits_value 10 (decimal n) ≡ n = digits_value-decimal own n small in
    let fits : nat_lt n (2 ^ 64) ≡ true = lt-ltb _ _ small in
    rw (is, value, fits) refl

pub not_zero : (word : List ℕ) (n : ℕ) → Some 0 ≡ number_of word → 0 < n → n < 2 ^ 64 → word ≢ decimal n
not_zero word n none some small e =
    let same : Some 0 ≡ Some n = none ∙ ap number_of e ∙ number_written n some small in
    let z : 0 ≡ n = cc in
    omega arith

pub no_number : (word : List ℕ) (n : ℕ) → None ≡ number_of word → 0 < n → n < 2 ^ 64 → word ≢ decimal n
no_number word n none some small e =
    let same : ◌≡◌ {A = Option ℕ} None (Some n) = none ∙ ap number_of e ∙ number_written n some small in
    cc

-- ---- digests

pub digest_decoded : (word out digest : List ℕ) (r : Result (Unit {0}) FromHexError) → Decodes word r out → IsDigest digest → word ≡ encode_lower digest → (r ≡ Ok tt) × (out ≡ digest)
digest_decoded word out digest r h is e = decoded_as word out digest r h (ap (λ w. decode_sized w 32) e ∙ decode_sized-encode_lower digest 32 is.size is.bytes)

-- numbers that are bytes, also past the end
are_bytes : (v : List ℕ) → AreBytes v → IsBytes v
are_bytes v all i = ⊎_elim (λ (lt : i < length v). All-get_or (λ x. x < 256) v i 0 lt all) (λ (le : length v ≤ i). omega (arith, get_or_past v i 0 le)) (cases_lt i (length v))

pub digest_read : (word out : List ℕ) (r : Result (Unit {0}) FromHexError) → Decodes word r out → r ≡ Ok tt → IsDigest out
digest_read word out r h ok = let d = decoded_digest word out r h ok in record { size = d.size; bytes = are_bytes out d.bytes }

-- ---- words that are compared

pub other_word : (word digits : List ℕ) → true ≡ not (bytes_eq word digits) → word ≢ digits
other_word word digits e same = go (bytes_eq word digits) (bytes_eq-Decides word digits) e
  where
    go : (b : Bool) → Decides b (word ≡ digits) → true ≡ not b → ⊥
    go true h e = false≢true (sym e)
    go false h e = false≢true (h.1 same)

pub same_word : (word digits : List ℕ) → false ≡ not (bytes_eq word digits) → word ≡ digits
same_word word digits e = go (bytes_eq word digits) (bytes_eq-Decides word digits) e
  where
    go : (b : Bool) → Decides b (word ≡ digits) → false ≡ not b → word ≡ digits
    go true h e = h.0 refl
    go false h e = absurd (false≢true e)
