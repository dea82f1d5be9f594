-- Cutting lines into words.
use Rattle.std.proofs.Common.{eqb, ◌≡◌, ◌≢◌, ℕ, ◌+◌, ◌-◌, ◌<◌, arith, List, [], ◌∷◌, ◌++◌, length, take, drop, get_or, sym, ap, refl, ◌∙◌, append_assoc, take-append-drop, None, Some, Option, option_map}
use Rattle.std.specs.List.{All}
use Rattle.std.specs.Prelude.{MatchOption, slice_index}
use Rattle.std.proofs.lemmas.Bool.{cond-false, eq-eqb, eqb-true, ne_eqb}
use Rattle.std.proofs.lemmas.List.{take_more, take_rest, drop-drop, get_or-take, length-take-le}
use Rattle.std.proofs.lemmas.List.Elements.{All-from_get_or, All-head, All-tail}
use Rattle.memchr.specs.Find.{IsFirstByte, is_byte}
use Rattle.pathkey.specs.Texts.{pieces}
use Rattle.pathkey.proofs.Pieces.{pieces_cut}
use Rattle.textio.specs.Lines.{at_sign, words_of}

-- a byte that is found is at no place before
pub first_place : (w : ℕ) (xs : List ℕ) (r : Option ℕ) → IsFirstByte (is_byte w) xs r → MatchOption r (All (λ b. b ≢ w) xs) (λ i. (i < length xs) × (slice_index xs i ≡ w) × All (λ b. b ≢ w) (take i xs))
first_place w xs None none = All-from_get_or (λ b. b ≢ w) xs 0 (λ i lt e. none i (omega arith) lt (eq-eqb (get_or xs i 0) w e))
first_place w xs (Some k) found =
    let high : k < length xs = found.0.high in
    let long : length (take k xs) ≡ k = length-take-le k xs (omega arith) in
    (high, eqb-true (get_or xs k 0) w found.1, All-from_get_or (λ b. b ≢ w) (take k xs) 0 (λ i lt e. found.0.before i (omega arith) (omega arith) (eq-eqb (get_or xs i 0) w (sym (get_or-take k xs i 0 (omega arith)) ∙ e))))

-- a list before and after an element
pub parted_at : (xs : List ℕ) (i x : ℕ) → i < length xs → get_or xs i 0 ≡ x → xs ≡ take i xs ++ (x ∷ drop (i + 1) xs)
parted_at xs i x lt is =
    sym (take-append-drop (i + 1) xs)
    ∙ ap (λ l. l ++ drop (i + 1) xs) (take_more xs i 0 lt ∙ ap (λ b. take i xs ++ b ∷ []) is)
    ∙ append_assoc (take i xs) (x ∷ []) (drop (i + 1) xs)

-- a line without a space is one word
pub one_word : (line : List ℕ) → All (λ b. b ≢ 32) line → words_of line ≡ line ∷ []
one_word line none = pieces_cut 32 line [] none

-- a line is its first word, and the words after the space
pub more_words : (line word rest : List ℕ) → line ≡ word ++ 32 ∷ rest → All (λ b. b ≢ 32) word → words_of line ≡ word ∷ words_of rest
more_words line word rest is none =
    ap words_of is ∙ ap (pieces 32) (append_assoc word (32 ∷ rest) (32 ∷ [])) ∙ pieces_cut 32 word (rest ++ 32 ∷ []) none

-- a line that is cut at its first space, which is then left out
pub cut_at_space : (line front back : List ℕ) (i : ℕ) → i < length line → get_or line i 0 ≡ 32 → All (λ b. b ≢ 32) (take i line) → front ≡ take i line → back ≡ drop i line
    → words_of line ≡ front ∷ words_of (take (length back - 1) (drop 1 back))
cut_at_space line front back i lt is none f b =
    let rest : take (length back - 1) (drop 1 back) ≡ drop (i + 1) line = take_rest back 1 ∙ ap (drop 1) b ∙ drop-drop 1 i line in
    more_words line (take i line) (drop (i + 1) line) (parted_at line i 32 lt is) none
    ∙ ap (λ w. w ∷ words_of (drop (i + 1) line)) (sym f)
    ∙ ap (λ r. front ∷ words_of r) (sym rest)

-- a word without an `@` is not cut
pub no_sign : (word : List ℕ) → All (λ b. b ≢ 64) word → at_sign word ≡ None
no_sign [] none = refl
no_sign (b ∷ word) none =
    cond-false (eqb b 64) _ _ (ne_eqb b 64 (All-head (λ b. b ≢ 64) b word none))
    ∙ ap (option_map (λ cut. (b ∷ cut.0, cut.1))) (no_sign word (All-tail (λ b. b ≢ 64) b word none))

-- a word is cut at its first `@`
sign_between : (front back : List ℕ) → All (λ b. b ≢ 64) front → at_sign (front ++ 64 ∷ back) ≡ Some (front, back)
sign_between [] back none = refl
sign_between (b ∷ front) back none =
    cond-false (eqb b 64) _ _ (ne_eqb b 64 (All-head (λ b. b ≢ 64) b front none))
    ∙ ap (option_map (λ cut. (b ∷ cut.0, cut.1))) (sign_between front back (All-tail (λ b. b ≢ 64) b front none))

-- a word that is cut at its first `@`, which is then left out
pub cut_at_first_sign : (word front back : List ℕ) (i : ℕ) → i < length word → get_or word i 0 ≡ 64 → All (λ b. b ≢ 64) (take i word) → front ≡ take i word → back ≡ drop i word
    → Some (front, take (length back - 1) (drop 1 back)) ≡ at_sign word
cut_at_first_sign word front back i lt is none f b =
    let rest : take (length back - 1) (drop 1 back) ≡ drop (i + 1) word = take_rest back 1 ∙ ap (drop 1) b ∙ drop-drop 1 i word in
    ap (λ l. Some (l, take (length back - 1) (drop 1 back))) f
    ∙ ap (λ r. Some (take i word, r)) rest
    ∙ sym (ap at_sign (parted_at word i 64 lt is) ∙ sign_between (take i word) (drop (i + 1) word) none)
