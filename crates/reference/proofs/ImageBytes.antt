-- The lines of a file's blocks tell its bytes, where its length is known.
use Rattle.std.proofs.Common.{◌≡◌, ⊎_elim, ℕ, zero, suc, ◌+◌, ◌*◌, ◌/◌, ◌%◌, ◌^◌, ◌<◌, ◌≤◌, List, [], ◌∷◌, ◌++◌, length, get_or, take, drop, refl, sym, ap, subst, ◌∙◌, arith, append_assoc, append-nil, flat_map, decimal}
use Rattle.std.proofs.lemmas.Bool.{cases_lt}
use Rattle.std.proofs.lemmas.Fmt.{decimal_injective}
use Rattle.std.proofs.lemmas.Grind.{same_number_lists}
use Rattle.std.proofs.lemmas.List.{append_cancel_left, get_or-take, get_or-drop}
use Rattle.reference.specs.Image.{Text, two_digits, trimmed, block_line, block_lines}
use Rattle.reference.proofs.ImageTexts.{cut, hex_visible, hex_injective, decimal_visible}

-- ---- trailing zeros

-- a byte in front of what is kept behind it
abbrev pub keep : ℕ → List ℕ → List ℕ
keep zero [] = []
keep b rest = b ∷ rest

pub trimmed_is : (b : ℕ) (bs : List ℕ) → trimmed (b ∷ bs) ≡ keep b (trimmed bs)
trimmed_is zero bs = elim (trimmed bs) as (λ r. trimmed bs ≡ r → trimmed (0 ∷ bs) ≡ keep 0 r) [
  | [] ↦ λ e. rw e refl
  | x ∷ xs ↦ λ e. rw e refl
] refl
trimmed_is (suc b) bs = refl

pub kept_byte : (b : ℕ) (bs : List ℕ) (j : ℕ) → get_or (keep b bs) j 0 ≡ get_or (b ∷ bs) j 0
kept_byte zero [] zero = refl
kept_byte zero [] (suc j) = refl
kept_byte zero (x ∷ xs) j = refl
kept_byte (suc b) bs j = refl

-- what is trimmed has the bytes that it had
pub trimmed_byte : (bs : List ℕ) (j : ℕ) → get_or (trimmed bs) j 0 ≡ get_or bs j 0
trimmed_byte [] j = refl
trimmed_byte (b ∷ bs) zero = ap (λ (x : List ℕ). get_or x 0 0) (trimmed_is b bs) ∙ kept_byte b (trimmed bs) 0
trimmed_byte (b ∷ bs) (suc j) = ap (λ (x : List ℕ). get_or x (suc j) 0) (trimmed_is b bs) ∙ kept_byte b (trimmed bs) (suc j) ∙ trimmed_byte bs j

-- ---- the lines from a block on

-- a block without its trailing zeros
abbrev pub block : List ℕ → ℕ → List ℕ
block b i = trimmed (take 4096 (drop (4096 * i) b))

abbrev lines_from : List ℕ → ℕ → ℕ → Text
lines_from b i zero = []
lines_from b i (suc d) = block_line i (block b i) ++ lines_from b (suc i) d

onward_lines : (b : List ℕ) (i d : ℕ) → block_lines b (i + d) ≡ block_lines b i ++ lines_from b i d
onward_lines b i zero = ap (block_lines b) (let e : i + 0 ≡ i = omega arith in e) ∙ sym (append-nil (block_lines b i))
onward_lines b i (suc d) =
    let e : i + suc d ≡ suc i + d = omega arith in
    ap (block_lines b) e ∙ onward_lines b (suc i) d ∙ append_assoc (block_lines b i) (block_line i (block b i)) (lines_from b (suc i) d)

all_lines : (b : List ℕ) (d : ℕ) → block_lines b d ≡ lines_from b 0 d
all_lines b d = ap (block_lines b) (let e : d ≡ 0 + d = omega arith in e) ∙ onward_lines b 0 d

-- a line of bytes, and then more
line_is : (i c : ℕ) (cs : List ℕ) (r : Text) → block_line i (c ∷ cs) ++ r ≡ 98 ∷ 32 ∷ (decimal i ++ 32 ∷ (flat_map (two_digits 87) (c ∷ cs) ++ 10 ∷ r))
line_is i c cs r = simp append_assoc

-- no line of a block stands at the beginning
abbrev pub NoBlock : Text → Type 0
NoBlock r = (s : Text) → r ≡ 98 ∷ s → ⊥

-- a text of a line of bytes, told by its number and by what comes after that
line_then : (i c : ℕ) (cs : List ℕ) (r s : Text) → (block_line i (c ∷ cs) ++ r) ++ s ≡ 98 ∷ 32 ∷ (decimal i ++ 32 ∷ (flat_map (two_digits 87) (c ∷ cs) ++ 10 ∷ (r ++ s)))
line_then i c cs r s = append_assoc (block_line i (c ∷ cs)) r s ∙ line_is i c cs (r ++ s)

-- the lines from a block on have no line of a block before
no_earlier : (b : List ℕ) (i j d : ℕ) (r s : Text) → i < j → j + d < 2 ^ 64 → NoBlock r → lines_from b j d ++ r ≡ 98 ∷ 32 ∷ (decimal i ++ 32 ∷ s) → ⊥
no_earlier b i j zero r s lt few other e = other (32 ∷ (decimal i ++ 32 ∷ s)) e
no_earlier b i j (suc d) r s lt few other e = elim (block b j) as (λ x. (block_line j x ++ lines_from b (suc j) d) ++ r ≡ 98 ∷ 32 ∷ (decimal i ++ 32 ∷ s) → ⊥) [
  | [] ↦ λ f. no_earlier b i (suc j) d r s (omega arith) (omega arith) other f
  | c ∷ cs ↦ λ f.
      let after : Text = flat_map (two_digits 87) (c ∷ cs) ++ 10 ∷ (lines_from b (suc j) d ++ r) in
      let both : 98 ∷ 32 ∷ (decimal j ++ 32 ∷ after) ≡ 98 ∷ 32 ∷ (decimal i ++ 32 ∷ s) = sym (line_then j c cs (lines_from b (suc j) d) r) ∙ f in
      let parts : (decimal j ≡ decimal i) × (after ≡ s) = cut (decimal j) (decimal i) 32 32 after s (decimal_visible j (omega arith)) (decimal_visible i (omega arith)) (omega arith) (omega arith) (cc) in
      let same : j ≡ i = decimal_injective j i (omega arith) (omega arith) parts.0 in
      omega arith
] e

-- ---- texts of two files

-- the first lines show the same bytes
first_line : (b c : List ℕ) (i d : ℕ) (x y : List ℕ) (r s : Text) → suc i + d < 2 ^ 64 → NoBlock r → NoBlock s
    → (block_line i x ++ lines_from b (suc i) d) ++ r ≡ (block_line i y ++ lines_from c (suc i) d) ++ s → (x ≡ y) × (lines_from b (suc i) d ++ r ≡ lines_from c (suc i) d ++ s)
first_line b c i d [] [] r s few after_b after_c e = (refl, e)
first_line b c i d [] (y ∷ ys) r s few after_b after_c e =
    absurd (no_earlier b i (suc i) d r (flat_map (two_digits 87) (y ∷ ys) ++ 10 ∷ (lines_from c (suc i) d ++ s)) (omega arith) few after_b (e ∙ line_then i y ys (lines_from c (suc i) d) s))
first_line b c i d (x ∷ xs) [] r s few after_b after_c e =
    absurd (no_earlier c i (suc i) d s (flat_map (two_digits 87) (x ∷ xs) ++ 10 ∷ (lines_from b (suc i) d ++ r)) (omega arith) few after_c (sym e ∙ line_then i x xs (lines_from b (suc i) d) r))
first_line b c i d (x ∷ xs) (y ∷ ys) r s few after_b after_c e =
    let left : Text = flat_map (two_digits 87) (x ∷ xs) ++ 10 ∷ (lines_from b (suc i) d ++ r) in
    let right : Text = flat_map (two_digits 87) (y ∷ ys) ++ 10 ∷ (lines_from c (suc i) d ++ s) in
    let both : 98 ∷ 32 ∷ (decimal i ++ 32 ∷ left) ≡ 98 ∷ 32 ∷ (decimal i ++ 32 ∷ right) = sym (line_then i x xs (lines_from b (suc i) d) r) ∙ e ∙ line_then i y ys (lines_from c (suc i) d) s in
    let behind : 32 ∷ left ≡ 32 ∷ right = append_cancel_left (decimal i) (32 ∷ left) (32 ∷ right) (cc) in
    let parts : (flat_map (two_digits 87) (x ∷ xs) ≡ flat_map (two_digits 87) (y ∷ ys)) × (lines_from b (suc i) d ++ r ≡ lines_from c (suc i) d ++ s) =
    cut (flat_map (two_digits 87) (x ∷ xs)) (flat_map (two_digits 87) (y ∷ ys)) 10 10 (lines_from b (suc i) d ++ r) (lines_from c (suc i) d ++ s) (hex_visible (x ∷ xs)) (hex_visible (y ∷ ys)) (omega arith) (omega arith) (cc)
    in
    (hex_injective (x ∷ xs) (y ∷ ys) parts.0, parts.1)

same_blocks : (b c : List ℕ) (i d : ℕ) (r s : Text) → i + d < 2 ^ 64 → NoBlock r → NoBlock s → lines_from b i d ++ r ≡ lines_from c i d ++ s → ((j : ℕ) → i ≤ j → j < i + d → block b j ≡ block c j) × (r ≡ s)
same_blocks b c i zero r s few after_b after_c e = (λ j g f. absurd (omega arith), e)
same_blocks b c i (suc d) r s few after_b after_c e =
    let here : (block b i ≡ block c i) × (lines_from b (suc i) d ++ r ≡ lines_from c (suc i) d ++ s) = first_line b c i d (block b i) (block c i) r s (omega arith) after_b after_c e in
    let later : ((j : ℕ) → suc i ≤ j → j < suc i + d → block b j ≡ block c j) × (r ≡ s) = same_blocks b c (suc i) d r s (omega arith) after_b after_c here.1 in (
      λ j g f. ⊎_elim
          (λ (h : i < j). later.0 j h (omega arith))
          (λ (h : j ≤ i). let is : i ≡ j = omega arith in subst (λ (k : ℕ). block b k ≡ block c k) is here.0)
          (cases_lt i j),
      later.1,
    )

-- a byte stands in its block
byte_in_block : (b : List ℕ) (k : ℕ) → get_or (block b (k / 4096)) (k % 4096) 0 ≡ get_or b k 0
byte_in_block b k =
    let below : k % 4096 < 4096 = omega arith in
    let e : 4096 * (k / 4096) + k % 4096 ≡ k = omega arith in
    trimmed_byte (take 4096 (drop (4096 * (k / 4096)) b)) (k % 4096)
    ∙ get_or-take 4096 (drop (4096 * (k / 4096)) b) (k % 4096) 0 below
    ∙ get_or-drop (4096 * (k / 4096)) b (k % 4096) 0
    ∙ ap (λ (x : ℕ). get_or b x 0) e

-- files of one length whose lines are the same, before what is no line of a block
pub one_file : (b c : List ℕ) (r s : Text) → length b ≤ 2 ^ 40 → length b ≡ length c → NoBlock r → NoBlock s → block_lines b (length b / 4096 + 1) ++ r ≡ block_lines c (length c / 4096 + 1) ++ s → (b ≡ c) × (r ≡ s)
one_file b c r s few same after_b after_c e =
    let count : ℕ = length b / 4096 + 1 in
    let both : lines_from b 0 count ++ r ≡ lines_from c 0 count ++ s =
    ap (λ (x : Text). x ++ r) (sym (all_lines b count)) ∙ e ∙ ap (λ (x : ℕ). block_lines c (x / 4096 + 1) ++ s) (sym same) ∙ ap (λ (x : Text). x ++ s) (all_lines c count)
    in
    let parts : ((j : ℕ) → 0 ≤ j → j < 0 + count → block b j ≡ block c j) × (r ≡ s) = same_blocks b c 0 count r s (omega arith) after_b after_c both in
    (same_number_lists b c same (λ k lt. sym (byte_in_block b k) ∙ ap (λ (x : List ℕ). get_or x (k % 4096) 0) (parts.0 (k / 4096) (omega arith) (omega arith)) ∙ byte_in_block c k), parts.1)
