-- A block that comes after all others of a file: its line follows those of the file.
use Rattle.std.proofs.Common.{◌≡◌, ℕ, zero, suc, ◌+◌, ◌-◌, ◌*◌, ◌/◌, ◌<◌, ◌≤◌, max, List, [], ◌∷◌, ◌++◌, length, take, drop, get_or, refl, sym, ap, ◌∙◌, ⊎_elim, arith, append-nil}
use Rattle.std.proofs.lemmas.Bool.{cases_lt}
use Rattle.std.proofs.lemmas.List.{get_or-take, get_or-drop, get_or_past, length-take}
use Rattle.reference.specs.Image.{Text, trimmed, block_line, block_lines}
use Rattle.reference.specs.Tree.{over}
use Rattle.reference.proofs.Contents.{length-over}
use Rattle.reference.proofs.FileBlocks.{over_before, over_inside, over_after}
use Rattle.reference.proofs.ImageBytes.{keep, trimmed_is}

-- every byte from there on is zero
abbrev pub ZeroFrom : ℕ → List ℕ → Type 0
ZeroFrom m b = (x : ℕ) → m ≤ x → get_or b x 0 ≡ 0

-- ---- what is trimmed

trimmed_none : (xs : List ℕ) → ((k : ℕ) → get_or xs k 0 ≡ 0) → trimmed xs ≡ []
trimmed_none [] h = refl
trimmed_none (x ∷ xs) h = trimmed_is x xs ∙ ap (keep x) (trimmed_none xs (λ k. h (suc k))) ∙ ap (λ (y : ℕ). keep y []) (h 0)

-- lists whose bytes are one, but for zeros behind them, are trimmed to one
pub trimmed_same : (xs ys : List ℕ) → ((k : ℕ) → get_or xs k 0 ≡ get_or ys k 0) → trimmed xs ≡ trimmed ys
trimmed_same [] ys h = sym (trimmed_none ys (λ k. sym (h k)))
trimmed_same (x ∷ xs) [] h = trimmed_none (x ∷ xs) h
trimmed_same (x ∷ xs) (y ∷ ys) h =
    trimmed_is x xs ∙ ap (keep x) (trimmed_same xs ys (λ k. h (suc k))) ∙ ap (λ (z : ℕ). keep z (trimmed ys)) (h 0) ∙ sym (trimmed_is y ys)

-- ---- a byte of a block

in_block : (b : List ℕ) (i k : ℕ) → k < 4096 → get_or (take 4096 (drop (4096 * i) b)) k 0 ≡ get_or b (4096 * i + k) 0
in_block b i k h = get_or-take 4096 (drop (4096 * i) b) k 0 h ∙ get_or-drop (4096 * i) b k 0

past_block : (b : List ℕ) (i k : ℕ) → 4096 ≤ k → get_or (take 4096 (drop (4096 * i) b)) k 0 ≡ 0
past_block b i k h = get_or_past (take 4096 (drop (4096 * i) b)) k 0 (let l = length-take 4096 (drop (4096 * i) b) in omega arith)

-- ---- the lines of blocks

-- from a block on there is no line
pub no_more_lines : (b : List ℕ) (i d : ℕ) → ZeroFrom (4096 * i) b → block_lines b (i + d) ≡ block_lines b i
no_more_lines b i zero z = ap (block_lines b) (let e : i + 0 ≡ i = omega arith in e)
no_more_lines b i (suc d) z =
    let none : trimmed (take 4096 (drop (4096 * (i + d)) b)) ≡ [] = trimmed_none (take 4096 (drop (4096 * (i + d)) b)) (λ k. ⊎_elim
    (λ (l : k < 4096). in_block b (i + d) k l ∙ z (4096 * (i + d) + k) (omega arith))
    (λ (g : 4096 ≤ k). past_block b (i + d) k g)
    (cases_lt k 4096)) in
    ap (block_lines b) (let e : i + suc d ≡ suc (i + d) = omega arith in e)
    ∙ ap (λ (x : List ℕ). block_lines b (i + d) ++ block_line (i + d) x) none
    ∙ append-nil (block_lines b (i + d))
    ∙ no_more_lines b i d z

-- files that are alike up to a block have the same lines up to it
same_lines : (b c : List ℕ) (i : ℕ) → ((x : ℕ) → x < 4096 * i → get_or b x 0 ≡ get_or c x 0) → block_lines b i ≡ block_lines c i
same_lines b c zero h = refl
same_lines b c (suc i) h =
    let last : trimmed (take 4096 (drop (4096 * i) b)) ≡ trimmed (take 4096 (drop (4096 * i) c)) = trimmed_same (take 4096 (drop (4096 * i) b)) (take 4096 (drop (4096 * i) c)) (λ k. ⊎_elim
    (λ (l : k < 4096). in_block b i k l ∙ h (4096 * i + k) (omega arith) ∙ sym (in_block c i k l))
    (λ (g : 4096 ≤ k). past_block b i k g ∙ sym (past_block c i k g))
    (cases_lt k 4096)) in
    ap (λ (t : Text). t ++ block_line i (trimmed (take 4096 (drop (4096 * i) b)))) (same_lines b c i (λ x l. h x (omega arith)))
    ∙ ap (λ (x : List ℕ). block_lines c i ++ block_line i x) last

-- ---- the block that is laid over zeros

pub record LastBlock (b : List ℕ) (i : ℕ) (v : List ℕ) : Type 0 where
  pub zeros : ZeroFrom (4096 * i) b
  pub inside : 4096 * i + length v ≤ length b
  pub some : 0 < length v
  pub most : length v ≤ 4096
  pub trims : trimmed v ≡ v

-- it is what its block holds
written_over : (b : List ℕ) (i : ℕ) (v : List ℕ) → LastBlock b i v → trimmed (take 4096 (drop (4096 * i) (over b (4096 * i) v))) ≡ v
written_over b i v h = trimmed_same (take 4096 (drop (4096 * i) (over b (4096 * i) v))) v (λ k. ⊎_elim
    (λ (l : k < length v).
    let most : length v ≤ 4096 = h.most in
    let at : 4096 * i + k - 4096 * i ≡ k = omega arith in
    in_block (over b (4096 * i) v) i k (omega arith) ∙ over_inside b (4096 * i) v (4096 * i + k) (omega arith) (omega arith) ∙ ap (λ (x : ℕ). get_or v x 0) at)
    (λ (g : length v ≤ k). ⊎_elim
    (λ (l : k < 4096). in_block (over b (4096 * i) v) i k l ∙ over_after b (4096 * i) v (4096 * i + k) (omega arith) ∙ h.zeros (4096 * i + k) (omega arith) ∙ sym (get_or_past v k 0 g))
    (λ (f : 4096 ≤ k). past_block (over b (4096 * i) v) i k f ∙ sym (get_or_past v k 0 g))
    (cases_lt k 4096))
    (cases_lt k (length v)))
    ∙ h.trims

-- behind it there are zeros
pub zeros_behind : (b : List ℕ) (i : ℕ) (v : List ℕ) → LastBlock b i v → ZeroFrom (4096 * (i + 1)) (over b (4096 * i) v)
zeros_behind b i v h = λ x g. let most : length v ≤ 4096 = h.most in over_after b (4096 * i) v x (omega arith) ∙ h.zeros x (omega arith)

-- the file keeps its length
pub length_kept : (b : List ℕ) (i : ℕ) (v : List ℕ) → LastBlock b i v → length (over b (4096 * i) v) ≡ length b
length_kept b i v h = let inside : 4096 * i + length v ≤ length b = h.inside in let l : length (over b (4096 * i) v) ≡ max (length b) (4096 * i + length v) = length-over b (4096 * i) v in omega arith

-- and its line follows those of the file
pub block_end : (b : List ℕ) (i : ℕ) (v : List ℕ) → LastBlock b i v
    → block_lines (over b (4096 * i) v) (length b / 4096 + 1) ≡ block_lines b (length b / 4096 + 1) ++ block_line i v
block_end b i v h =
    let c : List ℕ = over b (4096 * i) v in
    let d : ℕ = length b / 4096 - i in
    let inside : 4096 * i + length v ≤ length b = h.inside in
    let some : 0 < length v = h.some in
    let old_count : length b / 4096 + 1 ≡ i + suc d = omega arith in
    let new_count : length b / 4096 + 1 ≡ suc i + d = omega arith in
    ap (block_lines c) new_count
    ∙ no_more_lines c (suc i) d (λ x g. zeros_behind b i v h x (omega arith))
    ∙ ap (λ (x : List ℕ). block_lines c i ++ block_line i x) (written_over b i v h)
    ∙ ap (λ (t : Text). t ++ block_line i v) (same_lines c b i (λ x l. over_before b (4096 * i) v x l) ∙ sym (no_more_lines b i (suc d) h.zeros) ∙ ap (block_lines b) (sym old_count))
