-- The lines of a file's blocks, from those that a walk lists.
use Rattle.std.proofs.Common.{◌≡◌, ◌≢◌, ⊎_elim, inl, inr, ℕ, zero, suc, ◌+◌, ◌-◌, ◌/◌, ◌<◌, ◌≤◌, min, List, [], ◌∷◌, ◌++◌, length, take, drop, get_or, replicate, false, refl, sym, ap, ◌∙◌, append_assoc, append-nil, add-one, arith, length-take}
use Rattle.std.proofs.lemmas.List.{take_more, get_or-take, get_or-append_right, get_or-replicate, get_or_append_left, get_or_past, length-replicate}
use Rattle.std.proofs.lemmas.Bool.{cases_lt}
use Rattle.std.specs.Prelude.{◌==◌, Any, codes, decimal}
use Rattle.textio.specs.Texts.{hex_text}
use Rattle.reference.specs.Image.{block_line, block_lines, trimmed}
use Rattle.reference.specs.Indexes.{most_blocks}
use Rattle.reference.proofs.ImageBytes.{keep, trimmed_is}
use Rattle.reference.proofs.LastBlock.{trimmed_same}
use Rattle.reference.specs.Tree.{Dir, File, At, Found, Missing, Blocked}
use Rattle.std.proofs.Math.Seq.{drop-append_seam}
use Rattle.volume.specs.Walks.{AreBlocks, AreBlocksAt, IsBlock, block_bytes}
use Rattle.volume.proofs.Walks.{past_bytes}
use Rattle.images.specs.Image.{blocks_left}

-- ---- the line of a block

-- in the order in which it is written
line_text : (i : ℕ) (kept : List ℕ) → 0 < length kept → block_line i kept ≡ codes "b " ++ (decimal i ++ (codes " " ++ (hex_text kept ++ codes "\n")))
line_text i [] some = absurd (omega arith)
line_text i (x ∷ xs) some = ap (λ (l : List ℕ). codes "b " ++ l) (append_assoc (decimal i) (32 ∷ hex_text (x ∷ xs)) (10 ∷ []))

pub line_of_kept : (i : ℕ) (block kept : List ℕ) → kept ≡ trimmed block → false ≡ (length kept == 0) → block_line i (trimmed block) ≡ codes "b " ++ (decimal i ++ (codes " " ++ (hex_text kept ++ codes "\n")))
line_of_kept i block kept e some = ap (block_line i) (sym e) ∙ line_text i kept (has_some kept some)
  where
    has_some : (l : List ℕ) → false ≡ (length l == 0) → 0 < length l
    has_some [] f = absurd (cc)
    has_some (x ∷ xs) f = omega arith

-- ---- blocks as a walk lists them

abbrev zeros_of : ℕ → List ℕ
zeros_of n = replicate n 0

zero_at : (n k : ℕ) → get_or (zeros_of n) k 0 ≡ 0
zero_at n k = ⊎_elim
    (λ (h : k < n). get_or-replicate n k 0 0 h)
    (λ (h : n ≤ k). get_or_past (zeros_of n) k 0 (let l : length (zeros_of n) ≡ n = length-replicate n 0 in omega arith))
    (cases_lt k n)

-- zeros after bytes are trimmed
trimmed_zeros : (v : List ℕ) (n : ℕ) → trimmed (v ++ zeros_of n) ≡ trimmed v
trimmed_zeros v n = trimmed_same (v ++ zeros_of n) v (λ j. ⊎_elim
    (λ (h : j < length v). get_or_append_left v (zeros_of n) 0 j h)
    (λ (h : length v ≤ j). get_or-append_right v (zeros_of n) (length v) j 0 refl h ∙ zero_at n (j - length v) ∙ sym (get_or_past v j 0 h))
    (cases_lt j (length v)))

-- so the line of a block is that of what is stored of it
block_trimmed : (b : List ℕ) (i : ℕ) (v : List ℕ) → IsBlock b i v → trimmed (block_bytes b i) ≡ trimmed v
block_trimmed b i v (zeros, e) = ap trimmed e ∙ trimmed_zeros v zeros

-- a block whose bytes are all zero has no line
abbrev Blank : List ℕ → ℕ → Type 0
Blank b i = trimmed (block_bytes b i) ≡ []

-- ---- the lines of blocks

-- blocks without lines
no_more : (b : List ℕ) (i d : ℕ) → ((j : ℕ) → i ≤ j → j < i + d → Blank b j) → block_lines b (i + d) ≡ block_lines b i
no_more b i zero h = ap (block_lines b) (let e : i + 0 ≡ i = omega arith in e)
no_more b i (suc d) h =
    let e : i + suc d ≡ suc (i + d) = omega arith in
    ap (block_lines b) e
    ∙ ap (λ (l : List ℕ). block_lines b (i + d) ++ block_line (i + d) l) (h (i + d) (omega arith) (omega arith))
    ∙ append-nil (block_lines b (i + d))
    ∙ no_more b i d (λ j g f. h j g (omega arith))

none_between : (b : List ℕ) (i n : ℕ) → i ≤ n → ((j : ℕ) → i ≤ j → j < n → Blank b j) → block_lines b n ≡ block_lines b i
none_between b i n le h =
    let e : n ≡ i + (n - i) = omega arith in
    ap (block_lines b) e ∙ no_more b i (n - i) (λ j g f. h j g (omega arith))

-- how many blocks have bytes
abbrev count : List ℕ → ℕ
count b = length b / 4096 + 1

behind_all : (b : List ℕ) (j : ℕ) → count b ≤ j → Blank b j
behind_all b j h = block_trimmed b j [] (past_bytes b j (omega arith))

more_lines : (b : List ℕ) (i d : ℕ) → (rest : List ℕ) × (block_lines b (i + d) ≡ block_lines b i ++ rest)
more_lines b i zero = ([], ap (block_lines b) (let e : i + 0 ≡ i = omega arith in e) ∙ sym (append-nil (block_lines b i)))
more_lines b i (suc d) =
    let e : i + suc d ≡ suc (i + d) = omega arith in
    let before : (rest : List ℕ) × (block_lines b (i + d) ≡ block_lines b i ++ rest) = more_lines b i d in
    let line : List ℕ = block_line (i + d) (trimmed (block_bytes b (i + d))) in
    (before.0 ++ line, ap (block_lines b) e ∙ ap (λ (l : List ℕ). l ++ line) before.1 ∙ append_assoc (block_lines b i) before.0 line)

-- the lines of the first blocks are a beginning of all
begins : (b : List ℕ) (i : ℕ) → (rest : List ℕ) × (block_lines b (count b) ≡ block_lines b i ++ rest)
begins b i = ⊎_elim
    (λ (h : i < count b).
    let e : count b ≡ i + (count b - i) = omega arith in
    let more : (rest : List ℕ) × (block_lines b (i + (count b - i)) ≡ block_lines b i ++ rest) = more_lines b i (count b - i) in
    (more.0, ap (block_lines b) e ∙ more.1))
    (λ (h : count b ≤ i). ([], sym (none_between b (count b) i h (λ j g f. behind_all b j g)) ∙ sym (append-nil (block_lines b i))))
    (cases_lt i (count b))

-- ---- a walk from block to block

module _ (b : List ℕ) (i : ℕ) (x : ℕ × List ℕ) (are : AreBlocks b i 1 (x ∷ [])) where
  next : (i ≤ x.0) × (x.0 < most_blocks) × IsBlock b x.0 x.1
  next = are.sound 0 x (omega arith)

  -- a block before the next has only zeros
  skipped : (j : ℕ) → i ≤ j → j < x.0 → Blank b j
  skipped j g f = elim (are.complete j g) [
    | inl a ↦ absurd (listed a)
    | inr c ↦ elim c [
      | inl z ↦ block_trimmed b j [] z
      | inr m ↦ absurd (let s : x.0 < j = m.1 0 x (omega arith) in omega arith)
    ]
  ]
    where
      listed : Any (λ y. y.0 ≡ j) (x ∷ []) → ⊥
      listed (zero, y, l, e, is) = let s : x.0 ≡ y.0 = ap (λ (z : ℕ × List ℕ). z.0) e in let r : y.0 ≡ j = is in omega arith
      listed (suc k, y, l, e, is) = omega (arith, l)

  -- so its line follows those before it
  next_line : block_lines b (x.0 + 1) ≡ block_lines b i ++ block_line x.0 (trimmed x.1)
  next_line =
      ap (block_lines b) (add-one x.0)
      ∙ ap (λ (l : List ℕ). l ++ block_line x.0 (trimmed (block_bytes b x.0))) (none_between b i x.0 next.0 skipped)
      ∙ ap (λ (l : List ℕ). block_lines b i ++ block_line x.0 l) (block_trimmed b x.0 x.1 next.2)

-- if there is no next one, all lines are written
no_next : (b : List ℕ) (i : ℕ) → AreBlocks b i 1 [] → block_lines b i ≡ block_lines b (count b)
no_next b i are = ⊎_elim
    (λ (h : i < count b). sym (none_between b i (count b) (omega arith) (λ j g f. blank j g)))
    (λ (h : count b ≤ i). none_between b (count b) i h (λ j g f. behind_all b j g))
    (cases_lt i (count b))
  where
    blank : (j : ℕ) → i ≤ j → Blank b j
    blank j g = elim (are.complete j g) [
      | inl a ↦ absurd (let l = a.2 in omega (arith, l))
      | inr c ↦ elim c [
        | inl z ↦ block_trimmed b j [] z
        | inr m ↦ absurd (omega (arith, m.0))
      ]
    ]

-- ---- the lines of blocks that are left

left_is : (d : ℕ) (b : List ℕ) (i : ℕ) (rest : List ℕ) → block_lines b (count b) ≡ block_lines b i ++ rest → blocks_left (Found (File d b)) i ≡ rest
left_is d b i rest e = ap (drop (length (block_lines b i))) e ∙ drop-append_seam (block_lines b i) rest

-- the line of the next block that a walk gives is the first
pub block_passed : (at : At) (i : ℕ) (x : ℕ × List ℕ) → AreBlocksAt at i 1 (x ∷ []) → blocks_left at i ≡ block_line x.0 (trimmed x.1) ++ blocks_left at (x.0 + 1)
block_passed (Found (File d b)) i x are =
    let more : (rest : List ℕ) × (block_lines b (count b) ≡ block_lines b (x.0 + 1) ++ rest) = begins b (x.0 + 1) in
    let line : List ℕ = block_line x.0 (trimmed x.1) in
    left_is d b i (line ++ more.0) (more.1 ∙ ap (λ (l : List ℕ). l ++ more.0) (next_line b i x are) ∙ append_assoc (block_lines b i) line more.0)
    ∙ ap (λ (l : List ℕ). line ++ l) (sym (left_is d b (x.0 + 1) more.0 more.1))
block_passed (Found (Dir d es)) i x are = absurd (cc)
block_passed Missing i x are = absurd (cc)
block_passed Blocked i x are = absurd (cc)

-- if it returns none, none is left
pub blocks_passed : (at : At) (i : ℕ) → AreBlocksAt at i 1 [] → blocks_left at i ≡ []
blocks_passed (Found (File d b)) i are = left_is d b i [] (sym (no_next b i are) ∙ sym (append-nil (block_lines b i)))
blocks_passed (Found (Dir d es)) i are = refl
blocks_passed Missing i are = refl
blocks_passed Blocked i are = refl
