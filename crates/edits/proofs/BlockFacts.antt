-- Blocks of a file's bytes.
use Rattle.std.proofs.Common.{◌≡◌, ◌≢◌, ⊎_elim, ℕ, ◌+◌, ◌-◌, ◌*◌, ◌/◌, ◌%◌, ◌<◌, ◌≤◌, min, List, length, get_or, drop, replicate, [], ◌∷◌, zero, suc, Option, None, Some, refl, sym, ap, subst, ◌∙◌, arith, length-take, length-drop}
use Rattle.std.proofs.lemmas.Bool.{cases_lt}
use Rattle.std.proofs.lemmas.Grind.{same_number_lists}
use Rattle.std.proofs.lemmas.List.Elements.{All-cons, All-drop, All-head, All-tail, All-take}
use Rattle.std.proofs.lemmas.List.{get_or-drop, get_or-take, length-replicate}
use Rattle.reference.specs.Calls.{bytes_of}
use Rattle.reference.specs.Image.{trimmed}
use Rattle.reference.specs.Reads.{Bytes, Directory, Seen, Sight, sighted}
use Rattle.reference.specs.Shape.{AreBytes}
use Rattle.reference.specs.Tree.{At, Blocked, Dir, File, Found, Missing, sized}
use Rattle.reference.proofs.Contents.{length-over, length-sized}
use Rattle.reference.proofs.FileBlocks.{over_after, over_before, over_inside, sized_at}
use Rattle.reference.proofs.ImageBytes.{keep, trimmed_byte, trimmed_is}
use Rattle.edits.specs.Between.{resized}
use Rattle.edits.specs.Edits.{block_at, with_block}

pub length-block : (i : ℕ) (b : List ℕ) → length (block_at i b) ≡ min 4096 (length b - 4096 * i)
length-block i b = length-take 4096 (drop (4096 * i) b) ∙ ap (min 4096) (length-drop (4096 * i) b)

-- byte j of a block
pub block_byte : (i : ℕ) (b : List ℕ) (j : ℕ) → j < 4096 → get_or (block_at i b) j 0 ≡ get_or b (4096 * i + j) 0
block_byte i b j lt = get_or-take 4096 (drop (4096 * i) b) j 0 lt ∙ get_or-drop (4096 * i) b j 0

pub length-with_block : (i : ℕ) (b new : List ℕ) → 4096 * i < length b → length new ≤ length (block_at i b) → length (with_block i new b) ≡ length b
length-with_block i b new inside few =
    let n : length (sized new (length (block_at i b))) ≡ length (block_at i b) = length-sized new (length (block_at i b)) in
    let m : length (block_at i b) ≡ min 4096 (length b - 4096 * i) = length-block i b in
    length-over b (4096 * i) (sized new (length (block_at i b))) ∙ omega (arith, n, m, inside)

kept_length : (x : ℕ) (rest : List ℕ) → length (keep x rest) ≤ length rest + 1
kept_length zero [] = omega arith
kept_length zero (y ∷ ys) = omega arith
kept_length (suc x) rest = omega arith

pub length-trimmed : (b : List ℕ) → length (trimmed b) ≤ length b
length-trimmed [] = omega arith
length-trimmed (b ∷ bs) = omega (arith, ap length (trimmed_is b bs), kept_length b (trimmed bs), length-trimmed bs)

-- two blocks of files of one length are equal if each byte of the files is there
pub same_block : (i : ℕ) (b c : List ℕ) → length b ≡ length c → ((j : ℕ) → j < 4096 → 4096 * i + j < length b → get_or b (4096 * i + j) 0 ≡ get_or c (4096 * i + j) 0) → block_at i b ≡ block_at i c
same_block i b c same at =
    let m : length (block_at i b) ≡ min 4096 (length b - 4096 * i) = length-block i b in
    let n : length (block_at i c) ≡ min 4096 (length c - 4096 * i) = length-block i c in
    same_number_lists (block_at i b) (block_at i c) (omega (arith, m, n, same)) (λ j lt.
    let few : j < 4096 = omega (arith, lt, m) in
    block_byte i b j few ∙ at j few (omega (arith, lt, m)) ∙ sym (block_byte i c j few))

-- the block that was rewritten is that of the file whose bytes it got
pub with_block_itself : (i : ℕ) (b c : List ℕ) → 4096 * i < length b → length b ≡ length c → block_at i (with_block i (trimmed (block_at i c)) b) ≡ block_at i c
with_block_itself i b c inside same =
    let new : List ℕ = trimmed (block_at i c) in
    let m : length (block_at i b) ≡ min 4096 (length b - 4096 * i) = length-block i b in
    let n : length (block_at i c) ≡ min 4096 (length c - 4096 * i) = length-block i c in
    let few : length new ≤ length (block_at i b) = omega (arith, length-trimmed (block_at i c), m, n, same) in
    let size : length (sized new (length (block_at i b))) ≡ length (block_at i b) = length-sized new (length (block_at i b)) in
    let whole : length (with_block i new b) ≡ length b = length-with_block i b new inside few in
    same_block i (with_block i new b) c (whole ∙ same) (λ j lj lt.
    let e : 4096 * i + j - 4096 * i ≡ j = omega arith in
    over_inside b (4096 * i) (sized new (length (block_at i b))) (4096 * i + j) (omega arith) (omega (arith, size, m, whole, lt, lj))
    ∙ ap (λ (x : ℕ). get_or (sized new (length (block_at i b))) x 0) e
    ∙ sized_at new (length (block_at i b)) j (omega (arith, m, whole, lt, lj))
    ∙ trimmed_byte (block_at i c) j ∙ block_byte i c j lj)

-- other blocks stay
pub with_block_other : (i j : ℕ) (b new : List ℕ) → i ≢ j → 4096 * i < length b → length new ≤ length (block_at i b) → block_at j (with_block i new b) ≡ block_at j b
with_block_other i j b new apart inside few =
    let m : length (block_at i b) ≡ min 4096 (length b - 4096 * i) = length-block i b in
    let size : length (sized new (length (block_at i b))) ≡ length (block_at i b) = length-sized new (length (block_at i b)) in
    same_block j (with_block i new b) b (length-with_block i b new inside few) (λ k lk lt. ⊎_elim
    (λ (low : j < i). over_before b (4096 * i) (sized new (length (block_at i b))) (4096 * j + k) (omega (arith, low, lk)))
    (λ (high : i ≤ j). over_after b (4096 * i) (sized new (length (block_at i b))) (4096 * j + k) (let above : i < j = omega (arith, high, apart) in omega (arith, above, size, m)))
    (cases_lt j i))

-- files of one length with the same blocks are equal
pub same_blocks : (b c : List ℕ) → length b ≡ length c → ((i : ℕ) → block_at i b ≡ block_at i c) → b ≡ c
same_blocks b c same at = same_number_lists b c same (λ x lt.
    let j : x % 4096 < 4096 = omega arith in
    let e : 4096 * (x / 4096) + x % 4096 ≡ x = omega arith in
    ap (λ (y : ℕ). get_or b y 0) (sym e) ∙ sym (block_byte (x / 4096) b (x % 4096) j) ∙ ap (λ (l : List ℕ). get_or l (x % 4096) 0) (at (x / 4096)) ∙ block_byte (x / 4096) c (x % 4096) j ∙ ap (λ (y : ℕ). get_or c y 0) e)

-- a file has no byte in a block behind its end
pub block_past : (i : ℕ) (b c : List ℕ) → length b ≡ length c → length b ≤ 4096 * i → block_at i b ≡ block_at i c
block_past i b c same past = same_block i b c same (λ j lj lt. absurd (omega (arith, past, lt)))

bytes-kept : (x : ℕ) (rest : List ℕ) → x < 256 → AreBytes rest → AreBytes (keep x rest)
bytes-kept zero [] h all = all
bytes-kept zero (y ∷ ys) h all = All-cons (λ z. z < 256) 0 (y ∷ ys) h all
bytes-kept (suc x) rest h all = All-cons (λ z. z < 256) (suc x) rest h all

pub bytes-trimmed : (b : List ℕ) → AreBytes b → AreBytes (trimmed b)
bytes-trimmed [] all = all
bytes-trimmed (b ∷ bs) all = subst AreBytes (sym (trimmed_is b bs)) (bytes-kept b (trimmed bs) (All-head (λ z. z < 256) b bs all) (bytes-trimmed bs (All-tail (λ z. z < 256) b bs all)))

pub bytes-block : (i : ℕ) (b : List ℕ) → AreBytes b → AreBytes (block_at i b)
bytes-block i b all = All-take (λ z. z < 256) 4096 (drop (4096 * i) b) (All-drop (λ z. z < 256) (4096 * i) b all)

-- ---- a file before its blocks are rewritten

pub length-resized : (s : Option Sight) (n : ℕ) → length (resized s n) ≡ n
length-resized None n = length-replicate {A = ℕ} n 0
length-resized (Some (Seen Directory at)) n = length-replicate {A = ℕ} n 0
length-resized (Some (Seen (Bytes b) at)) n = length-sized b n

zero_byte : (n x : ℕ) → get_or (replicate {A = ℕ} n 0) x 0 ≡ 0
zero_byte zero x = refl
zero_byte (suc n) zero = refl
zero_byte (suc n) (suc x) = zero_byte n x

-- a byte of it is that of the old file
pub resized_byte : (a : At) (n x : ℕ) → x < n → get_or (resized (sighted a) n) x 0 ≡ get_or (bytes_of a) x 0
resized_byte (Found (Dir date es)) n x lt = zero_byte n x
resized_byte (Found (File date b)) n x lt = sized_at b n x lt
resized_byte Missing n x lt = zero_byte n x
resized_byte Blocked n x lt = zero_byte n x

-- the bytes of a file that is seen
pub seen_bytes : (a : At) (c : List ℕ) (at : ℕ) → sighted a ≡ Some (Seen (Bytes c) at) → bytes_of a ≡ c
seen_bytes (Found (Dir date es)) c at e = absurd (cc)
seen_bytes (Found (File date b)) c at e = cc
seen_bytes Missing c at e = absurd (cc)
seen_bytes Blocked c at e = absurd (cc)

-- a block with the same bytes up to zeros at the end is already that of the new file
pub kept_block : (a r : At) (i : ℕ) (c : List ℕ) (at : ℕ) → trimmed (block_at i (bytes_of a)) ≡ trimmed (block_at i (bytes_of r)) → sighted r ≡ Some (Seen (Bytes c) at) → block_at i (resized (sighted a) (length c)) ≡ block_at i c
kept_block a r i c at alike seen =
    let l : length (resized (sighted a) (length c)) ≡ length c = length-resized (sighted a) (length c) in
    same_block i (resized (sighted a) (length c)) c l (λ j lj within.
    resized_byte a (length c) (4096 * i + j) (omega (arith, within, l)) ∙ sym (block_byte i (bytes_of a) j lj) ∙ sym (trimmed_byte (block_at i (bytes_of a)) j)
    ∙ ap (λ (x : List ℕ). get_or x j 0) (alike ∙ ap (λ (x : List ℕ). trimmed (block_at i x)) (seen_bytes r c at seen)) ∙ trimmed_byte (block_at i c) j ∙ block_byte i c j lj)
