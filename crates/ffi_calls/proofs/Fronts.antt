-- The front of a buffer, block by block.
use Rattle.std.proofs.Common.{◌≡◌, ℕ, ◌+◌, ◌-◌, ◌*◌, ◌≤◌, ◌<◌, min, List, length, take, drop, get_or, refl, sym, ap, subst, ◌∙◌, Option, None, slice_index_or, arith}
use Rattle.std.proofs.lemmas.List.{length-take-le, get_or-take, drop-drop}
use Rattle.pathkey.specs.Keys.{block_key}
use Rattle.pathkey.specs.Names.{Path}
use Rattle.reference.specs.Indexes.{Blocks, byte_of, held}
use Rattle.block_index.proofs.Reading.{SoFar, read_goes_on, read_ends}

-- these are the file's blocks from the one with this number on, in their order
abbrev pub AreBlocks : Blocks → Path → ℕ → List (Option (List ℕ)) → Type 0
AreBlocks d p first vs = (n : ℕ) → n < length vs → slice_index_or vs n None ≡ d (block_key p (first + n))

-- what is read of the file b, from off on and before block i, is the front of the buffer
abbrev pub FrontIs : List ℕ → ℕ → ℕ → ℕ → List ℕ → Type 0
FrontIs b off end i out = SoFar b off end i (take (min (4096 * i) end - off) out)

pub fill_goes_on : (b : List ℕ) (off end first n from to done : ℕ) (o : Option (List ℕ)) (v old new : List ℕ) → v ≡ held o → ((j : ℕ) → j < 4096 → byte_of o j ≡ get_or b (4096 * (first + n) + j) 0)
    → off < 4096 * (first + n) + 4096 → 4096 * (first + n) < end → off < end → from ≡ off - (first + n) * 4096 → to ≡ min (end - (first + n) * 4096) 4096 → done ≡ (first + n) * 4096 + from - off
    → done + (to - from) ≤ length old → length new ≡ length old → ((x : ℕ) → x < done → get_or new x 0 ≡ get_or old x 0) → ((x : ℕ) → done ≤ x → x < done + (to - from) → get_or new x 0 ≡ get_or v (from + (x - done)) 0)
    → FrontIs b off end (first + n) old → FrontIs b off end (first + (n + 1)) new
fill_goes_on b off end first n from to done o v old new ev hold h1 h2 h3 ef et ed room long before added was =
    let at : min (4096 * (first + n)) end - off ≡ done = omega arith in
    let next : min (4096 * (first + (n + 1))) end - off ≡ done + (to - from) = omega arith in
    let front : length (take (min (4096 * (first + n)) end - off) old) ≡ min (4096 * (first + n)) end - off = length-take-le (min (4096 * (first + n)) end - off) old (omega arith) in
    let longer : length (take (min (4096 * (first + (n + 1))) end - off) new) ≡ min (4096 * (first + (n + 1))) end - off = length-take-le (min (4096 * (first + (n + 1))) end - off) new (omega arith) in
    let one : first + n + 1 ≡ first + (n + 1) = omega arith in
    subst (λ (k : ℕ). SoFar b off end k (take (min (4096 * (first + (n + 1))) end - off) new)) one
    (read_goes_on b off end (first + n) from to o v (take (min (4096 * (first + n)) end - off) old) (take (min (4096 * (first + (n + 1))) end - off) new) ev hold h1 h2 h3 (omega arith) (omega arith) (omega arith)
    (λ x g. get_or-take (min (4096 * (first + (n + 1))) end - off) new x 0 (omega arith) ∙ before x (omega arith) ∙ sym (get_or-take (min (4096 * (first + n)) end - off) old x 0 (omega arith)))
    (λ x g h.
    let same : from + (x - done) ≡ from + (x - length (take (min (4096 * (first + n)) end - off) old)) = omega arith in
    get_or-take (min (4096 * (first + (n + 1))) end - off) new x 0 (omega arith) ∙ added x (omega arith) (omega arith) ∙ ap (λ (m : ℕ). get_or v m 0) same)
    was)

pub fill_ends : (b : List ℕ) (off n end i : ℕ) (out : List ℕ) → end ≡ min (off + n) (length b) → off < end → end ≤ 4096 * i → FrontIs b off end i out → take (end - off) out ≡ take n (drop off b)
fill_ends b off n end i out is some h was =
    let all : end - off ≡ min (4096 * i) end - off = omega arith in
    ap (λ (k : ℕ). take k out) all ∙ read_ends b off n (length b) end i (take (min (4096 * i) end - off) out) refl is some h was

-- the bytes after the front are unchanged
pub rest_stays : (k m : ℕ) (old new : List ℕ) → k ≤ m → drop k new ≡ drop k old → drop m new ≡ drop m old
rest_stays k m old new h e =
    let on : m ≡ k + (m - k) = omega arith in
    ap (λ (q : ℕ). drop q new) on ∙ sym (drop-drop (m - k) k new) ∙ ap (drop (m - k)) e ∙ drop-drop (m - k) k old ∙ ap (λ (q : ℕ). drop q old) (sym on)
