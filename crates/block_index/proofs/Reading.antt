-- Reads, block by block.
use Rattle.std.proofs.Common.{◌≡◌, ℕ, ◌+◌, ◌-◌, ◌*◌, ◌/◌, ◌<◌, ◌≤◌, cond, min, List, [], ◌++◌, length, take, drop, get_or, sym, ap, refl, ◌∙◌, ⊎_elim, Option, arith, length-take, length-drop}
use Rattle.std.proofs.lemmas.List.{ext_get_or, get_or-append_right, get_or-take, get_or-drop, get_or_past}
use Rattle.std.proofs.lemmas.Bool.{cases_lt, lt-ltb, le-ltb}
use Rattle.block_index.specs.Read.{block_count}
use Rattle.reference.specs.Indexes.{byte_of, held}
use Rattle.reference.specs.Tree.{sized}
use Rattle.reference.proofs.Contents.{length-sized}
use Rattle.reference.proofs.FileBlocks.{sized_at, byte-held}

-- what is read of the file b, from off up to and without end, when all blocks before number i are
pub record SoFar (b : List ℕ) (off end i : ℕ) (items : List ℕ) : Type 0 where
  pub long : length items ≡ min (4096 * i) end - off
  pub same : (x : ℕ) → x < length items → get_or items x 0 ≡ get_or b (off + x) 0

pub read_starts : (b : List ℕ) (off end i : ℕ) (items : List ℕ) → 4096 * i ≤ off → items ≡ [] → SoFar b off end i items
read_starts b off end i items h e =
    let l : length items ≡ 0 = ap (λ (z : List ℕ). length z) e in
    record { long = omega arith; same = λ x g. absurd (omega arith) }

pub read_goes_on : (b : List ℕ) (off end i from to : ℕ) (o : Option (List ℕ)) (v old new : List ℕ) → v ≡ held o → ((j : ℕ) → j < 4096 → byte_of o j ≡ get_or b (4096 * i + j) 0)
    → off < 4096 * i + 4096 → 4096 * i < end → off < end → from ≡ off - 4096 * i → to ≡ min (end - 4096 * i) 4096
    → length new ≡ length old + (to - from) → ((x : ℕ) → x < length old → get_or new x 0 ≡ get_or old x 0) → ((x : ℕ) → length old ≤ x → x < length new → get_or new x 0 ≡ get_or v (from + (x - length old)) 0)
    → SoFar b off end i old → SoFar b off end (i + 1) new
read_goes_on b off end i from to o v old new ev hold h1 h2 h3 ef et long before added was =
    let l : length old ≡ min (4096 * i) end - off = was.long in
    record {
      long = omega arith;
      same = λ x g. ⊎_elim
          (λ (y : x < length old). before x y ∙ was.same x y)
          (λ (y : length old ≤ x).
          let j : 4096 * i + (from + (x - length old)) ≡ off + x = omega arith in
          added x y g ∙ ap (λ (z : List ℕ). get_or z (from + (x - length old)) 0) ev ∙ sym (byte-held o (from + (x - length old))) ∙ hold (from + (x - length old)) (omega arith) ∙ ap (λ (n : ℕ). get_or b n 0) j)
          (cases_lt x (length old));
    }

pub read_ends : (b : List ℕ) (off n len end i : ℕ) (items : List ℕ) → length b ≡ len → end ≡ min (off + n) len → off < end → end ≤ 4096 * i → SoFar b off end i items → items ≡ take n (drop off b)
read_ends b off n len end i items e f g h was =
    let l : length items ≡ min (4096 * i) end - off = was.long in
    let t : length (take n (drop off b)) ≡ min n (length (drop off b)) = length-take n (drop off b) in
    let d : length (drop off b) ≡ length b - off = length-drop off b in
    ext_get_or 0 items (take n (drop off b)) (omega arith) (λ x y. was.same x y ∙ sym (get_or-take n (drop off b) x 0 (omega arith) ∙ get_or-drop off b x 0))

pub read_none : (b : List ℕ) (off n len end : ℕ) (items : List ℕ) → length b ≡ len → end ≡ min (off + n) len → end ≤ off → items ≡ [] → items ≡ take n (drop off b)
read_none b off n len end items e f g h =
    let l : length items ≡ 0 = ap (λ (z : List ℕ). length z) h in
    let t : length (take n (drop off b)) ≡ min n (length (drop off b)) = length-take n (drop off b) in
    let d : length (drop off b) ≡ length b - off = length-drop off b in
    ext_get_or 0 items (take n (drop off b)) (omega arith) (λ x y. absurd (omega arith))

-- a byte of what was appended to the others
pub appended_at : (old v : List ℕ) (from to stop begin whole : ℕ) (ext new : List ℕ) → from ≤ to → stop ≡ min to (length v) → begin ≡ min from stop → whole ≡ length old + (to - from)
    → ext ≡ old ++ take (stop - begin) (drop begin v) → new ≡ sized ext whole → (x : ℕ) → length old ≤ x → x < length new → get_or new x 0 ≡ get_or v (from + (x - length old)) 0
appended_at old v from to stop begin whole ext new h es eb ew ee en x g f =
    let n : length new ≡ whole = ap (λ (z : List ℕ). length z) en ∙ length-sized ext whole in
    let d : length (drop begin v) ≡ length v - begin = length-drop begin v in
    let t : length (take (stop - begin) (drop begin v)) ≡ min (stop - begin) (length (drop begin v)) = length-take (stop - begin) (drop begin v) in
    ap (λ (z : List ℕ). get_or z x 0) en ∙ sized_at ext whole x (omega arith) ∙ ap (λ (z : List ℕ). get_or z x 0) ee
    ∙ get_or-append_right old (take (stop - begin) (drop begin v)) (length old) x 0 refl g
    ∙ ⊎_elim
    (λ (y : x - length old < stop - begin).
    let j : begin + (x - length old) ≡ from + (x - length old) = omega arith in
    get_or-take (stop - begin) (drop begin v) (x - length old) 0 y ∙ get_or-drop begin v (x - length old) 0 ∙ ap (λ (m : ℕ). get_or v m 0) j)
    (λ (y : stop - begin ≤ x - length old). get_or_past (take (stop - begin) (drop begin v)) (x - length old) 0 (omega arith) ∙ sym (get_or_past v (from + (x - length old)) 0 (omega arith)))
    (cases_lt (x - length old) (stop - begin))

-- ---- how many blocks

-- a loop that has counted each block from that of `off` up to that of `end`
pub counted_to : (off end stop index steps : ℕ) → off < end → end ≡ stop → index ≡ (end - 1) / 4096 + 1 → steps + off / 4096 ≡ index → steps ≡ block_count off stop
counted_to off end stop index steps g e i s = (let here : steps ≡ ((end - 1) / 4096 + 1) - off / 4096 = omega (arith, s, i) in here ∙ sym (ap (λ b. cond b (((end - 1) / 4096 + 1) - off / 4096) 0) (lt-ltb off end g))) ∙ ap (block_count off) e

-- none if there are no bytes
pub no_blocks : (off stop : ℕ) → stop ≤ off → block_count off stop ≡ 0
no_blocks off stop h = ap (λ b. cond b (((stop - 1) / 4096 + 1) - off / 4096) 0) (le-ltb off stop h)
