-- The bytes of a file that was written, cut or lengthened, in one list and in blocks.
use Rattle.std.proofs.Common.{◌≡◌, ℕ, ◌+◌, ◌-◌, ◌*◌, ◌<◌, ◌≤◌, min, max, List, ◌++◌, length, take, drop, get_or, replicate, true, false, cond, ltb, leb, sym, ap, refl, ◌∙◌, subst, Option, Some, None, ◌⊎◌, inl, inr, ⊎_elim, arith}
use Rattle.std.specs.Prelude.{option_map}
use Rattle.std.proofs.lemmas.List.{length-append, length-take, length-drop, get_or_append_left, get_or-append_right, get_or-take, get_or-drop, get_or-replicate, get_or_past}
use Rattle.std.proofs.lemmas.Bool.{cases_lt, ltb-true, ltb-false, leb-true, leb-false, and_parts, and_cases}
use Rattle.reference.specs.Tree.{over, sized}
use Rattle.reference.proofs.Contents.{length-over, length-sized}
use Rattle.reference.specs.Indexes.{byte_of, Hold, held, touches, piece, patched, cut_block}

-- ---- lengthened or cut
-- a byte before the new end is the old one, or zero past the old end
pub sized_at : (b : List ℕ) (n x : ℕ) → x < n → get_or (sized b n) x 0 ≡ get_or b x 0
sized_at b n x h =
    let l : length (take n b) ≡ min n (length b) = length-take n b in
    ⊎_elim
    (λ (g : x < length b). let m : x < length (take n b) = omega arith in get_or_append_left (take n b) (replicate (n - length b) 0) 0 x m ∙ get_or-take n b x 0 h)
    (λ (g : length b ≤ x). get_or-append_right (take n b) (replicate (n - length b) 0) (length b) x 0 (omega arith) g ∙ get_or-replicate (n - length b) (x - length b) 0 0 (omega arith) ∙ sym (get_or_past b x 0 g))
    (cases_lt x (length b))

-- past the new end there is no byte
pub sized_past : (b : List ℕ) (n x : ℕ) → n ≤ x → get_or (sized b n) x 0 ≡ 0
sized_past b n x h = get_or_past (sized b n) x 0 (let l : length (sized b n) ≡ n = length-sized b n in omega arith)

-- ---- overlaid
-- before the offset the old byte
pub over_before : (b : List ℕ) (off : ℕ) (w : List ℕ) (x : ℕ) → x < off → get_or (over b off w) x 0 ≡ get_or b x 0
over_before b off w x h =
    let l : length (sized b off) ≡ off = length-sized b off in
    let m : length (sized b off ++ w) ≡ length (sized b off) + length w = length-append (sized b off) w in
    get_or_append_left (sized b off ++ w) (drop (off + length w) b) 0 x (omega arith)
    ∙ get_or_append_left (sized b off) w 0 x (omega arith)
    ∙ sized_at b off x h

-- from the offset on the new one
pub over_inside : (b : List ℕ) (off : ℕ) (w : List ℕ) (x : ℕ) → off ≤ x → x < off + length w → get_or (over b off w) x 0 ≡ get_or w (x - off) 0
over_inside b off w x h g =
    let l : length (sized b off) ≡ off = length-sized b off in
    let m : length (sized b off ++ w) ≡ length (sized b off) + length w = length-append (sized b off) w in
    get_or_append_left (sized b off ++ w) (drop (off + length w) b) 0 x (omega arith)
    ∙ get_or-append_right (sized b off) w off x 0 l h

-- past the new bytes the old one
pub over_after : (b : List ℕ) (off : ℕ) (w : List ℕ) (x : ℕ) → off + length w ≤ x → get_or (over b off w) x 0 ≡ get_or b x 0
over_after b off w x h =
    let l : length (sized b off) ≡ off = length-sized b off in
    let m : length (sized b off ++ w) ≡ length (sized b off) + length w = length-append (sized b off) w in
    let e : (off + length w) + (x - (off + length w)) ≡ x = omega arith in
    get_or-append_right (sized b off ++ w) (drop (off + length w) b) (off + length w) x 0 (omega arith) h
    ∙ get_or-drop (off + length w) b (x - (off + length w)) 0
    ∙ ap (λ (y : ℕ). get_or b y 0) e

-- ---- the blocks of a file after a write
-- a byte of a block is that of the bytes it holds
pub byte-held : (o : Option (List ℕ)) (j : ℕ) → byte_of o j ≡ get_or (held o) j 0
byte-held None j = refl
byte-held (Some v) j = refl

-- how many bytes of a write lie in a block
length-piece : (off : ℕ) (w : List ℕ) (i : ℕ) → length (piece off w i) ≡ min (4096 - (off - 4096 * i)) (length w - (4096 * i - off))
length-piece off w i = length-take (4096 - (off - 4096 * i)) (drop (4096 * i - off) w) ∙ ap (λ (y : ℕ). min (4096 - (off - 4096 * i)) y) (length-drop (4096 * i - off) w)

-- a byte of a block that the write reaches
patched_byte : (off : ℕ) (w : List ℕ) (b : List ℕ) (i j : ℕ) (v : List ℕ) → j < 4096 → off < 4096 * i + 4096 → 4096 * i < off + length w → get_or v j 0 ≡ get_or b (4096 * i + j) 0
    → get_or (over v (off - 4096 * i) (piece off w i)) j 0 ≡ get_or (over b off w) (4096 * i + j) 0
patched_byte off w b i j v lj lo hi was =
    let k : length (piece off w i) ≡ min (4096 - (off - 4096 * i)) (length w - (4096 * i - off)) = length-piece off w i in
    ⊎_elim
    (λ (g : 4096 * i + j < off). over_before v (off - 4096 * i) (piece off w i) j (omega arith) ∙ was ∙ sym (over_before b off w (4096 * i + j) g))
    (λ (g : off ≤ 4096 * i + j). ⊎_elim
    (λ (f : 4096 * i + j < off + length w).
    let e : (4096 * i - off) + (j - (off - 4096 * i)) ≡ 4096 * i + j - off = omega arith in
    over_inside v (off - 4096 * i) (piece off w i) j (omega arith) (omega arith)
    ∙ get_or-take (4096 - (off - 4096 * i)) (drop (4096 * i - off) w) (j - (off - 4096 * i)) 0 (omega arith)
    ∙ get_or-drop (4096 * i - off) w (j - (off - 4096 * i)) 0
    ∙ ap (λ (y : ℕ). get_or w y 0) e
    ∙ sym (over_inside b off w (4096 * i + j) g f))
    (λ (f : off + length w ≤ 4096 * i + j).
    over_after v (off - 4096 * i) (piece off w i) j (omega arith) ∙ was ∙ sym (over_after b off w (4096 * i + j) f))
    (cases_lt (4096 * i + j) (off + length w)))
    (cases_lt (4096 * i + j) off)

-- a byte of a block that the write does not reach
untouched_byte : (off : ℕ) (w : List ℕ) (b : List ℕ) (i j : ℕ) → j < 4096 → (4096 * i + 4096 ≤ off) ⊎ (off + length w ≤ 4096 * i) → get_or b (4096 * i + j) 0 ≡ get_or (over b off w) (4096 * i + j) 0
untouched_byte off w b i j lj (inl h) = sym (over_before b off w (4096 * i + j) (omega arith))
untouched_byte off w b i j lj (inr h) = sym (over_after b off w (4096 * i + j) (omega arith))

-- a write that does not reach a block ends before it or begins after it
away : (off : ℕ) (w : List ℕ) (i : ℕ) → touches off w i ≡ false → (4096 * i + 4096 ≤ off) ⊎ (off + length w ≤ 4096 * i)
away off w i h = ⊎_elim (λ (g : ltb off (4096 * i + 4096) ≡ false). inl (ltb-false off (4096 * i + 4096) g)) (λ (g : ltb (4096 * i) (off + length w) ≡ false). inr (ltb-false (4096 * i) (off + length w) g)) (and_cases _ _ h)

-- a block that the write reaches ends within the file
patched_within : (off : ℕ) (w : List ℕ) (b : List ℕ) (i : ℕ) (v : List ℕ) (j : ℕ) → off < 4096 * i + 4096 → 4096 * i < off + length w → ((k : ℕ) → k < length v → (k < 4096) × (4096 * i + k < length b))
    → j < length (over v (off - 4096 * i) (piece off w i)) → (j < 4096) × (4096 * i + j < length (over b off w))
patched_within off w b i v j lo hi was h =
    let k : length (piece off w i) ≡ min (4096 - (off - 4096 * i)) (length w - (4096 * i - off)) = length-piece off w i in
    let n : length (over b off w) ≡ max (length b) (off + length w) = length-over b off w in
    let m : length (over v (off - 4096 * i) (piece off w i)) ≡ max (length v) (off - 4096 * i + length (piece off w i)) = length-over v (off - 4096 * i) (piece off w i) in
    ⊎_elim
    (λ (g : j < length v). let s : (j < 4096) × (4096 * i + j < length b) = was j g in (s.0, omega arith))
    (λ (g : length v ≤ j). (omega arith, omega arith))
    (cases_lt j (length v))

-- the bytes that a block holds end within the file
held_within : (b : List ℕ) (i : ℕ) (o : Option (List ℕ)) → ((v : List ℕ) (j : ℕ) → o ≡ Some v → j < length v → (j < 4096) × (4096 * i + j < length b)) → (k : ℕ) → k < length (held o) → (k < 4096) × (4096 * i + k < length b)
held_within b i None h k g = absurd (omega arith)
held_within b i (Some v) h k g = h v k refl g

-- the blocks of a file after a write hold the bytes laid over it
pub write_holds : (off : ℕ) (w : List ℕ) (block : ℕ → Option (List ℕ)) (b : List ℕ) → Hold block b → Hold (λ i. patched off w i (block i)) (over b off w)
write_holds off w block b hold = record {
  byte = λ i j li lj. elim (touches off w i) as (λ t. touches off w i ≡ t → byte_of (cond t (Some (over (held (block i)) (off - 4096 * i) (piece off w i))) (block i)) j ≡ get_or (over b off w) (4096 * i + j) 0) [
    | true ↦ λ e. let p : (ltb off (4096 * i + 4096) ≡ true) × (ltb (4096 * i) (off + length w) ≡ true) = and_parts _ _ e in
        patched_byte off w b i j (held (block i)) lj (ltb-true off (4096 * i + 4096) p.0) (ltb-true (4096 * i) (off + length w) p.1) (sym (byte-held (block i) j) ∙ hold.byte i j li lj)
    | false ↦ λ e. hold.byte i j li lj ∙ untouched_byte off w b i j lj (away off w i e)
  ] refl;
  within = λ i v j li. elim (touches off w i) as (λ t. touches off w i ≡ t → cond t (Some (over (held (block i)) (off - 4096 * i) (piece off w i))) (block i) ≡ Some v → j < length v → (j < 4096) × (4096 * i + j < length (over b off w))) [
    | true ↦ λ e f h. let p : (ltb off (4096 * i + 4096) ≡ true) × (ltb (4096 * i) (off + length w) ≡ true) = and_parts _ _ e in
        let s : over (held (block i)) (off - 4096 * i) (piece off w i) ≡ v = cc in
        patched_within off w b i (held (block i)) j (ltb-true off (4096 * i + 4096) p.0) (ltb-true (4096 * i) (off + length w) p.1) (held_within b i (block i) (λ u k g l. hold.within i u k li g l)) (subst (λ (u : List ℕ). j < length u) (sym s) h)
    | false ↦ λ e f h. let s : (j < 4096) × (4096 * i + j < length b) = hold.within i v j li f h in
        let n : length (over b off w) ≡ max (length b) (off + length w) = length-over b off w in (s.0, omega arith)
  ] refl;
}

-- ---- the blocks of a file after a cut
-- a byte of a block that the cut leaves in part
cut_byte : (o : Option (List ℕ)) (c j x : ℕ) (b : List ℕ) (n : ℕ) → byte_of o j ≡ get_or b x 0 → (j < c → x < n) → (c ≤ j → n ≤ x) → byte_of (option_map (take c) o) j ≡ get_or (sized b n) x 0
cut_byte o c j x b n was below above =
    ⊎_elim
    (λ (g : j < c). kept o g ∙ was ∙ sym (sized_at b n x (below g)))
    (λ (g : c ≤ j). lost o g ∙ sym (sized_past b n x (above g)))
    (cases_lt j c)
  where
    kept : (o : Option (List ℕ)) → j < c → byte_of (option_map (take c) o) j ≡ byte_of o j
    kept None g = refl
    kept (Some v) g = get_or-take c v j 0 g

    lost : (o : Option (List ℕ)) → c ≤ j → byte_of (option_map (take c) o) j ≡ 0
    lost None g = refl
    lost (Some v) g = get_or_past (take c v) j 0 (let l : length (take c v) ≡ min c (length v) = length-take c v in omega arith)

-- such a block is the beginning of the old one
cut_from : (o : Option (List ℕ)) (c : ℕ) (v : List ℕ) → option_map (take c) o ≡ Some v → (u : List ℕ) × (o ≡ Some u) × (length v ≡ min c (length u))
cut_from None c v e = absurd (cc)
cut_from (Some u) c v e = (u, refl, (let is : take c u ≡ v = cc in ap (λ (z : List ℕ). length z) (sym is) ∙ length-take c u))

-- the blocks of a file after a cut to n bytes hold the file made n bytes long
pub cut_holds : (n : ℕ) (block : ℕ → Option (List ℕ)) (b : List ℕ) → Hold block b → Hold (λ i. cut_block n i (block i)) (sized b n)
cut_holds n block b hold = record {
  byte = λ i j li lj. elim (leb n (4096 * i)) as (λ t. leb n (4096 * i) ≡ t → byte_of (cond t None (option_map (take (n - 4096 * i)) (block i))) j ≡ get_or (sized b n) (4096 * i + j) 0) [
    | true ↦ λ e. let l : n ≤ 4096 * i = leb-true n (4096 * i) e in sym (sized_past b n (4096 * i + j) (omega arith))
    | false ↦ λ e. let l : 4096 * i < n = leb-false n (4096 * i) e in
        cut_byte (block i) (n - 4096 * i) j (4096 * i + j) b n (hold.byte i j li lj) (λ g. omega arith) (λ g. omega arith)
  ] refl;
  within = λ i v j li. elim (leb n (4096 * i)) as (λ t. leb n (4096 * i) ≡ t → cond t None (option_map (take (n - 4096 * i)) (block i)) ≡ Some v → j < length v → (j < 4096) × (4096 * i + j < length (sized b n))) [
    | true ↦ λ e f h. absurd (cc)
    | false ↦ λ e f h.
        let c : (u : List ℕ) × (block i ≡ Some u) × (length v ≡ min (n - 4096 * i) (length u)) = cut_from (block i) (n - 4096 * i) v f in
        let len : length v ≡ min (n - 4096 * i) (length c.0) = c.2 in
        let s : (j < 4096) × (4096 * i + j < length b) = hold.within i c.0 j li c.1 (omega arith) in
        let l : length (sized b n) ≡ n = length-sized b n in
        (s.0, omega arith)
  ] refl;
}

-- the blocks of a file hold it also when zeros were put to its end
pub lengthen_holds : (n : ℕ) (block : ℕ → Option (List ℕ)) (b : List ℕ) → length b ≤ n → Hold block b → Hold block (sized b n)
lengthen_holds n block b longer hold = record {
  byte = λ i j li lj. hold.byte i j li lj ∙ ⊎_elim
      (λ (g : 4096 * i + j < n). sym (sized_at b n (4096 * i + j) g))
      (λ (g : n ≤ 4096 * i + j). get_or_past b (4096 * i + j) 0 (omega arith) ∙ sym (sized_past b n (4096 * i + j) g))
      (cases_lt (4096 * i + j) n);
  within = λ i v j li e lj.
      let s : (j < 4096) × (4096 * i + j < length b) = hold.within i v j li e lj in
      let l : length (sized b n) ≡ n = length-sized b n in
      (s.0, omega arith);
}
