-- Bytes that overwrite those of a block, once and twice.
use Rattle.std.proofs.Common.{◌≡◌, true, false, leb, ℕ, [], ◌+◌, ◌-◌, ◌<◌, ◌≤◌, min, max, List, ◌++◌, length, take, drop, get_or, sym, ap, refl, ◌∙◌, ◌⊎◌, inl, inr, ⊎_elim, arith, length-append, length-take, length-drop}
use Rattle.std.proofs.lemmas.List.{ext_get_or, take_all, take-append-le, drop_min, get_or_append_left, get_or-append_right, get_or-take, get_or-drop, get_or_past}
use Rattle.std.proofs.lemmas.Bool.{cases_lt, leb-true, leb-false, and_parts, and_cases}
use borrow.Rule.Slice.PartMut.{post_of}
use Rattle.reference.specs.Tree.{over, sized}
use Rattle.reference.proofs.Contents.{length-over, length-sized}
use Rattle.reference.proofs.FileBlocks.{sized_at, over_before, over_inside, over_after}
use Rattle.block_index.specs.Patches.{is_touching, joined}

-- what touches begins at or before the other's end
pub touching_meets : (a : ℕ) (v : List ℕ) (c : ℕ) (w : List ℕ) → is_touching a v c w ≡ true → (c ≤ a + length v) × (a ≤ c + length w)
touching_meets a v c w h = let p : (leb c (a + length v) ≡ true) × (leb a (c + length w) ≡ true) = and_parts _ _ h in (leb-true c (a + length v) p.0, leb-true a (c + length w) p.1)

-- layers that do not touch are apart
pub touching_not : (a : ℕ) (v : List ℕ) (c : ℕ) (w : List ℕ) → is_touching a v c w ≡ false → (a + length v < c) ⊎ (c + length w < a)
touching_not a v c w h = ⊎_elim
    (λ (g : leb c (a + length v) ≡ false). inl (leb-false c (a + length v) g))
    (λ (g : leb a (c + length w) ≡ false). inr (leb-false a (c + length w) g))
    (and_cases _ _ h)

-- how long two patches are together
length-joined : (a : ℕ) (v : List ℕ) (c : ℕ) (w : List ℕ) → c ≤ a + length v → length (joined a v c w) ≡ (c - a) + length w + (length v - (c + length w - a))
length-joined a v c w h =
    let l : length (take (c - a) v) ≡ min (c - a) (length v) = length-take (c - a) v in
    let m : length (take (c - a) v ++ w) ≡ length (take (c - a) v) + length w = length-append (take (c - a) v) w in
    let d : length (drop (c + length w - a) v) ≡ length v - (c + length w - a) = length-drop (c + length w - a) v in
    let n : length (joined a v c w) ≡ length (take (c - a) v ++ w) + length (drop (c + length w - a) v) = length-append (take (c - a) v ++ w) (drop (c + length w - a) v) in
    omega arith

-- a byte of them before the later one
joined_before : (a : ℕ) (v : List ℕ) (c : ℕ) (w : List ℕ) (y : ℕ) → c ≤ a + length v → y < c - a → get_or (joined a v c w) y 0 ≡ get_or v y 0
joined_before a v c w y h g =
    let l : length (take (c - a) v) ≡ min (c - a) (length v) = length-take (c - a) v in
    let m : length (take (c - a) v ++ w) ≡ length (take (c - a) v) + length w = length-append (take (c - a) v) w in
    get_or_append_left (take (c - a) v ++ w) (drop (c + length w - a) v) 0 y (omega arith)
    ∙ get_or_append_left (take (c - a) v) w 0 y (omega arith)
    ∙ get_or-take (c - a) v y 0 g

-- one of the later
joined_inside : (a : ℕ) (v : List ℕ) (c : ℕ) (w : List ℕ) (y : ℕ) → c ≤ a + length v → c - a ≤ y → y < (c - a) + length w → get_or (joined a v c w) y 0 ≡ get_or w (y - (c - a)) 0
joined_inside a v c w y h g f =
    let l : length (take (c - a) v) ≡ min (c - a) (length v) = length-take (c - a) v in
    let m : length (take (c - a) v ++ w) ≡ length (take (c - a) v) + length w = length-append (take (c - a) v) w in
    get_or_append_left (take (c - a) v ++ w) (drop (c + length w - a) v) 0 y (omega arith)
    ∙ get_or-append_right (take (c - a) v) w (c - a) y 0 (omega arith) g

-- and one past it
joined_after : (a : ℕ) (v : List ℕ) (c : ℕ) (w : List ℕ) (y : ℕ) → c ≤ a + length v → (c - a) + length w ≤ y → get_or (joined a v c w) y 0 ≡ get_or v ((c + length w - a) + (y - ((c - a) + length w))) 0
joined_after a v c w y h g =
    let l : length (take (c - a) v) ≡ min (c - a) (length v) = length-take (c - a) v in
    let m : length (take (c - a) v ++ w) ≡ length (take (c - a) v) + length w = length-append (take (c - a) v) w in
    get_or-append_right (take (c - a) v ++ w) (drop (c + length w - a) v) ((c - a) + length w) y 0 (omega arith) g
    ∙ get_or-drop (c + length w - a) v (y - ((c - a) + length w)) 0

-- two patches that meet are one
pub over_twice : (b : List ℕ) (a : ℕ) (v : List ℕ) (c : ℕ) (w : List ℕ) → c ≤ a + length v → a ≤ c + length w → over b (min a c) (joined a v c w) ≡ over (over b a v) c w
over_twice b a v c w h g =
    let n : length (joined a v c w) ≡ (c - a) + length w + (length v - (c + length w - a)) = length-joined a v c w h in
    let r : length (over b (min a c) (joined a v c w)) ≡ max (length b) (min a c + length (joined a v c w)) = length-over b (min a c) (joined a v c w) in
    let o : length (over b a v) ≡ max (length b) (a + length v) = length-over b a v in
    let l : length (over (over b a v) c w) ≡ max (length (over b a v)) (c + length w) = length-over (over b a v) c w in
    ext_get_or 0 _ _ (omega arith) (λ x _. ⊎_elim
    (λ (x1 : x < min a c). over_before b (min a c) (joined a v c w) x x1 ∙ sym (over_before b a v x (omega arith)) ∙ sym (over_before (over b a v) c w x (omega arith)))
    (λ (x1 : min a c ≤ x). ⊎_elim
    (λ (x2 : x < c).
    let e : x - min a c ≡ x - a = omega arith in
    over_inside b (min a c) (joined a v c w) x x1 (omega arith)
    ∙ joined_before a v c w (x - min a c) h (omega arith)
    ∙ ap (λ (y : ℕ). get_or v y 0) e
    ∙ sym (over_inside b a v x (omega arith) (omega arith))
    ∙ sym (over_before (over b a v) c w x x2))
    (λ (x2 : c ≤ x). ⊎_elim
    (λ (x3 : x < c + length w).
    let e : x - min a c - (c - a) ≡ x - c = omega arith in
    over_inside b (min a c) (joined a v c w) x x1 (omega arith)
    ∙ joined_inside a v c w (x - min a c) h (omega arith) (omega arith)
    ∙ ap (λ (y : ℕ). get_or w y 0) e
    ∙ sym (over_inside (over b a v) c w x x2 x3))
    (λ (x3 : c + length w ≤ x). ⊎_elim
    (λ (x4 : x < a + length v).
    let e : (c + length w - a) + (x - min a c - ((c - a) + length w)) ≡ x - a = omega arith in
    over_inside b (min a c) (joined a v c w) x x1 (omega arith)
    ∙ joined_after a v c w (x - min a c) h (omega arith)
    ∙ ap (λ (y : ℕ). get_or v y 0) e
    ∙ sym (over_inside b a v x (omega arith) x4)
    ∙ sym (over_after (over b a v) c w x x3))
    (λ (x4 : a + length v ≤ x).
    over_after b (min a c) (joined a v c w) x (omega arith)
    ∙ sym (over_after b a v x x4)
    ∙ sym (over_after (over b a v) c w x x3))
    (cases_lt x (a + length v)))
    (cases_lt x (c + length w)))
    (cases_lt x c))
    (cases_lt x (min a c)))

-- a patch that covers an earlier one replaces it
pub over_covers : (b : List ℕ) (a : ℕ) (v : List ℕ) (c : ℕ) (w : List ℕ) → c ≤ a → a + length v ≤ c + length w → over b c w ≡ over (over b a v) c w
over_covers b a v c w h g =
    let r : length (over b c w) ≡ max (length b) (c + length w) = length-over b c w in
    let o : length (over b a v) ≡ max (length b) (a + length v) = length-over b a v in
    let l : length (over (over b a v) c w) ≡ max (length (over b a v)) (c + length w) = length-over (over b a v) c w in
    ext_get_or 0 _ _ (omega arith) (λ x _. ⊎_elim
    (λ (x1 : x < c). over_before b c w x x1 ∙ sym (over_before b a v x (omega arith)) ∙ sym (over_before (over b a v) c w x x1))
    (λ (x1 : c ≤ x). ⊎_elim
    (λ (x2 : x < c + length w). over_inside b c w x x1 x2 ∙ sym (over_inside (over b a v) c w x x1 x2))
    (λ (x2 : c + length w ≤ x). over_after b c w x x2 ∙ sym (over_after b a v x (omega arith)) ∙ sym (over_after (over b a v) c w x x2))
    (cases_lt x (c + length w)))
    (cases_lt x c))

-- bytes that were written in place of others overwrite them
pub put_over : (xs b : List ℕ) (off : ℕ) (w : List ℕ) (k : ℕ) → k ≡ length w → off + length w ≤ length xs → length xs ≡ max (length b) (off + length w) → ((x : ℕ) → (x < off) ⊎ (off + length w ≤ x) → get_or xs x 0 ≡ get_or b x 0)
    → take off xs ++ (w ++ post_of off k xs) ≡ over b off w
put_over xs b off w k e fits long was =
    let l : length (take off xs) ≡ min off (length xs) = length-take off xs in
    let d : length (drop off xs) ≡ length xs - off = length-drop off xs in
    let q : length (drop k (drop off xs)) ≡ length (drop off xs) - k = length-drop k (drop off xs) in
    let r : length (w ++ drop k (drop off xs)) ≡ length w + length (drop k (drop off xs)) = length-append w (drop k (drop off xs)) in
    let n : length (take off xs ++ (w ++ drop k (drop off xs))) ≡ length (take off xs) + length (w ++ drop k (drop off xs)) = length-append (take off xs) (w ++ drop k (drop off xs)) in
    let o : length (over b off w) ≡ max (length b) (off + length w) = length-over b off w in
    ext_get_or 0 (take off xs ++ (w ++ drop k (drop off xs))) (over b off w) (omega arith) (λ x _. ⊎_elim
    (λ (x1 : x < off). get_or_append_left (take off xs) (w ++ drop k (drop off xs)) 0 x (omega arith) ∙ get_or-take off xs x 0 x1 ∙ was x (inl x1) ∙ sym (over_before b off w x x1))
    (λ (x1 : off ≤ x). get_or-append_right (take off xs) (w ++ drop k (drop off xs)) off x 0 (omega arith) x1 ∙ ⊎_elim
    (λ (x2 : x < off + length w). get_or_append_left w (drop k (drop off xs)) 0 (x - off) (omega arith) ∙ sym (over_inside b off w x x1 x2))
    (λ (x2 : off + length w ≤ x).
    let i : off + (k + (x - off - length w)) ≡ x = omega arith in
    get_or-append_right w (drop k (drop off xs)) (length w) (x - off) 0 refl (omega arith)
    ∙ get_or-drop k (drop off xs) (x - off - length w) 0
    ∙ get_or-drop off xs (k + (x - off - length w)) 0
    ∙ ap (λ (y : ℕ). get_or xs y 0) i
    ∙ was x (inr x2)
    ∙ sym (over_after b off w x x2))
    (cases_lt x (off + length w)))
    (cases_lt x off))

pub put_over_all : (xs ys b : List ℕ) (off : ℕ) (u w : List ℕ) (k : ℕ) → xs ≡ ys → u ≡ w → k ≡ length w → off + length w ≤ length ys → length ys ≡ max (length b) (off + length w) → ((x : ℕ) → (x < off) ⊎ (off + length w ≤ x) → get_or ys x 0 ≡ get_or b x 0)
    → take (length ys) ((take off xs ++ (u ++ post_of off k xs)) ++ drop (length (take off xs ++ (u ++ post_of off k xs))) ys) ≡ over b off w
put_over_all xs ys b off u w k e f g fits long was =
    let l : length xs ≡ length ys = ap (λ (z : List ℕ). length z) e in
    let o : length (over b off w) ≡ max (length b) (off + length w) = length-over b off w in
    let p : take off xs ++ (u ++ post_of off k xs) ≡ over b off w =
    ap (λ (z : List ℕ). take off xs ++ (z ++ post_of off k xs)) f ∙ put_over xs b off w k g (omega arith) (omega arith) (λ x h. ap (λ (z : List ℕ). get_or z x 0) e ∙ was x h) in
    ap (λ (z : List ℕ). take (length ys) (z ++ drop (length z) ys)) p
    ∙ take-append-le (length ys) (over b off w) (drop (length (over b off w)) ys) (omega arith)
    ∙ take_all (length ys) (over b off w) (omega arith)

-- the bytes of two patches as they are put together
pub joined_made : (a : ℕ) (v : List ℕ) (c : ℕ) (w : List ℕ) (s k : ℕ) (b0 b1 b2 b3 : List ℕ) → s ≡ c - a → k ≡ min (length v) (c + length w - a)
    → b0 ≡ [] → b1 ≡ b0 ++ take s v → b2 ≡ b1 ++ w → b3 ≡ b2 ++ drop k v → b3 ≡ joined a v c w
joined_made a v c w s k b0 b1 b2 b3 e f g h i j =
    let d : drop k v ≡ drop (c + length w - a) v = ap (λ (n : ℕ). drop n v) (let m : k ≡ min (c + length w - a) (length v) = omega arith in m) ∙ drop_min (c + length w - a) v in
    let t : take s v ≡ take (c - a) v = ap (λ (n : ℕ). take n v) e in
    let b1' : b1 ≡ take (c - a) v = h ∙ ap (λ (z : List ℕ). z ++ take s v) g ∙ t in
    j ∙ ap (λ (z : List ℕ). z ++ drop k v) (i ∙ ap (λ (z : List ℕ). z ++ w) b1') ∙ ap (λ (z : List ℕ). (take (c - a) v ++ w) ++ z) d

-- the bytes are long enough to be written over, and those outside stay
pub record IsReady (ys b : List ℕ) (off n : ℕ) : Type 0 where
  pub fits : off + n ≤ length ys
  pub long : length ys ≡ max (length b) (off + n)
  pub was : (x : ℕ) → (x < off) ⊎ (off + n ≤ x) → get_or ys x 0 ≡ get_or b x 0

pub kept_ready : (ys b : List ℕ) (off n : ℕ) → ys ≡ b → off + n ≤ length b → IsReady ys b off n
kept_ready ys b off n e h =
    let l : length ys ≡ length b = ap (λ (z : List ℕ). length z) e in
    record { fits = omega arith; long = omega arith; was = λ x _. ap (λ (z : List ℕ). get_or z x 0) e }

pub grown_ready : (ys b : List ℕ) (off n : ℕ) → ys ≡ sized b (off + n) → length b < off + n → IsReady ys b off n
grown_ready ys b off n e h =
    let l : length ys ≡ off + n = ap (λ (z : List ℕ). length z) e ∙ length-sized b (off + n) in
    record {
      fits = omega arith;
      long = omega arith;
      was = λ x _. ⊎_elim
          (λ (g : x < off + n). ap (λ (z : List ℕ). get_or z x 0) e ∙ sized_at b (off + n) x g)
          (λ (g : off + n ≤ x). get_or_past ys x 0 (omega arith) ∙ sym (get_or_past b x 0 (omega arith)))
          (cases_lt x (off + n));
    }

-- two patches that meet are one, whatever they are called
pub over_twice_of : (b : List ℕ) (a : ℕ) (v : List ℕ) (c : ℕ) (w : List ℕ) (off : ℕ) (bytes : List ℕ) (a' : ℕ) (v' : List ℕ) (c' : ℕ) (w' : List ℕ) → a' ≡ a → v' ≡ v → c' ≡ c → w' ≡ w
    → off ≡ min a' c' → bytes ≡ joined a' v' c' w' → c' ≤ a' + length v' → a' ≤ c' + length w' → over b off bytes ≡ over (over b a v) c w
over_twice_of b a v c w off bytes a' v' c' w' ea ev ec ew eo eb h g =
    ap (λ (n : ℕ). over b n bytes) eo ∙ ap (λ (z : List ℕ). over b (min a' c') z) eb ∙ over_twice b a' v' c' w' h g
    ∙ ap (λ (n : ℕ). over (over b n v') c' w') ea ∙ ap (λ (z : List ℕ). over (over b a z) c' w') ev ∙ ap (λ (n : ℕ). over (over b a v) n w') ec ∙ ap (λ (z : List ℕ). over (over b a v) c z) ew
