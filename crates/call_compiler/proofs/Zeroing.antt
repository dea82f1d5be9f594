-- Zeros written over the bytes of a file, in one list and in blocks.
use Rattle.std.proofs.Common.{◌≡◌, ℕ, ◌+◌, ◌-◌, ◌*◌, ◌<◌, ◌≤◌, max, List, length, get_or, replicate, sym, ap, ◌∙◌, ◌⊎◌, inl, inr, ⊎_elim, arith, Option, None}
use Rattle.std.proofs.lemmas.Bool.{cases_lt}
use Rattle.std.proofs.lemmas.List.{ext_get_or, get_or-replicate, length-replicate}
use Rattle.std.proofs.lemmas.Option.{none-some}
use Rattle.reference.specs.Indexes.{Hold, byte_of, most_blocks}
use Rattle.reference.specs.Tree.{over}
use Rattle.reference.proofs.Contents.{length-over}
use Rattle.reference.proofs.FileBlocks.{over_before, over_inside, over_after}

-- so many zeros
abbrev pub zeros : ℕ → List ℕ
zeros n = replicate n 0

-- ---- in one list

pub length-zeroed : (b : List ℕ) (a n : ℕ) → length (over b a (zeros n)) ≡ max (length b) (a + n)
length-zeroed b a n = length-over b a (zeros n) ∙ ap (λ (m : ℕ). max (length b) (a + m)) (length-replicate n 0)

zero_inside : (b : List ℕ) (a n x : ℕ) → a ≤ x → x < a + n → get_or (over b a (zeros n)) x 0 ≡ 0
zero_inside b a n x h g =
    let l : length (zeros n) ≡ n = length-replicate n 0 in
    over_inside b a (zeros n) x h (omega arith) ∙ get_or-replicate n (x - a) 0 0 (omega arith)

kept_after : (b : List ℕ) (a n x : ℕ) → a + n ≤ x → get_or (over b a (zeros n)) x 0 ≡ get_or b x 0
kept_after b a n x h = let l : length (zeros n) ≡ n = length-replicate n 0 in over_after b a (zeros n) x (omega arith)

-- zeros after zeros are as many zeros at once
pub zeros_joined : (b : List ℕ) (a m n : ℕ) → over (over b a (zeros m)) (a + m) (zeros n) ≡ over b a (zeros (m + n))
zeros_joined b a m n =
    let first : List ℕ = over b a (zeros m) in
    let k : length (over b a (zeros m)) ≡ max (length b) (a + m) = length-zeroed b a m in
    let l : length (over (over b a (zeros m)) (a + m) (zeros n)) ≡ max (length (over b a (zeros m))) (a + m + n) = length-zeroed (over b a (zeros m)) (a + m) n in
    let r : length (over b a (zeros (m + n))) ≡ max (length b) (a + (m + n)) = length-zeroed b a (m + n) in
    ext_get_or 0 _ _ (omega arith) (λ x _. ⊎_elim
    (λ (u : x < a). over_before (over b a (zeros m)) (a + m) (zeros n) x (omega arith) ∙ over_before b a (zeros m) x u ∙ sym (over_before b a (zeros (m + n)) x u))
    (λ (u : a ≤ x). ⊎_elim
    (λ (v : x < a + m). over_before (over b a (zeros m)) (a + m) (zeros n) x v ∙ zero_inside b a m x u v ∙ sym (zero_inside b a (m + n) x u (omega arith)))
    (λ (v : a + m ≤ x). ⊎_elim
    (λ (w : x < a + m + n). zero_inside (over b a (zeros m)) (a + m) n x v w ∙ sym (zero_inside b a (m + n) x u (omega arith)))
    (λ (w : a + m + n ≤ x). kept_after (over b a (zeros m)) (a + m) n x w ∙ kept_after b a m x v ∙ sym (kept_after b a (m + n) x (omega arith)))
    (cases_lt x (a + m + n)))
    (cases_lt x (a + m)))
    (cases_lt x a))

-- ---- in blocks

-- the blocks hold the file with zeros over some of its bytes, if every block with one of those bytes is deleted, only
-- blocks entirely among them are deleted, and all others are unchanged
pub zeros_hold : (a n : ℕ) (block new : ℕ → Option (List ℕ)) (b : List ℕ) → Hold block b → a + n ≤ length b
    → ((i : ℕ) → i < most_blocks → (new i ≡ block i) ⊎ ((new i ≡ None) × (a ≤ 4096 * i) × (4096 * i + 4096 ≤ a + n)))
    → ((i j : ℕ) → i < most_blocks → j < 4096 → a ≤ 4096 * i + j → 4096 * i + j < a + n → new i ≡ None)
    → Hold new (over b a (zeros n))
zeros_hold a n block new b hold short kept gone = record {
  byte = λ i j li lj. ⊎_elim
      (λ (u : 4096 * i + j < a). same i j li lj (inl u) ∙ sym (over_before b a (zeros n) (4096 * i + j) u))
      (λ (u : a ≤ 4096 * i + j). ⊎_elim
      (λ (v : 4096 * i + j < a + n). ap (λ (o : Option (List ℕ)). byte_of o j) (gone i j li lj u v) ∙ sym (zero_inside b a n (4096 * i + j) u v))
      (λ (v : a + n ≤ 4096 * i + j). same i j li lj (inr v) ∙ sym (kept_after b a n (4096 * i + j) v))
      (cases_lt (4096 * i + j) (a + n)))
      (cases_lt (4096 * i + j) a);
  within = λ i v j li e lj. ⊎_elim
      (λ (is : new i ≡ block i).
      let s : (j < 4096) × (4096 * i + j < length b) = hold.within i v j li (sym is ∙ e) lj in
      let l : length (over b a (zeros n)) ≡ max (length b) (a + n) = length-zeroed b a n in
      (s.0, omega arith))
      (λ (is : (new i ≡ None) × (a ≤ 4096 * i) × (4096 * i + 4096 ≤ a + n)). absurd (none-some v (sym is.0 ∙ e)))
      (kept i li);
}
  where
    same : (i j : ℕ) → i < most_blocks → j < 4096 → (4096 * i + j < a) ⊎ (a + n ≤ 4096 * i + j) → byte_of (new i) j ≡ get_or b (4096 * i + j) 0
    same i j li lj out = ⊎_elim
        (λ (is : new i ≡ block i). ap (λ (o : Option (List ℕ)). byte_of o j) is ∙ hold.byte i j li lj)
        (λ (is : (new i ≡ None) × (a ≤ 4096 * i) × (4096 * i + 4096 ≤ a + n)).
        let low : a ≤ 4096 * i = is.1 in
        let high : 4096 * i + 4096 ≤ a + n = is.2 in
        absurd (⊎_elim (λ (u : 4096 * i + j < a). omega arith) (λ (u : a + n ≤ 4096 * i + j). omega arith) out))
        (kept i li)

-- blocks that have the bytes of others, and end where they may
pub hold_as : (f g : ℕ → Option (List ℕ)) (b c : List ℕ) → Hold f b → Hold g b → Hold g c → length b ≤ length c → Hold f c
hold_as f g b c first both third short = record {
  byte = λ i j li lj. first.byte i j li lj ∙ sym (both.byte i j li lj) ∙ third.byte i j li lj;
  within = λ i v j li e lj. let s : (j < 4096) × (4096 * i + j < length b) = first.within i v j li e lj in (s.0, omega arith);
}
