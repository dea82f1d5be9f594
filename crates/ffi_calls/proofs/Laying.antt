-- The effect of two adjacent writes to a buffer: bytes of a block, and zeros after them.
use Rattle.std.proofs.Common.{◌≡◌, ℕ, ◌+◌, ◌-◌, ◌≤◌, ◌<◌, min, List, ◌++◌, length, take, drop, get_or, replicate, sym, ap, ◌∙◌, arith}
use Rattle.std.proofs.lemmas.List.{take_all, length-append, length-take, length-take-le, length-drop, length-replicate, get_or-take}
use Rattle.std.proofs.lemmas.Slice.{take-put_mid, drop-put_mid}
use Rattle.reference.specs.Tree.{sized}
use Rattle.reference.proofs.Contents.{length-sized}
use Rattle.block_index.proofs.Reading.{appended_at}
use borrow.Rule.Slice.PartMut.{put_mid}

length_put : (a k : ℕ) (xs ys : List ℕ) → a + k ≤ length xs → length ys ≡ k → length (put_mid a k xs ys) ≡ length xs
length_put a k xs ys h e =
    let whole : length (put_mid a k xs ys) ≡ length (take a xs) + length (ys ++ drop k (drop a xs)) = length-append (take a xs) (ys ++ drop k (drop a xs)) in
    let back : length (ys ++ drop k (drop a xs)) ≡ length ys + length (drop k (drop a xs)) = length-append ys (drop k (drop a xs)) in
    let front : length (take a xs) ≡ a = length-take-le a xs (omega arith) in
    let rest : length (drop k (drop a xs)) ≡ length (drop a xs) - k = length-drop k (drop a xs) in
    let behind : length (drop a xs) ≡ length xs - a = length-drop a xs in
    omega arith

-- bytes `from` up to `to` of the block v, after the first `done` bytes of the buffer o, with zeros where the block has
-- none
module _ (o bytes zeros v : List ℕ) (from to stop begin done there whole : ℕ) (h : from ≤ to) (room : whole ≤ length o) (es : stop ≡ min to (length v)) (eb : begin ≡ min from stop) (et : there ≡ done + (stop - begin)) (ew : whole ≡ done + (to - from)) (ed : bytes ≡ take (stop - begin) (drop begin v)) (ez : zeros ≡ replicate (length (take (whole - there) (drop there (put_mid done (there - done) o bytes)))) 0) where
  abbrev between : List ℕ
  between = put_mid done (there - done) o bytes

  abbrev pub after : List ℕ
  after = put_mid there (whole - there) between zeros

  long_bytes : length bytes ≡ stop - begin
  long_bytes =
      let d : length (drop begin v) ≡ length v - begin = length-drop begin v in
      let t : length (take (stop - begin) (drop begin v)) ≡ min (stop - begin) (length (drop begin v)) = length-take (stop - begin) (drop begin v) in
      let e : length bytes ≡ length (take (stop - begin) (drop begin v)) = ap (λ (q : List ℕ). length q) ed in
      omega arith

  long_between : length between ≡ length o
  long_between = let d = long_bytes in length_put done (there - done) o bytes (omega arith) (omega arith)

  are_zeros : zeros ≡ replicate (whole - there) 0
  are_zeros =
      let b = long_between in
      let d : length (drop there between) ≡ length between - there = length-drop there between in
      let t : length (take (whole - there) (drop there between)) ≡ min (whole - there) (length (drop there between)) = length-take (whole - there) (drop there between) in
      let l : length bytes ≡ stop - begin = long_bytes in
      let k : length (take (whole - there) (drop there between)) ≡ whole - there = omega arith in
      ez ∙ ap (λ (m : ℕ). replicate m 0) k

  long_zeros : length zeros ≡ whole - there
  long_zeros = ap (λ (q : List ℕ). length q) are_zeros ∙ length-replicate (whole - there) 0

  copied_front : take whole after ≡ sized (take done o ++ bytes) whole
  copied_front =
      let d = long_bytes in
      let z = long_zeros in
      let b = long_between in
      let old : length (take done o) ≡ done = length-take-le done o (omega arith) in
      let sum : length (take done o ++ bytes) ≡ length (take done o) + length bytes = length-append (take done o) bytes in
      let left : whole - there ≡ whole - length (take done o ++ bytes) = omega arith in
      take-put_mid there (whole - there) between zeros whole (omega arith) (omega arith)
      ∙ ap (λ (q : List ℕ). q ++ zeros) (take-put_mid done (there - done) o bytes there (omega arith) (omega arith))
      ∙ ap (λ (q : List ℕ). q ++ zeros) (sym (take_all whole (take done o ++ bytes) (omega arith)))
      ∙ ap (λ (q : List ℕ). take whole (take done o ++ bytes) ++ q) (are_zeros ∙ ap (λ (m : ℕ). replicate m 0) left)

  pub added_at : (x : ℕ) → done ≤ x → x < whole → get_or after x 0 ≡ get_or v (from + (x - done)) 0
  added_at x g f =
      let old : length (take done o) ≡ done = length-take-le done o (omega arith) in
      let long : length (take whole after) ≡ whole = ap (λ (q : List ℕ). length q) copied_front ∙ length-sized (take done o ++ bytes) whole in
      let same : from + (x - length (take done o)) ≡ from + (x - done) = omega arith in
      sym (get_or-take whole after x 0 f)
      ∙ appended_at (take done o) v from to stop begin whole (take done o ++ bytes) (take whole after) h es eb (omega arith) (ap (λ (q : List ℕ). take done o ++ q) ed) copied_front x (omega arith) (omega arith)
      ∙ ap (λ (m : ℕ). get_or v m 0) same

  pub rest_is : drop whole after ≡ drop whole o
  rest_is =
      let d = long_bytes in
      let z = long_zeros in
      let b = long_between in
      drop-put_mid there (whole - there) between zeros whole (omega arith) (omega arith) (omega arith)
      ∙ drop-put_mid done (there - done) o bytes whole (omega arith) (omega arith) (omega arith)
