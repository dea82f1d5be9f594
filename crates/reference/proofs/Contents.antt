-- What a file holds after a write or a cut: its length and its bytes.
use Rattle.std.proofs.Common.{◌≡◌, ℕ, ◌+◌, ◌-◌, ◌^◌, ◌<◌, ◌≤◌, max, List, [], length, take, drop, replicate, arith, length-append, length-take, length-drop}
use Rattle.std.proofs.lemmas.List.{length-replicate}
use Rattle.std.proofs.lemmas.List.Elements.{All-nil, All-append, All-take, All-drop, All-replicate}
use Rattle.reference.specs.Tree.{over, sized}
use Rattle.reference.specs.Shape.{AreBytes, IsContent}

pub length-over : (b : List ℕ) (off : ℕ) (w : List ℕ) → length (over b off w) ≡ max (length b) (off + length w)
length-over b off w = simp (length-append, length-take, length-drop, length-replicate) (omega arith)

pub length-sized : (b : List ℕ) (n : ℕ) → length (sized b n) ≡ n
length-sized b n = simp (length-append, length-take, length-replicate) (omega arith)

pub zeros : (n : ℕ) → AreBytes (replicate n 0)
zeros n = All-replicate (λ x. x < 256) n 0 (omega arith)

bytes-over : (b : List ℕ) (off : ℕ) (w : List ℕ) → AreBytes b → AreBytes w → AreBytes (over b off w)
bytes-over b off w h g =
    let IsByte = λ (x : ℕ). x < 256 in
    All-append IsByte _ (drop (off + length w) b)
    (All-append IsByte _ w (All-append IsByte (take off b) _ (All-take IsByte off b h) (zeros (off - length b))) g)
    (All-drop IsByte (off + length w) b h)

bytes-sized : (b : List ℕ) (n : ℕ) → AreBytes b → AreBytes (sized b n)
bytes-sized b n h = All-append (λ x. x < 256) (take n b) _ (All-take (λ x. x < 256) n b h) (zeros (n - length b))

-- an empty file may be held
pub content_none : IsContent []
content_none = record { few = omega arith; bytes = All-nil (λ x. x < 256) }

-- a write that ends within the limit leaves what a file may hold
pub content-over : (b : List ℕ) (off : ℕ) (w : List ℕ) → IsContent b → AreBytes w → off + length w ≤ 2 ^ 40 → IsContent (over b off w)
content-over b off w is new short = record {
  few = let l : length (over b off w) ≡ max (length b) (off + length w) = length-over b off w in let f : length b ≤ 2 ^ 40 = is.few in omega arith;
  bytes = bytes-over b off w is.bytes new;
}

-- and so does a length within the limit
pub content-sized : (b : List ℕ) (n : ℕ) → IsContent b → n ≤ 2 ^ 40 → IsContent (sized b n)
content-sized b n is short = record {
  few = let l : length (sized b n) ≡ n = length-sized b n in omega arith;
  bytes = bytes-sized b n is.bytes;
}
