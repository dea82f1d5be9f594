-- Heads compare as the lists of bytes do.
use Rattle.std.proofs.Common.{◌≡◌, ◌≢◌, ℕ, zero, suc, ◌+◌, ◌-◌, ◌*◌, ◌^◌, ◌<◌, ◌≤◌, List, [], ◌∷◌, length, take, drop, get_or, ap, refl, sym, subst, ◌∙◌, Ordering, arith, ◌⊎◌, inl, inr, ⊎_elim, Fits}
use Rattle.std.specs.Int.{w8, w64, from_be_bytes}
use Rattle.std.specs.Ordering.{nat_cmp, ordering_then, ordering_reverse}
use Rattle.std.specs.declared.cmp.Ordering.TheVariants.{Less, Greater}
use Rattle.std.proofs.Math.Nat.{pow-suc, mul_comm, one-le-pow, le-mul_of_pos_right}
use Rattle.std.proofs.lemmas.Nat.{mul-add-lt, same_from_place}
use Rattle.std.proofs.lemmas.Bool.{cases_lt, cases_order}
use Rattle.std.proofs.lemmas.List.Elements.{All-from_get_or, recursion_from_All}
use Rattle.std.proofs.lemmas.Cmp.{nat_list_cmp_total}
use Rattle.pathkey.specs.Order.{by_bytes}
use Rattle.std.proofs.lemmas.Bool.Decides.{nat_tests}
use Rattle.pathkey.specs.Heads.{AreBytes, head, head_of}
use Rattle.pathkey.proofs.OrderFacts.{cmp_less, cmp_equal, cmp_greater}

-- a slice of bytes has numbers below 256
pub are_bytes : (bytes : List ℕ) → ((i : ℕ) → Fits w8 (get_or bytes i 0)) → AreBytes bytes
are_bytes bytes fits = recursion_from_All (λ b. b < 256) bytes (All-from_get_or (λ b. b < 256) bytes 0 (λ i h.
    let at : Fits w8 (get_or bytes i 0) = fits i in
    omega arith))

-- a head of n bytes is below 256 ^ n
pub head_below : (n : ℕ) (bytes : List ℕ) → AreBytes bytes → head n bytes < 256 ^ n
head_below zero bytes u = omega arith
head_below (suc n) [] u = subst (λ (p : ℕ). 0 < p) (sym (pow-suc 256 n)) (omega (arith, head_below n [] u))
head_below (suc n) (b ∷ bytes) u =
    subst (λ (p : ℕ). b * 256 ^ n + head n bytes < p) (sym (pow-suc 256 n)) (mul-add-lt b (256 ^ n) (head n bytes) 256 u.0 (head_below n bytes u.1))

-- the greater first byte makes the greater head
first_decides : (p x y h k : ℕ) → x < y → h < p → x * p + h < y * p + k
first_decides p x y h k l f = omega (arith, mul-add-lt x p h y l f, mul_comm p y)

-- one first byte leaves the order to what follows
pub one_first : (x y : ℕ) (a b : List ℕ) → x ≡ y → by_bytes (x ∷ a) (y ∷ b) ≡ by_bytes a b
one_first x y a b e = ap (λ (o : Ordering). ordering_then o (by_bytes a b)) (ap (λ (z : ℕ). nat_cmp x z) (sym e) ∙ cmp_equal x)

-- the lesser head is of the lesser list
less_by_heads : (n : ℕ) (a b : List ℕ) → AreBytes a → AreBytes b → head n a < head n b → by_bytes a b ≡ Less
less_by_heads zero a b u v l = absurd (omega arith)
less_by_heads (suc n) a [] u v l = absurd (omega arith)
less_by_heads (suc n) [] (y ∷ b) u v l = refl
less_by_heads (suc n) (x ∷ a) (y ∷ b) u v l =
    ⊎_elim (λ (e : x ≡ y).
    let less : head n a < head n b = omega (arith, ap (λ (z : ℕ). z * 256 ^ n) e) in
    one_first x y a b e ∙ less_by_heads n a b u.1 v.1 less)
    (⊎_elim
    (λ (f : x < y). ap (λ (o : Ordering). ordering_then o (by_bytes a b)) (cmp_less x y f))
    (λ (f : y < x). absurd (omega (arith, first_decides (256 ^ n) y x (head n b) (head n a) f (head_below n b v.1)))))
    (cases_order x y)

-- and the greater head of the greater one
greater_by_heads : (n : ℕ) (a b : List ℕ) → AreBytes a → AreBytes b → head n b < head n a → by_bytes a b ≡ Greater
greater_by_heads n a b u v l = nat_list_cmp_total.antisymm a b ∙ ap ordering_reverse (less_by_heads n b a v u l)

-- so unequal heads decide
pub order_of_heads : (n : ℕ) (a b : List ℕ) → AreBytes a → AreBytes b → head n a ≢ head n b → nat_cmp (head n a) (head n b) ≡ by_bytes a b
order_of_heads n a b u v d =
    ⊎_elim (λ (e : head n a ≡ head n b). absurd (d e))
    (⊎_elim
    (λ (l : head n a < head n b). cmp_less (head n a) (head n b) l ∙ sym (less_by_heads n a b u v l))
    (λ (l : head n b < head n a). cmp_greater (head n a) (head n b) l ∙ sym (greater_by_heads n a b u v l)))
    (cases_order (head n a) (head n b))

-- equal heads of lists that are not empty: their first bytes are one, and so are the heads of what follows
tails : (n x y : ℕ) (a b : List ℕ) → AreBytes a → AreBytes b → head (suc n) (x ∷ a) ≡ head (suc n) (y ∷ b) → (x ≡ y) × (head n a ≡ head n b)
tails n x y a b u v e = same_from_place x (head n a) y (head n b) (256 ^ n) (head_below n a u) (head_below n b v) e

-- behind equal heads of n bytes what follows decides
behind_heads : (n : ℕ) (a b : List ℕ) → AreBytes a → AreBytes b → head n a ≡ head n b → n ≤ length a → n ≤ length b → by_bytes a b ≡ by_bytes (drop n a) (drop n b)
behind_heads zero a b u v e f g = refl
behind_heads (suc n) [] b u v e f g = absurd (omega arith)
behind_heads (suc n) (x ∷ a) [] u v e f g = absurd (omega arith)
behind_heads (suc n) (x ∷ a) (y ∷ b) u v e f g =
    let rest = tails n x y a b u.1 v.1 e in
    one_first x y a b rest.0 ∙ behind_heads n a b u.1 v.1 rest.1 (omega arith) (omega arith)

-- lengths of longer lists
one_more : (x y : ℕ) → nat_cmp x y ≡ nat_cmp (suc x) (suc y)
one_more x y = grind (arith, nat_tests)

-- but where one list is no longer, the lengths do
pub short_by_lengths : (n : ℕ) (a b : List ℕ) → AreBytes a → AreBytes b → head n a ≡ head n b → (length a ≤ n) ⊎ (length b ≤ n) → by_bytes a b ≡ nat_cmp (length a) (length b)
short_by_lengths n [] [] u v e f = refl
short_by_lengths n [] (y ∷ b) u v e f = sym (cmp_less 0 (length (y ∷ b)) (omega arith))
short_by_lengths n (x ∷ a) [] u v e f = sym (cmp_greater (length (x ∷ a)) 0 (omega arith))
short_by_lengths zero (x ∷ a) (y ∷ b) u v e f = absurd (⊎_elim (λ (g : length (x ∷ a) ≤ 0). omega arith) (λ (g : length (y ∷ b) ≤ 0). omega arith) f)
short_by_lengths (suc n) (x ∷ a) (y ∷ b) u v e f =
    let rest = tails n x y a b u.1 v.1 e in
    one_first x y a b rest.0
    ∙ short_by_lengths n a b u.1 v.1 rest.1 (⊎_elim (λ (g : length (x ∷ a) ≤ suc n). inl (omega arith)) (λ (g : length (y ∷ b) ≤ suc n). inr (omega arith)) f)
    ∙ one_more (length a) (length b)

-- what follows are bytes
bytes_behind : (k : ℕ) (a : List ℕ) → AreBytes a → AreBytes (drop k a)
bytes_behind zero a u = u
bytes_behind (suc k) [] u = tt
bytes_behind (suc k) (x ∷ a) u = bytes_behind k a u.1

-- equal heads of fewer bytes
fewer : (k n : ℕ) (a b : List ℕ) → AreBytes a → AreBytes b → k ≤ n → k ≤ length a → k ≤ length b → head n a ≡ head n b → head k a ≡ head k b
fewer zero n a b u v l f g e = refl
fewer (suc k) zero a b u v l f g e = absurd (omega arith)
fewer (suc k) (suc n) [] b u v l f g e = absurd (omega arith)
fewer (suc k) (suc n) (x ∷ a) [] u v l f g e = absurd (omega arith)
fewer (suc k) (suc n) (x ∷ a) (y ∷ b) u v l f g e =
    let rest = tails n x y a b u.1 v.1 e in
    let ih : head k a ≡ head k b = fewer k n a b u.1 v.1 (omega arith) (omega arith) (omega arith) rest.1 in
    ap (λ (z : ℕ). z * 256 ^ k + head k a) rest.0 ∙ ap (λ (h : ℕ). y * 256 ^ k + h) ih

-- and of more
more : (k n j : ℕ) (a b : List ℕ) → AreBytes a → AreBytes b → j ≡ k + n → k ≤ length a → k ≤ length b → head k a ≡ head k b → head n (drop k a) ≡ head n (drop k b) → head j a ≡ head j b
more zero n j a b u v i f g e d = let same : j ≡ n = omega arith in subst (λ (m : ℕ). head m a ≡ head m b) (sym same) d
more (suc k) n zero a b u v i f g e d = refl
more (suc k) n (suc j) [] b u v i f g e d = absurd (omega arith)
more (suc k) n (suc j) (x ∷ a) [] u v i f g e d = absurd (omega arith)
more (suc k) n (suc j) (x ∷ a) (y ∷ b) u v i f g e d =
    let rest = tails k x y a b u.1 v.1 e in
    let ih : head j a ≡ head j b = more k n j a b u.1 v.1 (omega arith) (omega arith) (omega arith) rest.1 d in
    ap (λ (z : ℕ). z * 256 ^ j + head j a) rest.0 ∙ ap (λ (h : ℕ). y * 256 ^ j + h) ih

-- equal heads are of lists that begin alike, as far as both go
pub begin_alike : (k n : ℕ) (a b : List ℕ) → AreBytes a → AreBytes b → k ≤ n → k ≤ length a → k ≤ length b → head n a ≡ head n b → take k a ≡ take k b
begin_alike zero n a b u v l f g e = refl
begin_alike (suc k) zero a b u v l f g e = absurd (omega arith)
begin_alike (suc k) (suc n) [] b u v l f g e = absurd (omega arith)
begin_alike (suc k) (suc n) (x ∷ a) [] u v l f g e = absurd (omega arith)
begin_alike (suc k) (suc n) (x ∷ a) (y ∷ b) u v l f g e =
    let rest = tails n x y a b u.1 v.1 e in
    ap (λ (z : ℕ). z ∷ take k a) rest.0 ∙ ap (λ (t : List ℕ). y ∷ t) (begin_alike k n a b u.1 v.1 (omega arith) (omega arith) (omega arith) rest.1)

-- the head of the first bytes
head_taken : (n : ℕ) (a : List ℕ) → head n a ≡ head n (take n a)
head_taken zero a = refl
head_taken (suc n) [] = refl
head_taken (suc n) (x ∷ a) = ap (λ (h : ℕ). x * 256 ^ n + h) (head_taken n a)

-- lists that begin alike have equal heads
pub heads_alike : (n : ℕ) (a b : List ℕ) → take n a ≡ take n b → head n a ≡ head n b
heads_alike n a b e = head_taken n a ∙ ap (head n) e ∙ sym (head_taken n b)

-- where a comparison begins: behind eight bytes at least
pub begins_at : (skip from : ℕ) (a b : List ℕ) → (skip < 8 → (from ≡ 8) × (head_of a ≡ head_of b)) → (8 ≤ skip → from ≡ skip) → take skip a ≡ take skip b → head from a ≡ head from b
begins_at skip from a b few many e =
    ⊎_elim
    (λ (l : skip < 8). subst (λ (n : ℕ). head n a ≡ head n b) (sym (few l).0) (few l).1)
    (λ (m : 8 ≤ skip). subst (λ (n : ℕ). head n a ≡ head n b) (sym (many m)) (heads_alike skip a b e))
    (cases_lt skip 8)

-- heads at a place up to which the bytes are one
module _ (n k : ℕ) (a b : List ℕ) (u : AreBytes a) (v : AreBytes b) (e : head n a ≡ head n b) (l : k ≤ n) (f : k ≤ length a) (g : k ≤ length b) where
  -- where they differ they decide
  pub order_at : head_of (drop k a) ≢ head_of (drop k b) → nat_cmp (head_of (drop k a)) (head_of (drop k b)) ≡ by_bytes a b
  order_at d =
      order_of_heads 8 (drop k a) (drop k b) (bytes_behind k a u) (bytes_behind k b v) d
      ∙ sym (behind_heads k a b u v (fewer k n a b u v l f g e) f g)

  -- where they are equal eight bytes more are one
  pub equal_at : head_of (drop k a) ≡ head_of (drop k b) → head (k + 8) a ≡ head (k + 8) b
  equal_at d = more k 8 (k + 8) a b u v refl f g (fewer k n a b u v l f g e) d

-- ---- how a head is read
-- no bytes have no head
nil : (n : ℕ) → head n [] ≡ 0
nil zero = refl
nil (suc n) = refl

-- the head from place i on is the byte there and the head behind it
first : (n i : ℕ) (bytes : List ℕ) → head (suc n) (drop i bytes) ≡ get_or bytes i 0 * 256 ^ n + head n (drop (suc i) bytes)
first n zero [] = omega (arith, nil n)
first n (suc i) [] = omega (arith, nil n)
first n zero (b ∷ bytes) = refl
first n (suc i) (b ∷ bytes) = first n i bytes

-- eight bytes that are there
pub eight : (bytes : List ℕ) → from_be_bytes w64 (get_or bytes 0 0 ∷ get_or bytes 1 0 ∷ get_or bytes 2 0 ∷ get_or bytes 3 0 ∷ get_or bytes 4 0 ∷ get_or bytes 5 0 ∷ get_or bytes 6 0 ∷ get_or bytes 7 0 ∷ []) ≡ head_of bytes
eight bytes = omega (arith, first 7 0 bytes, first 6 1 bytes, first 5 2 bytes, first 4 3 bytes, first 3 4 bytes, first 2 5 bytes, first 1 6 bytes, first 0 7 bytes)

-- a number in front of a head, which takes the head's first byte
taken : (n i h : ℕ) (bytes : List ℕ) → h * 256 ^ suc n + head (suc n) (drop i bytes) ≡ (h * 256 + get_or bytes i 0) * 256 ^ n + head n (drop (suc i) bytes)
taken n i h bytes = omega (arith, first n i bytes, ap (λ (p : ℕ). h * p) (pow-suc 256 n))

-- h is the number of the bytes before place i
abbrev pub IsReadTo : ℕ → List ℕ → ℕ → Type 0
IsReadTo i bytes h = h * 256 ^ (8 - i) + head (8 - i) (drop i bytes) ≡ head_of bytes

-- one byte more
pub read_more : (i : ℕ) (bytes : List ℕ) (h : ℕ) → i < 8 → IsReadTo i bytes h → IsReadTo (i + 1) bytes (h * 256 + get_or bytes i 0)
read_more i bytes h l e =
    let one : i + 1 ≡ suc i = omega arith in
    let left : 8 - i ≡ suc (8 - suc i) = omega arith in
    let g : h * 256 ^ suc (8 - suc i) + head (suc (8 - suc i)) (drop i bytes) ≡ head_of bytes = subst (λ (n : ℕ). h * 256 ^ n + head n (drop i bytes) ≡ head_of bytes) left e in
    subst (λ (j : ℕ). IsReadTo j bytes (h * 256 + get_or bytes i 0)) (sym one) (sym (taken (8 - suc i) i h bytes) ∙ g)

-- what is read fits
pub read_fits : (i : ℕ) (bytes : List ℕ) (h : ℕ) → ((j : ℕ) → Fits w8 (get_or bytes j 0)) → IsReadTo i bytes h → h < 2 ^ 64
read_fits i bytes h fits e =
    let some : 1 ≤ 256 ^ (8 - i) = one-le-pow (8 - i) 256 (omega arith) in
    omega (arith, e, le-mul_of_pos_right h some, head_below 8 bytes (are_bytes bytes fits))
