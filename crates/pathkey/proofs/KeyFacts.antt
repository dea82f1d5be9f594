-- Keys of paths and blocks: they are told apart, and those of a subtree are one range.
use Rattle.std.proofs.Common.{◌≡◌, ◌≢◌, ℕ, ◌/◌, ◌%◌, ◌<◌, ◌^◌, List, [], ◌∷◌, ◌++◌, length, true, false, ◌≤◌, ◌+◌, ◌*◌, sym, ap, refl, ◌∙◌, subst, Ordering, arith, append_assoc, ⊎_elim}
use Rattle.std.specs.List.{join_with_byte}
use Rattle.std.specs.Ordering.{nat_cmp, is_le, is_lt, ordering_then, ordering_reverse}
use Rattle.std.specs.declared.cmp.Ordering.TheVariants.{Less, Greater}
use Rattle.std.proofs.lemmas.Bool.{cases_order, cases_lt, false≢true, and_parts, and_from, false_from_ne_true}
use Rattle.std.specs.Int.{w32, to_be_bytes, from_be_bytes}
use Rattle.std.proofs.lemmas.Nat.{from_be_bytes-to_be_bytes_4}
use Rattle.std.proofs.lemmas.Cmp.{nat_list_cmp_total}
use Rattle.pathkey.specs.Order.{by_bytes}
use Rattle.pathkey.specs.Names.{Name, Path, HasNameBytes, IsName, EachName}
use Rattle.pathkey.specs.Keys.{Key, enc, end_of, block_key, subtree, blocks_from, is_in}
use Rattle.pathkey.proofs.Pieces.{not_empty}
use Rattle.pathkey.proofs.OrderFacts.{cmp_less, cmp_equal, cmp_greater, tied}

-- bytes up to the first byte 0 are told apart from those after it
pub peel : (n m k l : List ℕ) → HasNameBytes n → HasNameBytes m → n ++ 0 ∷ k ≡ m ++ 0 ∷ l → (n ≡ m) × (k ≡ l)
peel [] [] k l u v e = (refl, cc)
peel [] (b ∷ m) k l u v e = let f : 0 ≡ b = cc in absurd (omega arith)
peel (a ∷ n) [] k l u v e = let f : a ≡ 0 = cc in absurd (omega arith)
peel (a ∷ n) (b ∷ m) k l u v e =
    let f : a ≡ b = cc in
    let g : n ++ 0 ∷ k ≡ m ++ 0 ∷ l = cc in
    let ih : (n ≡ m) × (k ≡ l) = peel n m k l u.3 v.3 g in
    (let h : n ≡ m = ih.0 in cc, ih.1)

-- a path's key begins with enc p exactly where the path is at or below p
pub under_from_key : (p q : Path) (k : Key) → EachName p → EachName q → enc p ++ k ≡ enc q → (r : Path) × (q ≡ p ++ r) × (k ≡ enc r)
under_from_key [] q k u v e = (q, refl, e)
under_from_key (n ∷ p) [] k u v e = absurd (not_empty n (enc p ++ k) 0 (sym (append_assoc n (0 ∷ enc p) k) ∙ e))
under_from_key (n ∷ p) (m ∷ q) k u v e =
    let f : n ++ 0 ∷ (enc p ++ k) ≡ m ++ 0 ∷ enc q = sym (append_assoc n (0 ∷ enc p) k) ∙ e in
    let g : (n ≡ m) × (enc p ++ k ≡ enc q) = peel n m (enc p ++ k) (enc q) u.0.bytes v.0.bytes f in
    let ih : (r : Path) × (q ≡ p ++ r) × (k ≡ enc r) = under_from_key p q k u.1 v.1 g.1 in
    (ih.0, (let a : n ≡ m = g.0 in let b : q ≡ p ++ ih.0 = ih.1 in cc), ih.2)

-- the key of a path below another goes on after that one's key
pub enc-append : (p r : Path) → enc (p ++ r) ≡ enc p ++ enc r
enc-append [] r = refl
enc-append (n ∷ p) r = ap (λ (k : Key). n ++ 0 ∷ k) (enc-append p r) ∙ sym (append_assoc n (0 ∷ enc p) (enc r))

-- paths with one key are one path
pub enc_law : (p q : Path) → EachName p → EachName q → enc p ≡ enc q → p ≡ q
enc_law [] [] u v e = refl
enc_law [] (m ∷ q) u v e = absurd (not_empty m (enc q) 0 (sym e))
enc_law (n ∷ p) [] u v e = absurd (not_empty n (enc p) 0 e)
enc_law (n ∷ p) (m ∷ q) u v e =
    let g : (n ≡ m) × (enc p ≡ enc q) = peel n m (enc p) (enc q) u.0.bytes v.0.bytes e in
    let ih : p ≡ q = enc_law p q u.1 v.1 g.1 in
    let a : n ≡ m = g.0 in cc

-- a name is not empty, and does not begin with a byte 0
no_zero : (n z y : List ℕ) → IsName n → n ++ z ≡ 0 ∷ y → ⊥
no_zero [] z y u e = let f : 0 < length {A = ℕ} [] = u.some in omega arith
no_zero (b ∷ n) z y u e = let f : b ≡ 0 = cc in let g : 0 < b = u.bytes.0 in omega arith

-- a key that begins as a path's key and goes on with a byte 0 begins with enc p only where the path is at or below p
pub under_from_zero : (p q : Path) (k z : Key) → EachName p → EachName q → enc p ++ k ≡ enc q ++ 0 ∷ z → (r : Path) × (q ≡ p ++ r)
under_from_zero [] q k z u v e = (q, refl)
under_from_zero (n ∷ p) [] k z u v e = absurd (no_zero n (0 ∷ enc p ++ k) z u.0 (sym (append_assoc n (0 ∷ enc p) k) ∙ e))
under_from_zero (n ∷ p) (m ∷ q) k z u v e =
    let f : n ++ 0 ∷ (enc p ++ k) ≡ m ++ 0 ∷ (enc q ++ 0 ∷ z) = sym (append_assoc n (0 ∷ enc p) k) ∙ e ∙ append_assoc m (0 ∷ enc q) (0 ∷ z) in
    let g : (n ≡ m) × (enc p ++ k ≡ enc q ++ 0 ∷ z) = peel n m (enc p ++ k) (enc q ++ 0 ∷ z) u.0.bytes v.0.bytes f in
    let ih : (r : Path) × (q ≡ p ++ r) = under_from_zero p q k z u.1 v.1 g.1 in
    (ih.0, (let a : n ≡ m = g.0 in let b : q ≡ p ++ ih.0 = ih.1 in cc))

-- no path's key goes on with a byte 0 after another's
pub not_at_zero : (p q : Path) (z : Key) → EachName p → EachName q → enc p ≢ enc q ++ 0 ∷ z
not_at_zero [] [] z u v e = cc
not_at_zero [] (m ∷ q) z u v e = not_empty m (enc q ++ 0 ∷ z) 0 (sym (append_assoc m (0 ∷ enc q) (0 ∷ z)) ∙ sym e)
not_at_zero (n ∷ p) [] z u v e = no_zero n (0 ∷ enc p) z u.0 e
not_at_zero (n ∷ p) (m ∷ q) z u v e =
    let f : n ++ 0 ∷ enc p ≡ m ++ 0 ∷ (enc q ++ 0 ∷ z) = e ∙ append_assoc m (0 ∷ enc q) (0 ∷ z) in
    let g : (n ≡ m) × (enc p ≡ enc q ++ 0 ∷ z) = peel n m (enc p) (enc q ++ 0 ∷ z) u.0.bytes v.0.bytes f in
    not_at_zero p q z u.1 v.1 g.1

-- no block key is a path's key
pub block_key_law : (p q : Path) (i : ℕ) → EachName p → EachName q → enc p ≢ block_key q i
unfolding block_key
block_key_law p q i u v e = not_at_zero p q (to_be_bytes w32 i) u v e

-- ---- ranges
not_below_nil : (k : List ℕ) → is_lt (by_bytes k []) ≡ true → ⊥
not_below_nil [] h = cc
not_below_nil (c ∷ k) h = cc

-- a key from s 0 y on and before s 1 begins with s 0, and goes on with y or more
pub between_from : (s y k : List ℕ) → is_le (by_bytes (s ++ 0 ∷ y) k) ≡ true → is_lt (by_bytes k (s ++ 1 ∷ [])) ≡ true → (z : Key) × (k ≡ s ++ 0 ∷ z) × (is_le (by_bytes y z) ≡ true)
between_from [] y [] h g = absurd (cc)
between_from [] y (c ∷ k) h g =
    ⊎_elim (λ (e : c ≡ 0). (k, ap (λ (x : ℕ). x ∷ k) e, (let h' : is_le (ordering_then (nat_cmp 0 0) (by_bytes y k)) ≡ true = subst (λ (x : ℕ). is_le (ordering_then (nat_cmp 0 x) (by_bytes y k)) ≡ true) e h in h')))
    (⊎_elim (λ (l : c < 0). absurd (omega arith))
    (λ (l : 0 < c). absurd (⊎_elim
    (λ (e : c ≡ 1). not_below_nil k (let g' : is_lt (ordering_then (nat_cmp 1 1) (by_bytes k [])) ≡ true = subst (λ (w : ℕ). is_lt (ordering_then (nat_cmp w 1) (by_bytes k [])) ≡ true) e g in g'))
    (⊎_elim (λ (m : c < 1). omega arith) (λ (m : 1 < c). let g' : is_lt (ordering_then Greater (by_bytes k [])) ≡ true = subst (λ (o : Ordering). is_lt (ordering_then o (by_bytes k [])) ≡ true) (cmp_greater c 1 m) g in cc))
    (cases_order c 1))))
    (cases_order c 0)
between_from (x ∷ s) y [] h g = absurd (cc)
between_from (x ∷ s) y (c ∷ k) h g =
    ⊎_elim (λ (e : x ≡ c).
    let h' : is_le (by_bytes (s ++ 0 ∷ y) k) ≡ true = subst (λ (o : Ordering). is_le (ordering_then o (by_bytes (s ++ 0 ∷ y) k)) ≡ true) (ap (λ (w : ℕ). nat_cmp x w) (sym e) ∙ cmp_equal x) h in
    let g' : is_lt (by_bytes k (s ++ 1 ∷ [])) ≡ true = subst (λ (o : Ordering). is_lt (ordering_then o (by_bytes k (s ++ 1 ∷ []))) ≡ true) (ap (λ (w : ℕ). nat_cmp w x) (sym e) ∙ cmp_equal x) g in
    let ih : (z : Key) × (k ≡ s ++ 0 ∷ z) × (is_le (by_bytes y z) ≡ true) = between_from s y k h' g' in
    (ih.0, (let a : k ≡ s ++ 0 ∷ ih.0 = ih.1 in cc), ih.2))
    (⊎_elim
    (λ (l : x < c). absurd (let g' : is_lt (ordering_then Greater (by_bytes k (s ++ 1 ∷ []))) ≡ true = subst (λ (o : Ordering). is_lt (ordering_then o (by_bytes k (s ++ 1 ∷ []))) ≡ true) (cmp_greater c x l) g in cc))
    (λ (l : c < x). absurd (let h' : is_le (ordering_then Greater (by_bytes (s ++ 0 ∷ y) k)) ≡ true = subst (λ (o : Ordering). is_le (ordering_then o (by_bytes (s ++ 0 ∷ y) k)) ≡ true) (cmp_greater x c l) h in cc)))
    (cases_order x c)

-- a key between s 0 and s 1 begins with s 0
pub between : (s k : List ℕ) → is_le (by_bytes (s ++ 0 ∷ []) k) ≡ true → is_lt (by_bytes k (s ++ 1 ∷ [])) ≡ true → (z : Key) × (k ≡ s ++ 0 ∷ z)
between s k h g = let at = between_from s [] k h g in (at.0, at.1)

-- the empty key is the least
from_nil : (k : Key) → is_le (by_bytes [] k) ≡ true
from_nil [] = refl
from_nil (c ∷ k) = refl

-- one beginning keeps the order
pub same_beginning : (s y z : List ℕ) → is_le (by_bytes y z) ≡ true → is_le (by_bytes (s ++ y) (s ++ z)) ≡ true
same_beginning [] y z h = h
same_beginning (x ∷ s) y z h = subst (λ (o : Ordering). is_le (ordering_then o (by_bytes (s ++ y) (s ++ z))) ≡ true) (sym (cmp_equal x)) (same_beginning s y z h)

-- what begins with s 0 comes after s 0
pub from_between_low : (s z : List ℕ) → is_le (by_bytes (s ++ 0 ∷ []) (s ++ 0 ∷ z)) ≡ true
from_between_low s z = same_beginning s (0 ∷ []) (0 ∷ z) (from_nil z)

-- and before s 1
pub from_between_high : (s z : List ℕ) → is_lt (by_bytes (s ++ 0 ∷ z) (s ++ 1 ∷ [])) ≡ true
from_between_high [] z = refl
from_between_high (x ∷ s) z = subst (λ (o : Ordering). is_lt (ordering_then o (by_bytes (s ++ 0 ∷ z) (s ++ 1 ∷ []))) ≡ true) (sym (cmp_equal x)) (from_between_high s z)

-- a key that is not empty ends with a byte 0
pub enc-join : (n : Name) (p : Path) → enc (n ∷ p) ≡ join_with_byte 0 (n ∷ p) ++ 0 ∷ []
enc-join n [] = refl
enc-join n (m ∷ p) = ap (λ (k : Key). n ++ 0 ∷ k) (enc-join m p) ∙ sym (append_assoc n (0 ∷ join_with_byte 0 (m ∷ p)) (0 ∷ []))

-- and so do its beginnings of longer keys
pub enc_more : (n : Name) (p : Path) (z : Key) → enc (n ∷ p) ++ z ≡ join_with_byte 0 (n ∷ p) ++ 0 ∷ z
enc_more n p z = ap (λ (k : Key). k ++ z) (enc-join n p) ∙ append_assoc (join_with_byte 0 (n ∷ p)) (0 ∷ []) z

-- the range of a subtree has exactly the keys that begin with enc p
pub in_subtree : (p : Path) (k : Key) → is_in (subtree p) k ≡ true → (z : Key) × (k ≡ enc p ++ z)
in_subtree [] k h = (k, refl)
in_subtree (n ∷ p) k h =
    let s : List ℕ = join_with_byte 0 (n ∷ p) in
    let parts : (is_le (by_bytes (enc (n ∷ p)) k) ≡ true) × (is_lt (by_bytes k (end_of (n ∷ p))) ≡ true) = and_parts _ _ h in
    let low : is_le (by_bytes (join_with_byte 0 (n ∷ p) ++ 0 ∷ []) k) ≡ true = subst (λ (y : Key). is_le (by_bytes y k) ≡ true) (enc-join n p) parts.0 in
    let at : (z : Key) × (k ≡ join_with_byte 0 (n ∷ p) ++ 0 ∷ z) = between (join_with_byte 0 (n ∷ p)) k low parts.1 in
    (at.0, at.1 ∙ sym (enc_more n p at.0))

-- and each key that begins so is in the range
pub in_subtree_from : (p : Path) (z : Key) → is_in (subtree p) (enc p ++ z) ≡ true
in_subtree_from [] z = and_from _ _ (from_nil z) refl
in_subtree_from (n ∷ p) z =
    and_from _ _
    (subst (λ (y : Key). is_le (by_bytes y (enc (n ∷ p) ++ z)) ≡ true) (sym (enc-join n p)) (subst (λ (y : Key). is_le (by_bytes (join_with_byte 0 (n ∷ p) ++ 0 ∷ []) y) ≡ true) (sym (enc_more n p z)) (from_between_low (join_with_byte 0 (n ∷ p)) z)))
    (subst (λ (y : Key). is_lt (by_bytes y (end_of (n ∷ p))) ≡ true) (sym (enc_more n p z)) (from_between_high (join_with_byte 0 (n ∷ p)) z))

-- a path's key is in the subtree of p only where the path is at or below p
pub path_in_subtree : (p q : Path) → EachName p → EachName q → is_in (subtree p) (enc q) ≡ true → (r : Path) × (q ≡ p ++ r)
path_in_subtree p q u v h =
    let f : (z : Key) × (enc q ≡ enc p ++ z) = in_subtree p (enc q) h in
    let g : (r : Path) × (q ≡ p ++ r) × (f.0 ≡ enc r) = under_from_key p q f.0 u v (sym f.1) in
    (g.0, g.1)

-- and is, where it is at or below p
pub path_in_subtree_from : (p q r : Path) → q ≡ p ++ r → is_in (subtree p) (enc q) ≡ true
path_in_subtree_from p q r e = subst (λ (k : Key). is_in (subtree p) k ≡ true) (sym (ap enc e ∙ enc-append p r)) (in_subtree_from p (enc r))

-- likewise for a block's key
pub block_in_subtree : (p q : Path) (i : ℕ) → EachName p → EachName q → is_in (subtree p) (block_key q i) ≡ true → (r : Path) × (q ≡ p ++ r)
unfolding block_key
block_in_subtree p q i u v h =
    let f : (z : Key) × (enc q ++ 0 ∷ to_be_bytes w32 i ≡ enc p ++ z) = in_subtree p (enc q ++ 0 ∷ to_be_bytes w32 i) h in
    under_from_zero p q f.0 (to_be_bytes w32 i) u v (sym f.1)

-- the way back, for a block's key
pub block_in_subtree_from : (p q r : Path) (i : ℕ) → q ≡ p ++ r → is_in (subtree p) (block_key q i) ≡ true
unfolding block_key
block_in_subtree_from p q r i e = subst (λ (k : Key). is_in (subtree p) k ≡ true)
    (sym (ap (λ (x : Path). enc x ++ 0 ∷ to_be_bytes w32 i) e ∙ ap (λ (k : Key). k ++ 0 ∷ to_be_bytes w32 i) (enc-append p r) ∙ append_assoc (enc p) (enc r) (0 ∷ to_be_bytes w32 i)))
    (in_subtree_from p (enc r ++ 0 ∷ to_be_bytes w32 i))

-- ---- blocks are told apart
to_be_bytes_injective : (i j : ℕ) → i < 2 ^ 32 → j < 2 ^ 32 → to_be_bytes w32 i ≡ to_be_bytes w32 j → i ≡ j
to_be_bytes_injective i j hi hj e = sym (from_be_bytes-to_be_bytes_4 i hi) ∙ ap (from_be_bytes w32) e ∙ from_be_bytes-to_be_bytes_4 j hj

-- two keys that go on with a byte 0 are of one path, and go on alike
block_peel : (p q : Path) (y z : Key) → EachName p → EachName q → enc p ++ 0 ∷ y ≡ enc q ++ 0 ∷ z → (p ≡ q) × (y ≡ z)
block_peel [] [] y z u v e = (refl, cc)
block_peel [] (m ∷ q) y z u v e = absurd (no_zero m (0 ∷ enc q ++ 0 ∷ z) y v.0 (sym (append_assoc m (0 ∷ enc q) (0 ∷ z)) ∙ sym e))
block_peel (n ∷ p) [] y z u v e = absurd (no_zero n (0 ∷ enc p ++ 0 ∷ y) z u.0 (sym (append_assoc n (0 ∷ enc p) (0 ∷ y)) ∙ e))
block_peel (n ∷ p) (m ∷ q) y z u v e =
    let f : n ++ 0 ∷ (enc p ++ 0 ∷ y) ≡ m ++ 0 ∷ (enc q ++ 0 ∷ z) = sym (append_assoc n (0 ∷ enc p) (0 ∷ y)) ∙ e ∙ append_assoc m (0 ∷ enc q) (0 ∷ z) in
    let g : (n ≡ m) × (enc p ++ 0 ∷ y ≡ enc q ++ 0 ∷ z) = peel n m (enc p ++ 0 ∷ y) (enc q ++ 0 ∷ z) u.0.bytes v.0.bytes f in
    let ih : (p ≡ q) × (y ≡ z) = block_peel p q y z u.1 v.1 g.1 in
    (let a : n ≡ m = g.0 in let b : p ≡ q = ih.0 in cc, ih.1)

-- blocks with one key are one block of one path
pub block_key_injective : (p q : Path) (i j : ℕ) → EachName p → EachName q → i < 2 ^ 32 → j < 2 ^ 32 → block_key p i ≡ block_key q j → (p ≡ q) × (i ≡ j)
unfolding block_key
block_key_injective p q i j u v hi hj e =
    let f : (p ≡ q) × (to_be_bytes w32 i ≡ to_be_bytes w32 j) = block_peel p q (to_be_bytes w32 i) (to_be_bytes w32 j) u v e in
    (f.0, to_be_bytes_injective i j hi hj f.1)

-- ---- ranges of blocks
pub head_less : (x y : ℕ) (xs ys : List ℕ) → x < y → by_bytes (x ∷ xs) (y ∷ ys) ≡ Less
head_less x y xs ys h = ap (λ (o : Ordering). ordering_then o (by_bytes xs ys)) (cmp_less x y h)

-- lists that begin alike are ordered by the rest
head_same : (x y : ℕ) (xs ys : List ℕ) → x ≡ y → by_bytes xs ys ≡ Less → by_bytes (x ∷ xs) (y ∷ ys) ≡ Less
head_same x y xs ys e h =
    ap (λ (w : ℕ). by_bytes (x ∷ xs) (w ∷ ys)) (sym e) ∙ ap (λ (o : Ordering). ordering_then o (by_bytes xs ys)) (cmp_equal x) ∙ h

-- by the first digit, or else by the rest
by_digit : (x y : ℕ) (xs ys : List ℕ) → x ≤ y → (x ≡ y → by_bytes xs ys ≡ Less) → by_bytes (x ∷ xs) (y ∷ ys) ≡ Less
by_digit x y xs ys h more = ⊎_elim
    (λ (e : x ≡ y). head_same x y xs ys e (more e))
    (⊎_elim (λ (l : x < y). head_less x y xs ys l) (λ (l : y < x). absurd (omega arith)))
    (cases_order x y)

-- the digits of a lesser number come first
digits_less : (a b c d w x y z : ℕ) → b < 256 → c < 256 → d < 256 → x < 256 → y < 256 → z < 256
    → 16777216 * a + 65536 * b + 256 * c + d < 16777216 * w + 65536 * x + 256 * y + z
    → by_bytes (a ∷ b ∷ c ∷ d ∷ []) (w ∷ x ∷ y ∷ z ∷ []) ≡ Less
digits_less a b c d w x y z hb hc hd hx hy hz h =
    by_digit a w (b ∷ c ∷ d ∷ []) (x ∷ y ∷ z ∷ []) (omega arith)
    (λ e. by_digit b x (c ∷ d ∷ []) (y ∷ z ∷ []) (omega arith)
    (λ f. by_digit c y (d ∷ []) (z ∷ []) (omega arith)
    (λ g. head_less d z [] [] (omega arith))))

-- four bytes, greatest first, are ordered as the number
pub number_less : (i j : ℕ) → i < 2 ^ 32 → j < 2 ^ 32 → i < j → by_bytes (to_be_bytes w32 i) (to_be_bytes w32 j) ≡ Less
number_less i j hi hj h =
    digits_less (i / 16777216 % 256) (i / 65536 % 256) (i / 256 % 256) (i % 256) (j / 16777216 % 256) (j / 65536 % 256) (j / 256 % 256) (j % 256)
    (omega arith) (omega arith) (omega arith) (omega arith) (omega arith) (omega arith) (omega arith)

-- numbers in order give bytes in order
pub number_le : (a i : ℕ) → a < 2 ^ 32 → i < 2 ^ 32 → a ≤ i → is_le (by_bytes (to_be_bytes w32 a) (to_be_bytes w32 i)) ≡ true
number_le a i ha hi h = ⊎_elim
    (λ (e : a ≡ i). subst (λ (k : ℕ). is_le (by_bytes (to_be_bytes w32 a) (to_be_bytes w32 k)) ≡ true) e (ap is_le (tied (to_be_bytes w32 a))))
    (⊎_elim (λ (l : a < i). ap is_le (number_less a i ha hi l)) (λ (l : i < a). absurd (omega arith)))
    (cases_order a i)

-- and only those
pub number_le_from : (a i : ℕ) → a < 2 ^ 32 → i < 2 ^ 32 → is_le (by_bytes (to_be_bytes w32 a) (to_be_bytes w32 i)) ≡ true → a ≤ i
number_le_from a i ha hi h = ⊎_elim
    (λ (l : i < a).
    let back : by_bytes (to_be_bytes w32 a) (to_be_bytes w32 i) ≡ Greater =
    nat_list_cmp_total.antisymm (to_be_bytes w32 a) (to_be_bytes w32 i) ∙ ap ordering_reverse (number_less i a hi ha l) in
    absurd (false≢true (ap is_le (sym back) ∙ h)))
    (λ (l : a ≤ i). l)
    (cases_lt i a)

-- a key in the range of blocks goes on after the path's key with a byte 0 and a number of the range
pub in_blocks : (p : Path) (a : ℕ) (k : Key) → is_in (blocks_from p a) k ≡ true → (z : Key) × (k ≡ enc p ++ 0 ∷ z) × (is_le (by_bytes (to_be_bytes w32 a) z) ≡ true)
unfolding blocks_from block_key
in_blocks p a k h =
    let parts : (is_le (by_bytes (enc p ++ 0 ∷ to_be_bytes w32 a) k) ≡ true) × (is_lt (by_bytes k (enc p ++ 1 ∷ [])) ≡ true) = and_parts _ _ h in
    between_from (enc p) (to_be_bytes w32 a) k parts.0 parts.1

-- a block in the range of blocks is one of that path, from the number on
pub block_in_blocks : (p q : Path) (a i : ℕ) → EachName p → EachName q → a < 2 ^ 32 → i < 2 ^ 32 → is_in (blocks_from p a) (block_key q i) ≡ true → (q ≡ p) × (a ≤ i)
unfolding block_key
block_in_blocks p q a i u v ha hi h =
    let at : (z : Key) × (enc q ++ 0 ∷ to_be_bytes w32 i ≡ enc p ++ 0 ∷ z) × (is_le (by_bytes (to_be_bytes w32 a) z) ≡ true) = in_blocks p a (enc q ++ 0 ∷ to_be_bytes w32 i) h in
    let same : (q ≡ p) × (to_be_bytes w32 i ≡ at.0) = block_peel q p (to_be_bytes w32 i) at.0 v u at.1 in
    (same.0, number_le_from a i ha hi (subst (λ (z : Key). is_le (by_bytes (to_be_bytes w32 a) z) ≡ true) (sym same.1) at.2))

-- and each of those is in the range
pub block_in_blocks_from : (p q : Path) (a i : ℕ) → a < 2 ^ 32 → i < 2 ^ 32 → (q ≡ p) × (a ≤ i) → is_in (blocks_from p a) (block_key q i) ≡ true
unfolding blocks_from block_key
block_in_blocks_from p q a i ha hi h =
    subst (λ (r : Path). is_in (blocks_from p a) (enc r ++ 0 ∷ to_be_bytes w32 i) ≡ true) (sym h.0)
    (and_from _ _ (same_beginning (enc p) (0 ∷ to_be_bytes w32 a) (0 ∷ to_be_bytes w32 i) (number_le a i ha hi h.1)) (from_between_high (enc p) (to_be_bytes w32 i)))

-- no path's key is in a range of blocks
pub path_not_in_blocks : (p q : Path) (a : ℕ) → EachName p → EachName q → is_in (blocks_from p a) (enc q) ≡ false
path_not_in_blocks p q a u v =
    false_from_ne_true (is_in (blocks_from p a) (enc q))
    (λ h. let at = in_blocks p a (enc q) h in not_at_zero q p at.0 v u at.1)
