-- Byte order decides which lists of bytes are one.
use Rattle.std.proofs.Common.{◌≡◌, ℕ, ◌<◌, List, true, false, ap, refl, subst, Ordering, arith}
use Rattle.std.specs.Ordering.{nat_cmp, is_eq}
use Rattle.std.specs.declared.cmp.Ordering.TheVariants.{Less, Equal, Greater}
use Rattle.std.specs.FinMap.{nat_cmp-IsAntisymmetric, slice_cmp-IsAntisymmetric}
use Rattle.std.proofs.lemmas.Cmp.{tied_itself, nat_list_cmp_total}
use Rattle.std.proofs.lemmas.Bool.Decides.{nat_tests}
use Rattle.pathkey.specs.Order.{by_bytes, same}

-- the test holds at Equal alone
is_eq_true : (o : Ordering) → is_eq o ≡ true → o ≡ Equal
is_eq_true Less h = cc
is_eq_true Equal h = refl
is_eq_true Greater h = cc

-- a list is equal to itself
pub tied : (n : List ℕ) → by_bytes n n ≡ Equal
tied n = tied_itself nat_list_cmp_total n

-- lists that compare equal are one
pub equal : (n m : List ℕ) → by_bytes n m ≡ Equal → n ≡ m
equal n m e = slice_cmp-IsAntisymmetric nat_cmp-IsAntisymmetric n m e

-- the test holds of a list and itself
pub same_itself : (n : List ℕ) → same n n ≡ true
same_itself n = ap is_eq (tied n)

-- where the test holds the lists are one
pub same_true : (n m : List ℕ) → same n m ≡ true → n ≡ m
same_true n m h = equal n m (is_eq_true (by_bytes n m) h)

-- the test holds of one list twice
pub same_from_eq : (n m : List ℕ) → n ≡ m → same n m ≡ true
same_from_eq n m e = subst (λ (k : List ℕ). same n k ≡ true) e (same_itself n)

-- the test fails where the lists differ
pub same_false : (n m : List ℕ) → (n ≡ m → ⊥) → same n m ≡ false
same_false n m h = elim (same n m) as (λ b. same n m ≡ b → same n m ≡ false) [
  | true ↦ λ e. absurd (h (same_true n m e))
  | false ↦ λ e. e
] refl

-- where the test fails the lists differ
pub apart : (n m : List ℕ) → same n m ≡ false → n ≡ m → ⊥
apart n m f e = let t : same n m ≡ true = same_from_eq n m e in cc

-- order of numbers, one equation a case
pub cmp_less : (x y : ℕ) → x < y → nat_cmp x y ≡ Less
cmp_less x y h = grind (arith, nat_tests)

pub cmp_equal : (x : ℕ) → nat_cmp x x ≡ Equal
cmp_equal x = grind (arith, nat_tests)

pub cmp_greater : (x y : ℕ) → y < x → nat_cmp x y ≡ Greater
cmp_greater x y h = grind (arith, nat_tests)
