-- The order of keys, seen at the first name of a path.
use Rattle.std.proofs.Common.{◌≡◌, ◌⊎◌, inl, inr, ⊎_elim, ℕ, ◌<◌, ◌≤◌, List, [], ◌∷◌, ◌++◌, refl, sym, ap, subst, ◌∙◌, arith, Ordering}
use Rattle.std.specs.Ordering.{nat_cmp, ordering_then}
use Rattle.std.specs.declared.cmp.Ordering.TheVariants.{Less, Greater}
use Rattle.std.proofs.lemmas.Bool.{cases_lt}
use Rattle.pathkey.specs.Order.{by_bytes}
use Rattle.pathkey.specs.Names.{Name, HasNameBytes}
use Rattle.pathkey.proofs.OrderFacts.{cmp_equal, cmp_greater}
use Rattle.pathkey.proofs.KeyFacts.{head_less}

-- lists with one beginning are ordered as what follows it
pub behind_beginning : (s y z : List ℕ) → by_bytes (s ++ y) (s ++ z) ≡ by_bytes y z
behind_beginning [] y z = refl
behind_beginning (x ∷ s) y z = ap (λ (o : Ordering). ordering_then o (by_bytes (s ++ y) (s ++ z))) (cmp_equal x) ∙ behind_beginning s y z

-- the order of two lists by their first numbers
by_first : (x c : ℕ) (a b : List ℕ) (P : Type 0) → by_bytes (x ∷ a) (c ∷ b) ≡ Less → (x < c → P) → (x ≡ c → by_bytes a b ≡ Less → P) → P
by_first x c a b P h less same = ⊎_elim
    less
    (λ (g : c ≤ x). ⊎_elim
    (λ (l : c < x). absurd (let f : ordering_then Greater (by_bytes a b) ≡ Less = sym (ap (λ (o : Ordering). ordering_then o (by_bytes a b)) (cmp_greater x c l)) ∙ h in cc))
    (λ (m : x ≤ c). let e : x ≡ c = omega arith in same e (sym (ap (λ (o : Ordering). ordering_then o (by_bytes a b)) (ap (nat_cmp x) (sym e) ∙ cmp_equal x)) ∙ h))
    (cases_lt c x))
    (cases_lt x c)

same_first : (x : ℕ) (a b : List ℕ) → by_bytes (x ∷ a) (x ∷ b) ≡ by_bytes a b
same_first x a b = ap (λ (o : Ordering). ordering_then o (by_bytes a b)) (cmp_equal x)

-- keys rise by their first names, or by what follows them
pub by_first_name : (n m : Name) (a b : List ℕ) → HasNameBytes n → HasNameBytes m → by_bytes (n ++ 0 ∷ a) (m ++ 0 ∷ b) ≡ Less → (by_bytes n m ≡ Less) ⊎ ((n ≡ m) × (by_bytes a b ≡ Less))
by_first_name [] [] a b u v h = inr (refl, h)
by_first_name [] (c ∷ m) a b u v h = inl refl
by_first_name (x ∷ n) [] a b u v h = by_first x 0 (n ++ 0 ∷ a) b _ h (λ l. absurd (omega arith)) (λ e g. absurd (let low : 0 < x = u.0 in omega arith))
by_first_name (x ∷ n) (c ∷ m) a b u v h = by_first x c (n ++ 0 ∷ a) (m ++ 0 ∷ b) _ h
    (λ l. inl (head_less x c n m l))
    (λ e g. ⊎_elim
    (λ (l : by_bytes n m ≡ Less). inl (subst (λ (k : ℕ). by_bytes (x ∷ n) (k ∷ m) ≡ Less) e (same_first x n m ∙ l)))
    (λ (p : (n ≡ m) × (by_bytes a b ≡ Less)). inr (cc (e, p.0), p.1))
    (by_first_name n m a b u.3 v.3 g))

-- a lesser first name is a lesser key
pub lesser_name : (n m : Name) (a b : List ℕ) → HasNameBytes m → by_bytes n m ≡ Less → by_bytes (n ++ 0 ∷ a) (m ++ 0 ∷ b) ≡ Less
lesser_name [] [] a b v h = absurd (cc)
lesser_name [] (c ∷ m) a b v h = head_less 0 c a (m ++ 0 ∷ b) v.0
lesser_name (x ∷ n) [] a b v h = absurd (cc)
lesser_name (x ∷ n) (c ∷ m) a b v h = by_first x c n m _ h
    (λ l. head_less x c (n ++ 0 ∷ a) (m ++ 0 ∷ b) l)
    (λ e g. subst (λ (k : ℕ). by_bytes (x ∷ (n ++ 0 ∷ a)) (k ∷ (m ++ 0 ∷ b)) ≡ Less) e (same_first x (n ++ 0 ∷ a) (m ++ 0 ∷ b) ∙ lesser_name n m a b v.3 g))

-- no key lies below the root's
pub none_below_root : (k : List ℕ) → by_bytes k [] ≡ Less → ⊥
none_below_root [] h = cc
none_below_root (x ∷ k) h = cc

-- a key is not below itself
pub not_below_itself : (k : List ℕ) → by_bytes k k ≡ Less → ⊥
not_below_itself [] h = cc
not_below_itself (x ∷ k) h = not_below_itself k (sym (same_first x k k) ∙ h)
