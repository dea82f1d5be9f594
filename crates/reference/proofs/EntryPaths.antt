-- Paths as lists of names: beginnings, what is left after one, texts' lengths, and the walk along them.
use Rattle.std.proofs.Common.{◌≡◌, ◌≢◌, ◌+◌, ◌≤◌, [], ◌∷◌, ◌++◌, Bool, true, false, cond, sym, ap, refl, subst, arith, Some, None}
use Rattle.std.specs.Prelude.{fold}
use Rattle.std.proofs.lemmas.Grind.{fold-append}
use Rattle.std.proofs.lemmas.Bool.{and_from}
use Rattle.pathkey.specs.Names.{EachName, IsPath, is_root, is_under, parent, same_path, text_len}
use Rattle.pathkey.proofs.OrderFacts.{same_itself, same_true}
use Rattle.reference.specs.Tree.{same, Name, Path, Tree, Found, entry_at, onward}
use Rattle.reference.specs.Reads.{rest_of}

pub append-nil : (p : Path) → p ++ [] ≡ p
append-nil [] = refl
append-nil (n ∷ p) = ap (λ (q : Path). n ∷ q) (append-nil p)

-- ---- what is left of a path after a beginning
pub rest_of_from : (p q r : Path) → rest_of p q ≡ Some r → q ≡ p ++ r
rest_of_from [] q r e = let f : q ≡ r = cc in f
rest_of_from (n ∷ p) [] r e = absurd (cc)
rest_of_from (n ∷ p) (k ∷ q) r e =
    elim (same n k) as (λ b. same n k ≡ b → cond b (rest_of p q) None ≡ Some r → k ∷ q ≡ n ∷ (p ++ r)) [
      | true ↦ λ h f. let a : n ≡ k = same_true n k h in let c : q ≡ p ++ r = rest_of_from p q r f in cc
      | false ↦ λ h f. absurd (cc)
    ] refl e

pub rest_of-append : (p r : Path) → rest_of p (p ++ r) ≡ Some r
rest_of-append [] r = refl
rest_of-append (n ∷ p) r = subst (λ (b : Bool). cond b (rest_of p (p ++ r)) None ≡ Some r) (sym (same_itself n)) (rest_of-append p r)

pub rest_of_itself : (p : Path) → rest_of p p ≡ Some []
rest_of_itself p = subst (λ (q : Path). rest_of p q ≡ Some []) (append-nil p) (rest_of-append p [])

-- ---- beginnings
pub under_itself : (p r : Path) → is_under p (p ++ r) ≡ true
under_itself [] r = refl
under_itself (n ∷ p) r = and_from _ _ (same_itself n) (under_itself p r)

pub same_path_itself : (p : Path) → same_path p p ≡ true
same_path_itself p = let h : is_under p p ≡ true = subst (λ (q : Path). is_under p q ≡ true) (append-nil p) (under_itself p []) in and_from _ _ h h

pub not_root : (p : Path) → is_root p ≡ false → p ≢ []
not_root [] h = cc
not_root (n ∷ p) h = λ e. cc

-- a path that is not the root is its parent and one name more
pub last_name : (n : Path) → n ≢ [] → (k : Name) × (n ≡ parent n ++ k ∷ [])
last_name [] ne = absurd (ne refl)
last_name (n ∷ []) ne = (n, refl)
last_name (n ∷ m ∷ p) ne = let ih : (k : Name) × (m ∷ p ≡ parent (m ∷ p) ++ k ∷ []) = last_name (m ∷ p) (λ e. cc) in (ih.0, ap (λ (q : Path). n ∷ q) ih.1)

-- ---- names and lengths
pub each-append : (p r : Path) → EachName p → EachName r → EachName (p ++ r)
each-append [] r u v = v
each-append (n ∷ p) r u v = (u.0, each-append p r u.1 v)

pub each_rest : (p r : Path) → EachName (p ++ r) → EachName r
each_rest [] r u = u
each_rest (n ∷ p) r u = each_rest p r u.1

pub text_len-append : (p r : Path) → text_len (p ++ r) ≡ text_len p + text_len r
text_len-append [] r = omega arith
text_len-append (n ∷ p) r = let ih : text_len (p ++ r) ≡ text_len p + text_len r = text_len-append p r in omega arith

-- the names below o put below n, where the text stays short enough
pub path_moved : (o n r : Path) → IsPath n → IsPath (o ++ r) → text_len n + text_len r ≤ 1023 → IsPath (n ++ r)
path_moved o n r new old short = record {
  names = each-append n r new.names (each_rest o r old.names);
  fits = let l : text_len (n ++ r) ≡ text_len n + text_len r = text_len-append n r in omega arith;
}

-- ---- the walk
pub along : (t : Tree) (p r : Path) → entry_at t (p ++ r) ≡ fold onward (entry_at t p) r
along t p r = fold-append onward (Found t) p r
