-- What stands at a path: at its parent, below it, and how long the texts below it are.
use Rattle.std.proofs.Common.{◌≡◌, ◌≢◌, ℕ, ◌+◌, ◌≤◌, max, List, [], ◌∷◌, length, true, false, cond, sym, ap, refl, ◌∙◌, subst, arith, Some, None}
use Rattle.std.specs.Prelude.{fold}
use Rattle.pathkey.proofs.OrderFacts.{same_true}
use Rattle.reference.specs.Tree.{same, Name, Path, Tree, Dir, File, Entries, nothing, entry, named, At, Found, Missing, Blocked, found, onward, entry_at}
use Rattle.reference.specs.Calls.{is_directory, is_file, deepest, deepest_of, path_fault, parent, no_directory_fault, parent_fault, text_len}
use Rattle.reference.specs.Reads.{Look, Directory, Bytes, seen, look, Seen, sighted}
use Rattle.reference.specs.Shape.{Rising, RisingEntries}
use Rattle.reference.proofs.Edits.{fold-Missing, fold-Blocked}

-- ---- what is seen and what stands there
pub found_from : (a : At) → path_fault a ≡ None → (x : Tree) × (a ≡ Found x)
found_from (Found x) h = (x, refl)
found_from Missing h = absurd (cc)
found_from Blocked h = absurd (cc)

pub seen_found : (a : At) (l : Look) → seen a ≡ Some l → (x : Tree) × (a ≡ Found x)
seen_found (Found x) l h = (x, refl)
seen_found Missing l h = absurd (cc)
seen_found Blocked l h = absurd (cc)

pub file_seen : (a : At) (b : List ℕ) → seen a ≡ Some (Bytes b) → (date : ℕ) × (a ≡ Found (File date b))
file_seen (Found (Dir date es)) b h = absurd (cc)
file_seen (Found (File date c)) b h = let e : c ≡ b = cc in (date, ap (λ (z : List ℕ). Found (File date z)) e)
file_seen Missing b h = absurd (cc)
file_seen Blocked b h = absurd (cc)

pub file_sighted : (a : At) (b : List ℕ) (date : ℕ) → sighted a ≡ Some (Seen (Bytes b) date) → a ≡ Found (File date b)
file_sighted (Found (Dir stamp es)) b date h = absurd (cc)
file_sighted (Found (File stamp c)) b date h = let e : c ≡ b = cc in let when : stamp ≡ date = cc in cc (e, when)
file_sighted Missing b date h = absurd (cc)
file_sighted Blocked b date h = absurd (cc)

pub directory_from : (a : At) → no_directory_fault a ≡ None → seen a ≡ Some Directory
directory_from (Found (Dir date es)) h = refl
directory_from (Found (File date b)) h = absurd (cc)
directory_from Missing h = absurd (cc)
directory_from Blocked h = absurd (cc)

pub from_directory : (a : At) → seen a ≡ Some Directory → no_directory_fault a ≡ None
from_directory (Found (Dir date es)) h = refl
from_directory (Found (File date b)) h = absurd (cc)
from_directory Missing h = absurd (cc)
from_directory Blocked h = absurd (cc)

pub file_or_directory : (x : Tree) → is_directory (Found x) ≡ false → is_file (Found x) ≡ true
file_or_directory (Dir date es) h = absurd (cc)
file_or_directory (File date b) h = refl

-- a file has no directory at or below it
pub no_directory_in_file : (a : At) (r : Path) → is_file a ≡ true → seen (fold onward a r) ≡ Some Directory → ⊥
no_directory_in_file (Found (Dir date es)) r h g = cc
no_directory_in_file (Found (File date b)) [] h g = cc
no_directory_in_file (Found (File date b)) (k ∷ r) h g = let f : None ≡ Some Directory = sym (ap seen (fold-Blocked r)) ∙ g in cc
no_directory_in_file Missing r h g = cc
no_directory_in_file Blocked r h g = cc

-- ---- parents
pub parent_directory : (t : Tree) (n : Path) → n ≢ [] → parent_fault t n ≡ None → look t (parent n) ≡ Some Directory
parent_directory t [] ne h = absurd (ne refl)
parent_directory t (k ∷ p) ne h = directory_from (entry_at t (parent (k ∷ p))) h

pub directory_parent : (t : Tree) (n : Path) → look t (parent n) ≡ Some Directory → parent_fault t n ≡ None
directory_parent t [] h = refl
directory_parent t (k ∷ p) h = from_directory (entry_at t (parent (k ∷ p))) h

-- what is found below the root stands in a directory
pub parent_from_found : (p : Path) (t : Tree) → p ≢ [] → path_fault (entry_at t p) ≡ None → parent_fault t p ≡ None
parent_from_found [] t ne h = refl
parent_from_found (n ∷ []) (Dir date es) ne h = refl
parent_from_found (n ∷ []) (File date b) ne h = absurd (cc)
parent_from_found (n ∷ m ∷ p) (File date b) ne h = absurd (let f : path_fault Blocked ≡ None = subst (λ (a : At). path_fault a ≡ None) (fold-Blocked (m ∷ p)) h in cc)
parent_from_found (n ∷ m ∷ p) (Dir date es) ne h =
    elim (named n es) as (λ c. path_fault (fold onward (found c) (m ∷ p)) ≡ None → no_directory_fault (fold onward (found c) (parent (m ∷ p))) ≡ None) [
      | None ↦ λ f. absurd (let g : path_fault Missing ≡ None = subst (λ (a : At). path_fault a ≡ None) (fold-Missing (m ∷ p)) f in cc)
      | Some x ↦ λ f. parent_from_found (m ∷ p) x (λ z. cc) f
    ] h

-- ---- subtrees
rising-named : (n : Name) (es : Entries) (x : Tree) → named n es ≡ Some x → RisingEntries es → Rising x
rising-named n nothing x h v = absurd (cc)
rising-named n (entry m y rest) x h v =
    elim (same n m) as (λ b. cond b (Some y) (named n rest) ≡ Some x → Rising x) [
      | true ↦ λ f. let is : y ≡ x = cc in subst (λ (z : Tree). Rising z) is v.1
      | false ↦ λ f. rising-named n rest x f v.2
    ] h

-- names rise in what stands in a tree where they rise
pub rising-found : (p : Path) (t x : Tree) → entry_at t p ≡ Found x → Rising t → Rising x
rising-found [] t x h v = let is : t ≡ x = cc in subst (λ (z : Tree). Rising z) is v
rising-found (n ∷ p) (File date b) x h v = absurd (let f : Blocked ≡ Found x = sym (fold-Blocked p) ∙ h in cc)
rising-found (n ∷ p) (Dir date es) x h v =
    elim (named n es) as (λ c. named n es ≡ c → fold onward (found c) p ≡ Found x → Rising x) [
      | None ↦ λ e f. absurd (let g : Missing ≡ Found x = sym (fold-Missing p) ∙ f in cc)
      | Some y ↦ λ e f. rising-found p y x f (rising-named n es y e v)
    ] refl h

named_deepest : (n : Name) (es : Entries) (x : Tree) → named n es ≡ Some x → 1 + length n + deepest x ≤ deepest_of es
named_deepest n nothing x h = absurd (cc)
named_deepest n (entry m y rest) x h =
    elim (same n m) as (λ b. same n m ≡ b → cond b (Some y) (named n rest) ≡ Some x → 1 + length n + deepest x ≤ max (1 + length m + deepest y) (deepest_of rest)) [
      | true ↦ λ e f.
          let is : n ≡ m = same_true n m e in
          let lens : length n ≡ length m = ap (λ (z : Name). length z) is in
          let tree : y ≡ x = cc in
          let deep : deepest y ≡ deepest x = ap deepest tree in
          omega arith
      | false ↦ λ e f. let ih : 1 + length n + deepest x ≤ deepest_of rest = named_deepest n rest x f in omega arith
    ] refl h

-- a text below a tree is at most the longest
pub below_deepest : (r : Path) (x : Tree) (l : Look) → look x r ≡ Some l → text_len r ≤ deepest x
below_deepest [] x l h = omega arith
below_deepest (k ∷ r) (File date b) l h = absurd (let f : None ≡ Some l = sym (ap seen (fold-Blocked r)) ∙ h in cc)
below_deepest (k ∷ r) (Dir date es) l h =
    elim (named k es) as (λ c. named k es ≡ c → seen (fold onward (found c) r) ≡ Some l → 1 + length k + text_len r ≤ deepest_of es) [
      | None ↦ λ e f. absurd (let g : None ≡ Some l = sym (ap seen (fold-Missing r)) ∙ f in cc)
      | Some y ↦ λ e f.
          let ih : text_len r ≤ deepest y = below_deepest r y l f in
          let d : 1 + length k + deepest y ≤ deepest_of es = named_deepest k es y e in
          omega arith
    ] refl h
