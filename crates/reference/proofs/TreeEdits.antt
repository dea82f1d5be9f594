-- An edit makes a directory tree of a directory tree, where what is put may stand at its paths.
use Rattle.std.proofs.Common.{◌≡◌, ◌≢◌, ℕ, List, [], ◌∷◌, ◌++◌, true, false, sym, ap, refl, ◌∙◌, subst, Option, Some, None, append-nil}
use Rattle.std.specs.Prelude.{fold}
use Rattle.pathkey.specs.Names.{IsPath}
use Rattle.reference.specs.Tree.{Path, Tree, Dir, File, nothing, At, Found, Missing, Blocked, found, onward, entry_at, edited, moment, touched}
use Rattle.reference.specs.Calls.{is_directory, bytes_of, parent_fault}
use Rattle.reference.specs.Shape.{IsDirectory, Rising, IsContent, IsMoment, IsTree}
use Rattle.reference.specs.Reads.{Look, Directory, Bytes, seen, look, rest_of, look_after, Sight, Seen, date_of, sighted, sight, sight_after, redated, sight_touched}
use Rattle.reference.proofs.EntryPaths.{rest_of_from}
use Rattle.reference.proofs.Edits.{edit_law, sight_law, touched_law, touched_look, fold-Missing, fold-Blocked}
use Rattle.reference.proofs.Rising.{rising-with, rising-without, rising-touched}
use Rattle.reference.proofs.Standing.{seen_found, file_seen}
use Rattle.reference.proofs.Contents.{content_none}

-- ---- trees by what is seen in them
-- what may be seen at a path of a directory tree
pub record MayBeSeen (p : Path) (l : Look) : Type 0 where
  pub path : IsPath p
  pub content : (b : List ℕ) → l ≡ Bytes b → IsContent b

pub looks_may : (t : Tree) (p : Path) (l : Look) → IsTree t → look t p ≡ Some l → MayBeSeen p l
looks_may t p l is h =
    let f : (x : Tree) × (entry_at t p ≡ Found x) = seen_found (entry_at t p) l h in
    record { path = is.paths p f.0 f.1; content = λ b e. let g = file_seen (entry_at t p) b (h ∙ ap (λ (z : Look). Some z) e) in is.files p g.0 b g.1 }

entry_seen : (x : Tree) → (l : Look) × (seen (Found x) ≡ Some l)
entry_seen (Dir date es) = (Directory, refl)
entry_seen (File date b) = (Bytes b, refl)

-- the moments of what is seen
pub sights_may : (t : Tree) (p : Path) (s : Sight) → IsTree t → sight t p ≡ Some s → IsMoment (date_of s)
sights_may t p s is h = at (entry_at t p) (is.moments p) h
  where
    at : (a : At) → ((x : Tree) → a ≡ Found x → IsMoment (moment x)) → sighted a ≡ Some s → IsMoment (date_of s)
    at (Found (Dir date es)) f e = let same : Seen Directory date ≡ s = cc in subst (λ (z : Sight). IsMoment (date_of z)) same (f (Dir date es) refl)
    at (Found (File date b)) f e = let same : Seen (Bytes b) date ≡ s = cc in subst (λ (z : Sight). IsMoment (date_of z)) same (f (File date b) refl)
    at Missing f e = absurd (cc)
    at Blocked f e = absurd (cc)

entry_sighted : (x : Tree) → (s : Sight) × (sighted (Found x) ≡ Some s) × (date_of s ≡ moment x)
entry_sighted (Dir date es) = (Seen Directory date, refl, refl)
entry_sighted (File date b) = (Seen (Bytes b) date, refl, refl)

pub tree_from_looks : (t : Tree) → IsDirectory t → Rising t → ((p : Path) (l : Look) → look t p ≡ Some l → MayBeSeen p l) → ((p : Path) (s : Sight) → sight t p ≡ Some s → IsMoment (date_of s)) → IsTree t
tree_from_looks t root rising may dates = record {
  root = root;
  rising = rising;
  paths = λ p x e. let s : (l : Look) × (seen (Found x) ≡ Some l) = entry_seen x in (may p s.0 (ap seen e ∙ s.1)).path;
  files = λ p date b e. (may p (Bytes b) (ap seen e)).content b refl;
  moments = λ p x e. let s : (s : Sight) × (sighted (Found x) ≡ Some s) × (date_of s ≡ moment x) = entry_sighted x in subst IsMoment s.2 (dates p s.0 (ap sighted e ∙ s.1));
}

-- a tree at which the same is seen but for moments, in order, is one where its moments are
pub tree_from_alike : (t u : Tree) → IsTree t → IsDirectory u → Rising u → ((p : Path) → look u p ≡ look t p) → ((p : Path) (s : Sight) → sight u p ≡ Some s → IsMoment (date_of s)) → IsTree u
tree_from_alike t u is root rising alike dates = tree_from_looks u root rising (λ p l e. looks_may t p l is (sym (alike p) ∙ e)) dates

directory-edited : (t : Tree) (p : Path) (o : Option Tree) → IsDirectory t → IsDirectory (edited t p o)
directory-edited t [] o h = h
directory-edited (Dir date es) (n ∷ []) o h = tt
directory-edited (Dir date es) (n ∷ m ∷ p) o h = tt
directory-edited (File date b) (n ∷ p) o h = absurd h

-- ---- edits
-- an edit makes a tree, where what is put may be seen at its paths
pub edit_tree : (t : Tree) (p : Path) (o : Option Tree) → IsTree t → p ≢ [] → parent_fault t p ≡ None → Rising (edited t p o) → ((r : Path) (l : Look) → seen (fold onward (found o) r) ≡ Some l → MayBeSeen (p ++ r) l)
    → ((r : Path) (s : Sight) → sighted (fold onward (found o) r) ≡ Some s → IsMoment (date_of s)) → IsTree (edited t p o)
edit_tree t p o is ne parent_is rising may dates = tree_from_looks (edited t p o) (directory-edited t p o is.root) rising (λ q l h. at q l (sym (edit_law p t o q ne parent_is) ∙ h)) (λ q s h. date q s (sym (sight_law p t o q ne parent_is) ∙ h))
  where
    at : (q : Path) (l : Look) → look_after (rest_of p q) o (look t q) ≡ Some l → MayBeSeen q l
    at q l = elim (rest_of p q) as (λ c. rest_of p q ≡ c → look_after c o (look t q) ≡ Some l → MayBeSeen q l) [
      | None ↦ λ e h. looks_may t q l is h
      | Some r ↦ λ e h. subst (λ (z : Path). MayBeSeen z l) (sym (rest_of_from p q r e)) (may r l h)
    ] refl

    date : (q : Path) (s : Sight) → sight_after (rest_of p q) o (sight t q) ≡ Some s → IsMoment (date_of s)
    date q s = elim (rest_of p q) as (λ c. sight_after c o (sight t q) ≡ Some s → IsMoment (date_of s)) [
      | None ↦ λ h. sights_may t q s is h
      | Some r ↦ λ h. dates r s h
    ]

-- an entry taken out
pub out_tree : (t : Tree) (p : Path) → IsTree t → p ≢ [] → parent_fault t p ≡ None → IsTree (edited t p None)
out_tree t p is ne parent_is = edit_tree t p None is ne parent_is (rising-without t p is.rising) (λ r l h. absurd (let f : None ≡ Some l = sym (ap seen (fold-Missing r)) ∙ h in cc)) (λ r s h. absurd (let f : None ≡ Some s = sym (ap sighted (fold-Missing r)) ∙ h in cc))

directory_below : (date : ℕ) (p r : Path) (l : Look) → IsPath p → seen (fold onward (Found (Dir date nothing)) r) ≡ Some l → MayBeSeen (p ++ r) l
directory_below date p [] l is h = record { path = subst IsPath (sym (append-nil p)) is; content = λ b e. absurd (let f : Directory ≡ Bytes b = (let g : Directory ≡ l = cc in g) ∙ e in cc) }
directory_below date p (k ∷ r) l is h = absurd (let f : None ≡ Some l = sym (ap seen (fold-Missing r)) ∙ h in cc)

directory_date : (date : ℕ) (r : Path) (s : Sight) → IsMoment date → sighted (fold onward (Found (Dir date nothing)) r) ≡ Some s → IsMoment (date_of s)
directory_date date [] s is h = let same : Seen Directory date ≡ s = cc in subst (λ (z : Sight). IsMoment (date_of z)) same is
directory_date date (k ∷ r) s is h = absurd (let f : None ≡ Some s = sym (ap sighted (fold-Missing r)) ∙ h in cc)

file_below : (date : ℕ) (p r : Path) (l : Look) (b : List ℕ) → IsPath p → IsContent b → seen (fold onward (Found (File date b)) r) ≡ Some l → MayBeSeen (p ++ r) l
file_below date p [] l b is holds h = record { path = subst IsPath (sym (append-nil p)) is; content = λ c e. (let f : Bytes b ≡ Bytes c = (let g : Bytes b ≡ l = cc in g) ∙ e in let s : b ≡ c = cc in subst IsContent s holds) }
file_below date p (k ∷ r) l b is holds h = absurd (let f : None ≡ Some l = sym (ap seen (fold-Blocked r)) ∙ h in cc)

file_date : (date : ℕ) (b : List ℕ) (r : Path) (s : Sight) → IsMoment date → sighted (fold onward (Found (File date b)) r) ≡ Some s → IsMoment (date_of s)
file_date date b [] s is h = let same : Seen (Bytes b) date ≡ s = cc in subst (λ (z : Sight). IsMoment (date_of z)) same is
file_date date b (k ∷ r) s is h = absurd (let f : None ≡ Some s = sym (ap sighted (fold-Blocked r)) ∙ h in cc)

-- an empty directory put
pub put_directory : (t : Tree) (p : Path) (date : ℕ) → IsTree t → IsPath p → IsMoment date → p ≢ [] → parent_fault t p ≡ None → IsTree (edited t p (Some (Dir date nothing)))
put_directory t p date is path early ne parent_is = edit_tree t p (Some (Dir date nothing)) is ne parent_is (rising-with t p (Dir date nothing) tt is.rising) (λ r l h. directory_below date p r l path h) (λ r s h. directory_date date r s early h)

-- a file put
pub put_file : (t : Tree) (p : Path) (date : ℕ) (b : List ℕ) → IsTree t → IsPath p → IsMoment date → IsContent b → p ≢ [] → parent_fault t p ≡ None → IsTree (edited t p (Some (File date b)))
put_file t p date b is path early holds ne parent_is = edit_tree t p (Some (File date b)) is ne parent_is (rising-with t p (File date b) tt is.rising) (λ r l h. file_below date p r l b path holds h) (λ r s h. file_date date b r s early h)

-- ---- a moment that is set
directory-touched : (at : ℕ) (t : Tree) (p : Path) → IsDirectory t → IsDirectory (touched at t p)
directory-touched at (Dir date es) [] h = tt
directory-touched at (Dir date es) (n ∷ p) h = tt
directory-touched at (File date b) p h = absurd h

redated_date : (at : ℕ) (old : Option Sight) (s : Sight) → redated at old ≡ Some s → at ≡ date_of s
redated_date at None s e = absurd (cc)
redated_date at (Some (Seen l date)) s e = let same : Seen l at ≡ s = cc in ap date_of same

pub touched_tree : (at : ℕ) (t : Tree) (p : Path) → IsMoment at → IsTree t → IsTree (touched at t p)
touched_tree at t p early is = tree_from_alike t (touched at t p) is (directory-touched at t p is.root) (rising-touched at p t is.rising) (touched_look at t p) (λ q s h. date q s (rest_of p q) (sym (touched_law at p t q) ∙ h))
  where
    date : (q : Path) (s : Sight) (c : Option Path) → sight_touched at c (sight t q) ≡ Some s → IsMoment (date_of s)
    date q s None h = sights_may t q s is h
    date q s (Some []) h = subst IsMoment (redated_date at (sight t q) s h) early
    date q s (Some (n ∷ r)) h = sights_may t q s is h

-- ---- what stands where a file is changed
root_directory : (t : Tree) → IsDirectory t → is_directory (Found t) ≡ true
root_directory (Dir date es) h = refl
root_directory (File date b) h = absurd h

-- a path where no directory stands is not the root
pub not_root_there : (t : Tree) (p : Path) → IsTree t → is_directory (entry_at t p) ≡ false → p ≢ []
not_root_there t [] is h = absurd (let f : true ≡ false = sym (root_directory t is.root) ∙ h in cc)
not_root_there t (n ∷ p) is h = λ e. cc

-- the bytes at a path are what a file may hold
pub content_at : (t : Tree) (p : Path) → IsTree t → IsContent (bytes_of (entry_at t p))
content_at t p is = elim (entry_at t p) as (λ a. entry_at t p ≡ a → IsContent (bytes_of a)) [
  | Found x ↦ elim x as (λ y. entry_at t p ≡ Found y → IsContent (bytes_of (Found y))) [
    | Dir date es ↦ λ e. content_none
    | File date b ↦ λ e. is.files p date b e
  ]
  | Missing ↦ λ e. content_none
  | Blocked ↦ λ e. content_none
] refl
