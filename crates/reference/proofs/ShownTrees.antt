-- What an image asks of a tree: every directory tree has it.
use Rattle.std.proofs.Common.{◌≡◌, ℕ, List, [], ◌∷◌, ◌++◌, Bool, true, false, cond, Option, Some, None, refl, sym, ap, subst, ◌∙◌, append_assoc, fold}
use Rattle.pathkey.specs.Names.{HasNameBytes, IsName, IsPath}
use Rattle.pathkey.proofs.OrderFacts.{same_itself, same_true}
use Rattle.reference.specs.Tree.{same, Name, Path, Tree, Dir, File, Entries, nothing, entry, named, Found, Missing, found, onward, entry_at, moment}
use Rattle.reference.specs.Shape.{AllAbove, Rising, RisingEntries, IsContent, IsMoment, IsTree}
use Rattle.reference.proofs.Edits.{fold-Missing}
use Rattle.reference.proofs.EntryPaths.{each_rest}
use Rattle.reference.proofs.Sight.{none_above}
use Rattle.reference.proofs.ImageTexts.{Slashless}

-- a tree at a path p: the paths of what it holds are paths, its files hold what files may hold, and its moments are such
abbrev mutual
  pub Shown : Path → Tree → Type 0
  Shown p (Dir date es) = IsMoment date × ShownEntries p es
  Shown p (File date b) = IsMoment date × IsContent b

  pub ShownEntries : Path → Entries → Type 0
  ShownEntries p nothing = Unit {0}
  ShownEntries p (entry n x rest) = IsPath (p ++ n ∷ []) × Shown (p ++ n ∷ []) x × ShownEntries p rest

-- the last name of a path is a name
pub name_below : (p : Path) (n : Name) → IsPath (p ++ n ∷ []) → IsName n
name_below p n h = (each_rest p (n ∷ []) h.names).0

pub name_without_slash : (n : Name) → HasNameBytes n → Slashless n
name_without_slash [] h = tt
name_without_slash (b ∷ n) h = (h.2, name_without_slash n h.3)

pub first_at : (date : ℕ) (n : Name) (x : Tree) (rest : Entries) (r : Path) → entry_at (Dir date (entry n x rest)) (n ∷ r) ≡ entry_at x r
first_at date n x rest r = ap (λ (b : Bool). fold onward (found (cond b (Some x) (named n rest))) r) (same_itself n)

-- what stands in later entries has another name than the first
pub later_at : (date : ℕ) (n : Name) (x : Tree) (rest : Entries) (k : Name) (r : Path) (y : Tree) → AllAbove n rest → entry_at (Dir date rest) (k ∷ r) ≡ Found y → entry_at (Dir date (entry n x rest)) (k ∷ r) ≡ Found y
later_at date n x rest k r y h e = elim (same k n) as (λ b. same k n ≡ b → fold onward (found (cond b (Some x) (named k rest))) r ≡ Found y) [
  | true ↦ λ f. absurd (
      let absent : named k rest ≡ None = ap (λ (j : Name). named j rest) (same_true k n f) ∙ none_above n rest h in
      let clash : Missing ≡ Found y = sym (fold-Missing r) ∙ sym (ap (λ (o : Option Tree). fold onward (found o) r) absent) ∙ e in
      cc)
  | false ↦ λ f. e
] refl

mutual
  pub shown : (p : Path) (x : Tree) → Rising x → ((r : Path) (y : Tree) → entry_at x r ≡ Found y → IsPath (p ++ r) × IsMoment (moment y)) → ((r : Path) (date : ℕ) (b : List ℕ) → entry_at x r ≡ Found (File date b) → IsContent b) → Shown p x
  shown p (Dir date es) v paths files = ((paths [] (Dir date es) refl).1, shown_entries p date es v (λ n r y e. paths (n ∷ r) y e) (λ n r d b e. files (n ∷ r) d b e))
  shown p (File date b) v paths files = ((paths [] (File date b) refl).1, files [] date b refl)

  shown_entries : (p : Path) (date : ℕ) (es : Entries) → RisingEntries es → ((n : Name) (r : Path) (y : Tree) → entry_at (Dir date es) (n ∷ r) ≡ Found y → IsPath (p ++ n ∷ r) × IsMoment (moment y))
      → ((n : Name) (r : Path) (d : ℕ) (b : List ℕ) → entry_at (Dir date es) (n ∷ r) ≡ Found (File d b) → IsContent b) → ShownEntries p es
  shown_entries p date nothing v paths files = tt
  shown_entries p date (entry n x rest) v paths files = (
    (paths n [] x (first_at date n x rest [])).0,
    shown (p ++ n ∷ []) x v.1 (λ r y e. let h : IsPath (p ++ n ∷ r) × IsMoment (moment y) = paths n r y (first_at date n x rest r ∙ e) in (subst IsPath (sym (append_assoc p (n ∷ []) r)) h.0, h.1)) (λ r d b e. files n r d b (first_at date n x rest r ∙ e)),
    shown_entries p date rest v.2 (λ k r y e. paths k r y (later_at date n x rest k r y v.0 e)) (λ k r d b e. files k r d b (later_at date n x rest k r (File d b) v.0 e)),
  )

-- every entry of a directory tree is so
pub tree_shown : (date : ℕ) (es : Entries) → IsTree (Dir date es) → Shown [] (Dir date es)
tree_shown date es h = shown [] (Dir date es) h.rising (λ r y e. (h.paths r y e, h.moments r y e)) h.files
