-- What an edit changes where no entry below its path comes or goes: what is seen at its path, and nothing else.
use Rattle.std.proofs.Common.{◌≡◌, ◌≢◌, ℕ, List, [], ◌∷◌, ◌++◌, false, sym, ap, refl, ◌∙◌, Option, Some, None, append-nil}
use Rattle.std.specs.Prelude.{fold, option_map}
use Rattle.reference.specs.Tree.{Name, Path, Tree, Dir, File, nothing, At, Found, Missing, Blocked, found, onward, entry_at, edited, touched}
use Rattle.reference.specs.Calls.{is_found, is_directory, path_fault, parent_fault}
use Rattle.reference.specs.Reads.{look, rest_of, Sight, look_of, sighted, sight, sight_after, redated, sight_touched}
use Rattle.reference.proofs.Edits.{alike, look_sighted, sight_law, touched_law, fold-Missing, fold-Blocked}
use Rattle.reference.proofs.EntryPaths.{rest_of_from, rest_of-append, rest_of_itself, along}

-- an edit is not seen outside what is at or below its path
pub edit_outside : (t : Tree) (p : Path) (o : Option Tree) (q : Path) → p ≢ [] → parent_fault t p ≡ None → ((r : Path) → q ≡ p ++ r → ⊥) → sight (edited t p o) q ≡ sight t q
edit_outside t p o q ne h off =
    sight_law p t o q ne h ∙ elim (rest_of p q) as (λ c. rest_of p q ≡ c → sight_after c o (sight t q) ≡ sight t q) [
      | None ↦ λ e. refl
      | Some r ↦ λ e. absurd (off r (rest_of_from p q r e))
    ] refl

-- at and below its path what was put is seen
pub edit_inside : (t : Tree) (p : Path) (o : Option Tree) (r : Path) → p ≢ [] → parent_fault t p ≡ None → sight (edited t p o) (p ++ r) ≡ sighted (fold onward (found o) r)
edit_inside t p o r ne h = sight_law p t o (p ++ r) ne h ∙ ap (λ (c : Option Path). sight_after c o (sight t (p ++ r))) (rest_of-append p r)

-- ---- an entry that holds nothing, or none
unfoldable pub Bare : At → Type 0
Bare a = (k : Name) (r : Path) → sighted (fold onward a (k ∷ r)) ≡ None

-- nothing stands below what is not there
pub bare_none : (a : At) → is_found a ≡ false → Bare a
unfolding Bare
bare_none (Found x) h = absurd (cc)
bare_none Missing h = λ k r. ap sighted (fold-Missing r)
bare_none Blocked h = λ k r. ap sighted (fold-Blocked r)

-- nor below an empty directory
pub bare_empty : (date : ℕ) → Bare (Found (Dir date nothing))
unfolding Bare
bare_empty date k r = ap sighted (fold-Missing r)

-- nor below a file
pub bare_file : (date : ℕ) (b : List ℕ) → Bare (Found (File date b))
unfolding Bare
bare_file date b k r = ap sighted (fold-Blocked r)

-- t' is t but for what is seen at p, which is s
pub record IsPoint (t t' : Tree) (p : Path) (s : Option Sight) : Type 0 where
  pub other : (q : Path) → q ≢ p → sight t' q ≡ sight t q
  pub itself : sight t' p ≡ s

-- the same but for moments
pub looks_other : (t t' : Tree) (p : Path) (s : Option Sight) → IsPoint t t' p s → (q : Path) → q ≢ p → look t' q ≡ look t q
looks_other t t' p s n q off = alike t' t q q (n.other q off)

pub looks_itself : (t t' : Tree) (p : Path) (s : Option Sight) → IsPoint t t' p s → look t' p ≡ option_map look_of s
looks_itself t t' p s n = look_sighted t' p ∙ ap (option_map look_of) n.itself

-- an edit of an entry that holds nothing into one that holds nothing is seen at its path alone
pub point_from_edit : (t t' : Tree) (p : Path) (o : Option Tree) → p ≢ [] → parent_fault t p ≡ None → Bare (entry_at t p) → Bare (found o) → edited t p o ≡ t' → IsPoint t t' p (sighted (found o))
unfolding Bare
point_from_edit t t' p o ne h was now is = record {
  other = λ q off. ap (λ (x : Tree). sight x q) (sym is) ∙ sight_law p t o q ne h ∙ elim (rest_of p q) as (λ c. rest_of p q ≡ c → sight_after c o (sight t q) ≡ sight t q) [
    | None ↦ λ e. refl
    | Some r ↦ λ e. tail q r off (rest_of_from p q r e)
  ] refl;
  itself = ap (λ (x : Tree). sight x p) (sym is) ∙ sight_law p t o p ne h ∙ ap (λ (c : Option Path). sight_after c o (sight t p)) (rest_of_itself p);
}
  where
    tail : (q r : Path) → q ≢ p → q ≡ p ++ r → sighted (fold onward (found o) r) ≡ sight t q
    tail q [] off e = absurd (off (e ∙ append-nil p))
    tail q (k ∷ r) off e = now k r ∙ sym (was k r) ∙ ap sighted (sym (along t p (k ∷ r))) ∙ ap (sight t) (sym e)

-- a moment that is set is seen at its path alone
pub point_from_touch : (at : ℕ) (t : Tree) (p : Path) → IsPoint t (touched at t p) p (redated at (sight t p))
point_from_touch at t p = record {
  other = λ q off. touched_law at p t q ∙ elim (rest_of p q) as (λ c. rest_of p q ≡ c → sight_touched at c (sight t q) ≡ sight t q) [
    | None ↦ λ e. refl
    | Some r ↦ λ e. below q r off (rest_of_from p q r e)
  ] refl;
  itself = touched_law at p t p ∙ ap (λ (c : Option Path). sight_touched at c (sight t p)) (rest_of_itself p);
}
  where
    below : (q r : Path) → q ≢ p → q ≡ p ++ r → sight_touched at (Some r) (sight t q) ≡ sight t q
    below q [] off e = absurd (off (e ∙ append-nil p))
    below q (k ∷ r) off e = refl

-- what was seen at a path, and all that changed is what is seen there
pub record Became (t t' : Tree) (p : Path) (old new : Option Sight) : Type 0 where
  pub before : sight t p ≡ old
  pub point : IsPoint t t' p new

-- what stands without a fault and is no directory is a file
pub file_from : (a : At) → path_fault a ≡ None → is_directory a ≡ false → (date : ℕ) × (b : List ℕ) × (a ≡ Found (File date b))
file_from (Found (Dir date es)) h g = absurd (cc)
file_from (Found (File date b)) h g = (date, b, refl)
file_from Missing h g = absurd (cc)
file_from Blocked h g = absurd (cc)
