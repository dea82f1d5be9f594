-- A call whose first fault is known.
use Rattle.std.proofs.Common.{◌≡◌, Bool, false, cond, List, [], ◌∷◌, Option, Some, None, refl, ap, ◌∙◌}
use Rattle.pathkey.specs.declared.errno.Errno.{Errno}
use Rattle.pathkey.specs.declared.errno.Errno.TheVariants.{EBUSY}
use Rattle.reference.specs.declared.reply.Reply.TheVariants.{Done, Fault}
use Rattle.reference.specs.Tree.{Path, Tree, At, Found, entry_at, with_entry, without}
use Rattle.reference.specs.Calls.{Outcome, when, first_fault, unless, is_root, path_fault, same_path, placed, faults_of_new, made, faults_of_rename_from, faults_of_rename, renamed}

-- the first fault is answered, and the tree stays
pub unless_fault : (t : Tree) (faults : List (Option Errno)) (o : Outcome) (e : Errno) → first_fault faults ≡ Some e → unless t faults o ≡ (t, Fault e)
unless_fault t [] o e h = cc
unless_fault t (None ∷ faults) o e h = unless_fault t faults o e h
unless_fault t (Some d ∷ faults) o e h = cc

-- no new entry is made where there is a fault
pub made_refused : (t : Tree) (p : Path) (x : Tree) (e : Errno) → first_fault (faults_of_new t p) ≡ Some e → made t p x ≡ (t, Fault e)
made_refused t p x e h = unless_fault t (faults_of_new t p) (with_entry t p x, Done) e h

-- with no fault the outcome stands
pub unless_none : (t : Tree) (faults : List (Option Errno)) (o : Outcome) → first_fault faults ≡ None → unless t faults o ≡ o
unless_none t [] o h = refl
unless_none t (None ∷ faults) o h = unless_none t faults o h
unless_none t (Some d ∷ faults) o h = cc

-- what is not the root and stands somewhere can be moved from there
no_fault_of_old : (t : Tree) (o : Path) (x : Tree) → is_root o ≡ false → entry_at t o ≡ Found x → first_fault (faults_of_rename_from t o) ≡ None
no_fault_of_old t o x h g =
    ap (λ (b : Bool). first_fault (when b EBUSY ∷ path_fault (entry_at t o) ∷ [])) h ∙ ap (λ (a : At). first_fault (path_fault a ∷ [])) g

-- what `rename` comes to once it is known that something else is to be moved
renamed_on : (t : Tree) (o n : Path) (x : Tree) → is_root o ≡ false → entry_at t o ≡ Found x → same_path o n ≡ false → renamed t o n ≡ unless t (faults_of_rename t o n) (placed (without t o) n (entry_at t o), Done)
renamed_on t o n x h g s =
    let moved : Outcome = unless t (faults_of_rename t o n) (placed (without t o) n (entry_at t o), Done) in
    unless_none t (faults_of_rename_from t o) (cond (same_path o n) (t, Done) moved) (no_fault_of_old t o x h g)
    ∙ ap (λ (b : Bool). cond b (t, Done) moved) s

-- nothing is moved where there is a fault
pub renamed_refused : (t : Tree) (o n : Path) (x : Tree) (e : Errno) → is_root o ≡ false → entry_at t o ≡ Found x → same_path o n ≡ false → first_fault (faults_of_rename t o n) ≡ Some e → renamed t o n ≡ (t, Fault e)
renamed_refused t o n x e h g s f =
    renamed_on t o n x h g s ∙ unless_fault t (faults_of_rename t o n) (placed (without t o) n (entry_at t o), Done) e f

-- and where there is none, the entry is taken out and put in
pub renamed_moved : (t : Tree) (o n : Path) (x : Tree) → is_root o ≡ false → entry_at t o ≡ Found x → same_path o n ≡ false → first_fault (faults_of_rename t o n) ≡ None → renamed t o n ≡ (with_entry (without t o) n x, Done)
renamed_moved t o n x h g s f =
    renamed_on t o n x h g s
    ∙ unless_none t (faults_of_rename t o n) (placed (without t o) n (entry_at t o), Done) f
    ∙ ap (λ (a : At). (placed (without t o) n a, Done)) g
