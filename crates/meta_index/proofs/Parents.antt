-- What is reported of the parent of a path.
use Rattle.std.proofs.Common.{◌≡◌, ℕ, [], ◌∷◌, refl, sym, ap, ◌∙◌, None}
use Rattle.std.specs.Prelude.{Result, Ok, Err}
use Rattle.std.specs.Result.{result_err}
use Rattle.pathkey.specs.Names.{Path, parent}
use Rattle.pathkey.specs.declared.errno.Errno.{Errno}
use Rattle.reference.specs.Tree.{Tree, Dir, File, At, Found, Missing, Blocked, entry_at}
use Rattle.reference.specs.Calls.{no_directory_fault, parent_fault}
use Rattle.reference.specs.Shape.{IsDirectory}
use Rattle.meta_index.specs.Means.{moment_reported, moment_in}

-- the reason why no mtime is reported is the reason why the path is not a directory
pub moment_fault : (here : At) → result_err (moment_reported here) ≡ no_directory_fault here
moment_fault (Found (Dir date es)) = refl
moment_fault (Found (File date b)) = refl
moment_fault Missing = refl
moment_fault Blocked = refl

-- the root is a directory, so that nothing is amiss with its parent
root_fault : (t : Tree) → IsDirectory t → no_directory_fault (entry_at t []) ≡ None
root_fault (Dir date es) is = refl
root_fault (File date b) is = absurd is

reported_of_parent : (t : Tree) (p : Path) → IsDirectory t → no_directory_fault (entry_at t (parent p)) ≡ parent_fault t p
reported_of_parent t [] is = root_fault t is
reported_of_parent t (n ∷ p) is = refl

-- the error of a result without the path
fault_in : (found : Result (Path × ℕ) Errno) → result_err (moment_in found) ≡ result_err found
fault_in (Ok dated) = refl
fault_in (Err fault) = refl

-- if the parent's mtime is reported, so is its fault
pub parent_refused : (t : Tree) (p : Path) (found : Result (Path × ℕ) Errno) → IsDirectory t → moment_in found ≡ moment_reported (entry_at t (parent p)) → result_err found ≡ parent_fault t p
parent_refused t p found is lookup_answer = sym (fault_in found) ∙ ap result_err lookup_answer ∙ moment_fault (entry_at t (parent p)) ∙ reported_of_parent t p is
