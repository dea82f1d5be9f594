use Rattle.std.proofs.Common.{◌≡◌, ℕ, List, ◌++◌, length}
use Rattle.std.specs.Io.KnownBytes.{Appends}
use Rattle.reference.specs.Image.{path_text}
use Rattle.textio.proofs.text.put_path.Given as goal

-- the text of the names that are left is all that is left to write
abbrev pub invariant-names : goal.invariant-names
invariant-names g l = (done : List ℕ) × (path_text l.path ≡ done ++ path_text l.left) × Appends (g.W.Write.contents l.initial.writer) (g.W.Write.contents l.writer) done

abbrev pub decreases-names : goal.decreases-names
decreases-names g l = length l.left
