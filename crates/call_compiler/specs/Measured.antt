-- The length of a file.
use Rattle.std.specs.Prelude.{◌≡◌, ℕ, List, length, Some, Result, MatchResult}
use Rattle.pathkey.specs.declared.errno.Errno.{Errno}
use Rattle.pathkey.specs.declared.errno.Errno.TheVariants.{EISDIR}
use Rattle.reference.specs.Calls.{faults_of_file, first_fault}
use Rattle.reference.specs.Tree.{At, Found, File}

-- there is a file with that length; or this is why there is none
abbrev pub TellsLength : At → Result ℕ Errno → Type 0
TellsLength here reported = MatchResult reported (λ n. (date : ℕ) × (b : List ℕ) × (here ≡ Found (File date b)) × (length b ≡ n)) (λ fault. first_fault (faults_of_file here EISDIR) ≡ Some fault)
