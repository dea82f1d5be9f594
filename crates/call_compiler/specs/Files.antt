-- The file that a call names.
use Rattle.std.specs.Prelude.{◌≡◌, ◌≤◌, ◌^◌, ℕ, List, length, Option, Some, Result, MatchResult}
use Rattle.call_compiler.specs.declared.files.FoundFile.{FoundFile}
use Rattle.pathkey.specs.declared.errno.Errno.{Errno}
use Rattle.reference.specs.Tree.{At, Found, File}
use Rattle.reference.specs.Calls.{faults_of_file, first_fault}
use Rattle.reference.specs.declared.reply.Meta.{Meta}
use Rattle.call_compiler.specs.Compiled.{has_grown, meta_has_grown}

-- there is a file with that length and mtime; or this is why there is none, where e is the fault for a directory
abbrev pub TellsFile : At → Errno → Result FoundFile Errno → Type 0
TellsFile here e file = MatchResult file (λ f. (b : List ℕ) × (here ≡ Found (File f.modified b)) × (length b ≡ f.len)) (λ fault. first_fault (faults_of_file here e) ≡ Some fault)

-- it has grown, within the limit, exactly as its metadata say
abbrev pub TellsGrowth : Option Meta → FoundFile → Type 0
TellsGrowth m f = (n at : ℕ) → n ≤ 2 ^ 40 → has_grown n at f.len f.modified ≡ meta_has_grown n at m

-- a file has at most 2^40 bytes
abbrev pub IsShort : At → Type 0
IsShort here = (date : ℕ) (b : List ℕ) → here ≡ Found (File date b) → length b ≤ 2 ^ 40
