-- Which bytes of a file are stored.
use Rattle.std.specs.Prelude.{◌≡◌, ◌≤◌, ◌<◌, ◌/◌, ◌⊎◌, ℕ, List, length, slice_index, Option, Some, None, IsSome, Result, MatchResult}
use Rattle.block_index.specs.Means.{blocks}
use Rattle.call_compiler.specs.Compiled.{MeanTree}
use Rattle.call_compiler.specs.declared.indexes.Indexes.{Indexes}
use Rattle.pathkey.specs.Keys.{block_key}
use Rattle.pathkey.specs.Names.{Path}
use Rattle.pathkey.specs.declared.errno.Errno.{Errno}
use Rattle.pathkey.specs.declared.errno.Errno.TheVariants.{EISDIR, ENOMEM}
use Rattle.reference.specs.Calls.{faults_of_file, first_fault}
use Rattle.reference.specs.Indexes.{Blocks, most_blocks}
use Rattle.reference.specs.Tree.{Tree, At, Found, File, entry_at}

-- the first block of p that is stored, from a number on, with its bytes; or none, if there is none
abbrev pub IsNextStored : Blocks → Path → ℕ → Option (ℕ × List ℕ) → Type 0
IsNextStored d p from None = (i : ℕ) → from ≤ i → i < most_blocks → d (block_key p i) ≡ None
IsNextStored d p from (Some x) = (d (block_key p x.0) ≡ Some x.1) × ((i : ℕ) → from ≤ i → i < x.0 → d (block_key p i) ≡ None)

-- the block of p that has byte x of the file
abbrev pub block_at : Blocks → Path → ℕ → Option (List ℕ)
block_at d p x = d (block_key p (x / 4096))

-- the next run of stored bytes of the file b of p, from off on: bytes `from` up to `to`. There is none if both are the file's
-- length
pub record IsRun (d : Blocks) (p : Path) (b : List ℕ) (off from to : ℕ) : Type 0 where
  pub order : from ≤ to
  pub within : to ≤ length b
  pub begins : (off ≤ from) ⊎ (from ≡ length b)
  pub some : from ≡ to → from ≡ length b
  -- no block before it is stored, from off on, and all bytes there are zeros
  pub hole : (x : ℕ) → off ≤ x → x < from → block_at d p x ≡ None
  pub zeros : (x : ℕ) → off ≤ x → x < from → slice_index b x ≡ 0
  -- each of its blocks is
  pub stored : (x : ℕ) → from ≤ x → x < to → IsSome (block_at d p x)
  -- and if the file continues after it, the next byte is not stored
  pub ends : to < length b → block_at d p to ≡ None

-- the next stored run of the file at the path; or why there is none
abbrev pub TellsRun : Blocks → Path → ℕ → At → Result (ℕ × ℕ) Errno → Type 0
TellsRun d p off here history_of =
    MatchResult history_of
    (λ run. (date : ℕ) × (b : List ℕ) × (here ≡ Found (File date b)) × IsRun d p b off run.0 run.1)
    (λ fault. (first_fault (faults_of_file here EISDIR) ≡ Some fault) ⊎ (fault ≡ ENOMEM))

-- the same in each tree to which the indexes abstract
abbrev pub RunsIn : Indexes → Path → ℕ → Result (ℕ × ℕ) Errno → Type 0
RunsIn i p off history_of = (t : Tree) → MeanTree i t → TellsRun (blocks i.block) p off (entry_at t p) history_of

-- the blocks of p from number f up to l are stored
abbrev pub AreStored : Blocks → Path → ℕ → ℕ → Type 0
AreStored d p f l = (i : ℕ) → f ≤ i → i < l → IsSome (d (block_key p i))
