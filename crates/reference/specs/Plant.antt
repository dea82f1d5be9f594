-- An entry that is added to a tree in one step: an empty directory, or a file of zeros of a given length; and the root's mtime.
use Rattle.std.specs.Prelude.{◌≡◌, nat_lt, List, [], ◌∷◌, ◌++◌, replicate, Bool, false, ℕ, Option, Some, None, Result, Ok, Err}
use Rattle.pathkey.specs.Enc.{enc}
use Rattle.pathkey.specs.Names.{IsPath}
use Rattle.pathkey.specs.Outcomes.{when}
use Rattle.pathkey.specs.declared.errno.Errno.{Errno}
use Rattle.pathkey.specs.declared.errno.Errno.TheVariants.{EFBIG}
use Rattle.reference.specs.Calls.{faults_of_new, first_fault, greatest_file}
use Rattle.reference.specs.Indexes.{Metadata, Blocks, IndexesMean, put_at}
use Rattle.reference.specs.Shape.{IsMoment}
use Rattle.reference.specs.Tree.{Path, Tree, Dir, File, nothing, with_entry, dated}
use Rattle.reference.specs.declared.reply.Meta.{Meta}
use Rattle.reference.specs.declared.reply.Meta.TheVariants.{Dir as DirMeta, File as FileMeta}

-- the mtime in metadata
abbrev pub modified_of : Meta → ℕ
modified_of (DirMeta date) = date
modified_of (FileMeta n date) = date

-- what is added: an empty directory, or a file of zeros of a given length, with its mtime
abbrev pub fresh_entry : Meta → Tree
fresh_entry (DirMeta date) = Dir date nothing
fresh_entry (FileMeta n date) = File date (replicate n 0)

-- the file would be too long
abbrev pub is_too_long : Meta → Bool
is_too_long (DirMeta date) = false
is_too_long (FileMeta n date) = nat_lt greatest_file n

-- the error if an entry cannot be added: a directory at the root only sets the mtime of the root
abbrev pub faults_of_plant : Tree → Path → Meta → List (Option Errno)
faults_of_plant t [] (DirMeta date) = []
faults_of_plant t p m = faults_of_new t p ++ when (is_too_long m) EFBIG ∷ []

-- the tree with the entry; at the root the tree with that mtime and its entries
abbrev pub with_plant : Tree → Path → Meta → Tree
with_plant t [] m = dated (modified_of m) t
with_plant t (n ∷ p) m = with_entry t (n ∷ p) (fresh_entry m)

-- the tree afterwards, and the reply
abbrev pub Planted : Type 0
Planted = Tree × Result (Unit {0}) Errno

-- the tree unchanged with the error, or else the other
abbrev pub planted_unless : Tree → Tree → Option Errno → Planted
planted_unless t t' None = (t', Ok tt)
planted_unless t t' (Some e) = (t, Err e)

-- the entry is added, if its parent is a directory, the path does not exist and the file is not too long; or the root, if it is
-- a directory, gets its mtime
abbrev pub planted : Tree → Path → Meta → Planted
planted t p m = planted_unless t (with_plant t p m) (first_fault (faults_of_plant t p m))

-- if two indexes mean a tree, one message in the metadata adds an entry
abbrev pub PlantLaw : Type 0
PlantLaw = (t : Tree) (p : Path) (x : Meta) (m : Metadata) (d : Blocks) → IsMoment (modified_of x) → IndexesMean t m d → IsPath p → first_fault (faults_of_plant t p x) ≡ None → IndexesMean (with_plant t p x) (put_at (enc p) x m) d
