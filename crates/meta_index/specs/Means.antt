-- When a metadata index abstracts to a directory tree, and what it reports of the tree.
use Rattle.std.specs.Prelude.{◌≡◌, ℕ, Option, None, Some, Result, Ok, Err, length, MatchOption}
use Rattle.pathkey.specs.Names.{Path}
use Rattle.pathkey.specs.declared.errno.Errno.{Errno}
use Rattle.pathkey.specs.declared.errno.Errno.TheVariants.{ENOENT, ENOTDIR}
use Rattle.node.specs.Meaning.{value}
use Rattle.reference.specs.Tree.{Tree, Dir, File, At, Found, Missing, Blocked, entry_at}
use Rattle.reference.specs.Shape.{IsTree}
use Rattle.reference.specs.Reads.{look}
use Rattle.reference.specs.Indexes.{Metadata, MetaMeans}
use Rattle.reference.specs.declared.reply.Meta.{Meta}
use Rattle.reference.specs.declared.reply.Meta.TheVariants.{Dir as DirMeta, File as FileMeta}
use Rattle.meta_index.specs.declared.at.At as meta
use Rattle.meta_index.specs.declared.at.At.TheVariants.{Found as FoundMeta}
use Rattle.meta_index.specs.declared.index.MetaIndex.{MetaIndex}
use Rattle.meta_index.specs.Updates.{means}

-- the metadata at each key
abbrev pub metadata : MetaIndex → Metadata
metadata m = value means m.tree.root

-- the index abstracts to the directory tree t: t is one, and the index has the metadata of its entries and nothing else
pub record IsMeantBy (t : Tree) (m : MetaIndex) : Type 0 where
  pub tree : IsTree t
  pub meta : MetaMeans t (metadata m)

-- what is reported of the entry at a path: that it is a directory, or the length of a file, and the mtime
abbrev pub lookup_answer : At → meta.At
lookup_answer (Found (Dir date es)) = meta.TheVariants.Found (DirMeta date)
lookup_answer (Found (File date b)) = meta.TheVariants.Found (FileMeta (length b) date)
lookup_answer Missing = meta.TheVariants.Missing
lookup_answer Blocked = meta.TheVariants.Blocked

-- the metadata that were found; none if there is no entry
abbrev pub found_meta : meta.At → Option Meta
found_meta (FoundMeta m) = Some m
found_meta _ = None

-- what is reported of the directory at a path: its mtime; or why there is none
abbrev pub moment_reported : At → Result ℕ Errno
moment_reported (Found (Dir date es)) = Ok date
moment_reported (Found (File date b)) = Err ENOTDIR
moment_reported Missing = Err ENOENT
moment_reported Blocked = Err ENOTDIR

-- the mtime of a directory that was found, without its path
abbrev pub moment_in : Result (Path × ℕ) Errno → Result ℕ Errno
moment_in (Ok dated) = Ok dated.1
moment_in (Err fault) = Err fault

-- what is at a name that does not exist
abbrev pub beyond : At → At
beyond (Found (Dir date es)) = Missing
beyond (Found (File date b)) = Blocked
beyond Missing = Missing
beyond Blocked = Blocked

-- if nothing is seen at p, the entry at this ancestor decides why
abbrev pub Decides : MetaIndex → Path → Option Path → Type 0
Decides m p ancestor = (t : Tree) → IsMeantBy t m → look t p ≡ None → MatchOption ancestor ⊥ (λ q. entry_at t p ≡ beyond (entry_at t q))
