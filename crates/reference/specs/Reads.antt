-- What is visible of a tree at a path: a directory, or a file with its bytes, but not the entries of a directory; and the same
-- with its mtime. An edit changes what is visible at its path and below it, and nowhere else.
use Rattle.std.specs.Prelude.{ℕ, List, [], ◌∷◌, cond, Option, Some, None, option_map, fold}
use Rattle.reference.specs.Tree.{Path, Tree, Dir, File, At, Found, Missing, Blocked, entry_at, found, onward, same}
use Rattle.reference.specs.declared.reply.Kind.{Kind}
use Rattle.reference.specs.declared.reply.Kind.TheVariants.{Dir as DirKind, File as FileKind}

pub data Look : Type 0 where
  Directory : Look
  Bytes : List ℕ → Look

abbrev pub seen : At → Option Look
seen (Found (Dir date es)) = Some Directory
seen (Found (File date b)) = Some (Bytes b)
seen Missing = None
seen Blocked = None

-- what is visible at a path, apart from its mtime
abbrev pub look : Tree → Path → Option Look
look t p = seen (entry_at t p)

abbrev pub look_kind : Look → Kind
look_kind Directory = DirKind
look_kind (Bytes b) = FileKind

-- the kind of what is visible at a path
abbrev pub kind_at : Tree → Path → Option Kind
kind_at t p = option_map look_kind (look t p)

-- the rest of q after p, if q is at or below p
abbrev pub rest_of : Path → Path → Option Path
rest_of [] q = Some q
rest_of (n ∷ p) [] = None
rest_of (n ∷ p) (k ∷ q) = cond (same n k) (rest_of p q) None

-- what is visible at a path after an edit at or above it by o, and else what was visible before
abbrev pub look_after : Option Path → Option Tree → Option Look → Option Look
look_after (Some r) o old = seen (fold onward (found o) r)
look_after None o old = old

-- ---- with mtimes
-- what is visible, and its mtime
pub data Sight : Type 0 where
  Seen : Look → ℕ → Sight

abbrev pub look_of : Sight → Look
look_of (Seen l date) = l

abbrev pub date_of : Sight → ℕ
date_of (Seen l date) = date

abbrev pub sighted : At → Option Sight
sighted (Found (Dir date es)) = Some (Seen Directory date)
sighted (Found (File date b)) = Some (Seen (Bytes b) date)
sighted Missing = None
sighted Blocked = None

-- what is visible at a path, with its mtime
abbrev pub sight : Tree → Path → Option Sight
sight t p = sighted (entry_at t p)

-- the same after an edit at or above the path by o
abbrev pub sight_after : Option Path → Option Tree → Option Sight → Option Sight
sight_after (Some r) o old = sighted (fold onward (found o) r)
sight_after None o old = old

-- the same with another mtime
abbrev pub redated : ℕ → Option Sight → Option Sight
redated at None = None
redated at (Some (Seen l date)) = Some (Seen l at)

-- the same after the mtime was set at the path, or elsewhere
abbrev pub sight_touched : ℕ → Option Path → Option Sight → Option Sight
sight_touched at (Some []) old = redated at old
sight_touched at (Some (n ∷ r)) old = old
sight_touched at None old = old
