-- How far an image is loaded, line by line.
use Rattle.std.specs.Prelude.{◌≡◌, ◌≢◌, ◌+◌, ◌*◌, ◌≤◌, ℕ, ⊤, List, [], ◌∷◌, ◌++◌, length, Option, Some, None, IfSome}
use Rattle.std.specs.FinMap as finite
use Rattle.std.specs.Io.KnownBytes.{Consumes, IsAtEnd}
use Rattle.reference.specs.Image.{Text, Version, image, root_line}
use Rattle.reference.specs.ImageLines.{Line, DirectoryLine, FileLine, Lines, AllReported, AreLines, IsBadAt, IsSomeImage, IsReported, MayFollow, image_of_lines, last_len, last_path, next_block, tree_of_lines}
use Rattle.reference.specs.Shape.{IsTree}
use Rattle.reference.specs.Tree.{Path, Tree, Dir, nothing, entry_at, moment_there}
use Rattle.reference.specs.declared.call.Call.{Call}
use Rattle.reference.specs.declared.reply.Meta.{Meta}
use Rattle.reference.specs.declared.reply.Meta.TheVariants.{Dir as DirMeta, File as FileMeta}
use Rattle.reference.specs.declared.reply.Reply.TheVariants.{Count}
use Rattle.reference.specs.Worlds.{World}
use Rattle.images.specs.Image.{version_of}
use Rattle.textio.specs.Held.{Holds, IsFree}
use Rattle.images.specs.declared.load.LoadState.{LoadState}
use Rattle.node.specs.declared.shape.Shape.{Shape}
use Rattle.volume.specs.Changes.{Called}
use Rattle.volume.specs.Marked.{PMarks, no_marks}
use Rattle.volume.specs.Volumes.{PVolume, Means}

-- the world of a tree without snapshots
abbrev pub alone : Tree → World
alone t = record { live = t; snapshots = finite.empty }

-- the form of a volume: the shapes of its trees, and its marks
pub record Form : Type 0 where
  pub meta : Shape
  pub block : Shape
  pub marks : PMarks

abbrev pub form_of : PVolume → Form
form_of v = record { meta = v.live.indexes.meta.tree.shape; block = v.live.indexes.block.tree.shape; marks = v.marks }

-- that of a new volume of the shape
abbrev pub new_form : Shape → Form
new_form shape = record { meta = shape; block = shape; marks = no_marks 0 }

-- ---- the lines so far: none, or the root's line and others after it

-- an image that was begun: its version, the mtime of its root, and the lines after the root's
pub record Begun : Type 0 where
  pub version : Version
  pub root : ℕ
  pub lines : Lines

abbrev pub text_of : Begun → Text
text_of b = image_of_lines b.version b.root b.lines

abbrev pub with_line : Line → Begun → Begun
with_line l b = record b { lines = l ∷ b.lines }

abbrev pub text_so_far : Option Begun → Text
text_so_far None = []
text_so_far (Some b) = text_of b

abbrev pub lines_so_far : Option Begun → Lines
lines_so_far None = []
lines_so_far (Some b) = b.lines

-- each line may follow those before it, and the version may have the root's mtime
abbrev pub AreSoFar : Option Begun → Type 0
AreSoFar None = ⊤
AreSoFar (Some b) = IsReported b.version b.root × AreLines b.version b.lines

abbrev pub tree_so_far : Option Begun → Tree
tree_so_far None = Dir 0 nothing
tree_so_far (Some b) = tree_of_lines b.root b.lines

abbrev pub count_so_far : Option Begun → ℕ
count_so_far None = 0
count_so_far (Some b) = length b.lines + 1

-- these lines were loaded, and what is kept of them decides which line may follow
pub record IsLoading (s : Option Begun) (l : LoadState) : Type 0 where
  pub are : AreSoFar s
  pub means : Means l.volume (alone (tree_so_far s))
  pub version : IfSome s (λ b. version_of l.version ≡ b.version)
  pub count : l.lines ≡ count_so_far s
  pub last : l.last ≡ last_path (lines_so_far s)
  pub moment : moment_there (entry_at (tree_so_far s) (last_path (lines_so_far s))) ≡ l.modified
  pub len : l.len ≡ last_len (lines_so_far s)
  pub next : l.next ≡ next_block (lines_so_far s)

-- ---- one line more

-- the root's line was loaded
abbrev pub LoadsRoot : Text → LoadState → LoadState → Type 0
LoadsRoot line old new = IsLoading None old → (b : Begun) × IsLoading (Some b) new × (b.lines ≡ []) × (line ≡ root_line b.version b.root)

-- a line that may follow was loaded
abbrev pub LoadsNext : Line → LoadState → LoadState → Type 0
LoadsNext l old new = (b : Begun) → IsLoading (Some b) old → IsLoading (Some (with_line l b)) new

-- a block with this number and length may be here in the last file, after the blocks before it
pub record FitsAt (i len : ℕ) (l : LoadState) (offset : ℕ) : Type 0 where
  pub file : ℕ
  pub is_file : l.len ≡ Some file
  pub behind : l.next ≤ i
  pub at : offset ≡ 4096 * i
  pub inside : offset + len ≤ file

-- a call at a timestamp was executed, and its answer is a count
abbrev pub Counts : Call → ℕ → PVolume → PVolume → Type 0
Counts call at old new = (n : ℕ) × Called call at (Count n) old new

-- the line is that of no root
abbrev pub IsNoRoot : Text → Type 0
IsNoRoot line = (v : Version) (at : ℕ) → IsReported v at → line ≢ root_line v at

-- the line may not follow
abbrev pub MayNotFollow : Line → LoadState → Type 0
MayNotFollow l old = (b : Begun) → IsLoading (Some b) old → MayFollow b.version l b.lines → ⊥

-- a line was loaded
abbrev pub LoadsLine : Text → LoadState → LoadState → Type 0
LoadsLine line old new = (s : Option Begun) → IsLoading s old → (b : Begun) × IsLoading (Some b) new × (text_of b ≡ text_so_far s ++ (line ++ 10 ∷ []))

-- a line does not leave an image
abbrev pub RefusesLine : Text → LoadState → Type 0
RefusesLine line old = (s : Option Begun) → IsLoading s old → IsFree line → IsSomeImage (text_so_far s ++ (line ++ 10 ∷ [])) → ⊥

-- the line of an entry
abbrev pub entry_line : Path → Meta → Line
entry_line p (DirMeta at) = DirectoryLine p at
entry_line p (FileMeta n at) = FileLine p n at

-- the length of a file
abbrev pub len_of : Meta → Option ℕ
len_of (DirMeta at) = None
len_of (FileMeta n at) = Some n

-- ---- texts piece by piece

-- of this text the whole lines were loaded, and what follows the last of them is held
pub record HasRead (text items : Text) (l : LoadState) : Type 0 where
  pub so_far : Option Begun
  pub load_state : IsLoading so_far l
  pub left : Text
  pub cut : text ≡ text_so_far so_far ++ left
  pub holds : Holds left items

-- a piece more was read
abbrev pub LoadsPiece : Text → Text → Text → LoadState → LoadState → Type 0
LoadsPiece items piece items' old new = (text : Text) → HasRead text items old → HasRead (text ++ piece) items' new

-- within the piece there is a line that does not leave an image, and n counts it
abbrev pub RefusesPiece : Text → Text → ℕ → LoadState → Type 0
RefusesPiece items piece n old = (text rest : Text) → HasRead text items old → IsBadAt n (text ++ (piece ++ rest))

-- at the end of the text: it is an image
abbrev pub LoadsEnd : Text → LoadState → Type 0
LoadsEnd items l = (text : Text) → HasRead text items l → (b : Begun) × IsLoading (Some b) l × (text ≡ text_of b)

-- or it is none, from the line that n counts
abbrev pub RefusesEnd : Text → ℕ → LoadState → Type 0
RefusesEnd items n l = (text : Text) → HasRead text items l → IsBadAt n text

-- so far the reader returned a text, which was loaded except for what is buffered
abbrev pub ReadsSoFar : Option (List ℕ) → Option (List ℕ) → Text → LoadState → Type 0
ReadsSoFar had has items l = (text : Text) × Consumes had has text × HasRead text items l

-- the whole lines of a text are the first of an image, or there is none yet
abbrev pub IsBegun : Text → Type 0
IsBegun text = (so_far : Option Begun) × (left : Text) × AreSoFar so_far × IsFree left × (text ≡ text_so_far so_far ++ left)

-- what the reader gave is so: no line of it is bad
abbrev pub HasBegun : Option (List ℕ) → Option (List ℕ) → Type 0
HasBegun had has = (text : Text) × Consumes had has text × IsBegun text

-- ---- whole texts

-- the volume abstracts to the tree whose image in one of the versions is the text, with the mtimes that this version has,
-- without snapshots
pub record Loaded (text : Text) (v : PVolume) : Type 0 where
  pub version : Version
  pub tree : Tree
  pub is_tree : IsTree tree
  pub image_is : image version tree ≡ text
  pub reported : AllReported version tree
  pub means : Means v (alone tree)

-- the reader is at its end, and what it returned is an image, to whose tree the volume abstracts
abbrev pub LoadsAll : Option (List ℕ) → Option (List ℕ) → PVolume → Type 0
LoadsAll had has v = (text : Text) × Consumes had has text × IsAtEnd has × IsSomeImage text × Loaded text v

-- what the reader had is no image from the line of that number on
abbrev pub IsBadIn : Option (List ℕ) → ℕ → Type 0
IsBadIn had n = (text : Text) × IfSome had (λ all. all ≡ text) × IsBadAt n text
