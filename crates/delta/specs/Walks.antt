-- Walks through the lines of an image.
use Rattle.std.specs.Prelude.{◌≡◌, ℕ, List, [], ◌∷◌, ◌++◌, take, drop, All, Option, Some, cond, Bool, true, false}
use Rattle.std.specs.Io.KnownBytes.{Appends}
use Rattle.textio.specs.Lines.{lines_of}
use Rattle.textio.specs.Parts.{AppendsPart}
use Rattle.reference.specs.Image.{Text, Second, image}
use Rattle.reference.specs.Tree.{Tree}
use Rattle.volume.specs.Volumes.{MeanRooted}
use Rattle.volume.specs.declared.fs_root.FsRoot.{FsRoot}
use Rattle.delta.specs.Deltas.{Command, IsCommand, Line, commands_text, patched}
use Rattle.delta.specs.declared.line_cursor.LineCursor.{LineCursor}

-- what was printed and not yet read
abbrev pub unread : LineCursor → Text
unread w = drop w.used (take w.filled w.piece.items)

-- what is left of the image of a tree
abbrev pub left : Tree → LineCursor → Text
left t w = unread w ++ drop w.printing.done (image Second t)

-- the lines of the image from the cursor's line on
abbrev pub lines_from : Tree → LineCursor → List Line
lines_from t w = cond w.there (w.line.items ∷ lines_of (left t w)) []

-- the walk is through the same image
abbrev pub SameTree : LineCursor → LineCursor → Type 0
SameTree old new = new.printing.tree ≡ old.printing.tree

-- it passed these lines
pub record Walks (lines : List Line) (old new : LineCursor) : Type 0 where
  pub same : SameTree old new
  pub over : (t : Tree) → MeanRooted old.printing.tree t → lines_from t old ≡ lines ++ lines_from t new

-- it is at the first line of the image
pub record IsAtStart (tree : FsRoot) (w : LineCursor) : Type 0 where
  pub same : w.printing.tree ≡ tree
  pub all : (t : Tree) → MeanRooted tree t → lines_from t w ≡ lines_of (image Second t)

-- ---- within a line

-- the line was continued up to its end, or to the end of what was printed
abbrev pub Cuts : Bool → Text → Text → Text → Type 0
Cuts true had part has = had ≡ part ++ 10 ∷ has
Cuts false had part has = (had ≡ part) × (has ≡ [])

pub record TakesPart (ended : Bool) (old new : LineCursor) : Type 0 where
  pub printing : new.printing ≡ old.printing
  pub part : Text
  pub line : new.line.items ≡ old.line.items ++ part
  pub cut : Cuts ended (unread old) part (unread new)

-- the next piece was printed; there is none only at the end of the image
pub record Refills (more : Bool) (old new : LineCursor) : Type 0 where
  pub same : SameTree old new
  pub line : new.line.items ≡ old.line.items
  pub next : (t : Tree) → MeanRooted old.printing.tree t → left t new ≡ drop old.printing.done (image Second t)
  pub end : (t : Tree) → MeanRooted old.printing.tree t → more ≡ false → left t new ≡ []

-- the next line was read, and is the cursor's line
pub record ReadsLine (old new : LineCursor) : Type 0 where
  pub same : SameTree old new
  pub next : (t : Tree) → MeanRooted old.printing.tree t → lines_of (left t old) ≡ lines_from t new

-- ---- two walks

-- commands that make of the lines from the one place to another those of the other walk
pub record Patches (cs : List Command) (old new old_end new_end : LineCursor) : Type 0 where
  pub old_tree : SameTree old old_end
  pub new_tree : SameTree new new_end
  pub patch : (t u : Tree) (ds : List Command) → MeanRooted old.printing.tree t → MeanRooted new.printing.tree u
      → patched ds (lines_from t old_end) ≡ Some (lines_from u new_end) → patched (cs ++ ds) (lines_from t old) ≡ Some (lines_from u new)

-- such commands were written
pub record Puts (cs : List Command) (had has : Option (List ℕ)) (old new old_end new_end : LineCursor) : Type 0 where
  pub commands : All IsCommand cs
  pub text : Appends had has (commands_text cs)
  pub patches : Patches cs old new old_end new_end

-- they make all the lines of the one walk of those of the other
pub record PutsAll (cs : List Command) (had has : Option (List ℕ)) (old new : LineCursor) : Type 0 where
  pub commands : All IsCommand cs
  pub text : Appends had has (commands_text cs)
  pub all : (t u : Tree) → MeanRooted old.printing.tree t → MeanRooted new.printing.tree u → patched cs (lines_from t old) ≡ Some (lines_from u new)

-- a beginning of the text of commands was written that make these lines of the one tree's image of those of the other's
pub record Begins (had has : Option (List ℕ)) (old new : LineCursor) (t u : Tree) : Type 0 where
  pub list : List Command
  pub commands : All IsCommand list
  pub text : AppendsPart had has (commands_text list)
  pub all : patched list (lines_from t old) ≡ Some (lines_from u new)

-- whichever trees the cursors read
abbrev pub BeginsAll : Option (List ℕ) → Option (List ℕ) → LineCursor → LineCursor → Type 0
BeginsAll had has old new = (t u : Tree) → MeanRooted old.printing.tree t → MeanRooted new.printing.tree u → Begins had has old new t u

-- the first of such commands were written, each whole
pub record PutsFirst (had has : Option (List ℕ)) (old new : LineCursor) (t u : Tree) : Type 0 where
  pub done : List Command
  pub more : List Command
  pub commands : All IsCommand (done ++ more)
  pub text : Appends had has (commands_text done)
  pub all : patched (done ++ more) (lines_from t old) ≡ Some (lines_from u new)

-- whichever trees the cursors read
abbrev pub PutsSome : Option (List ℕ) → Option (List ℕ) → LineCursor → LineCursor → Type 0
PutsSome had has old new = (t u : Tree) → MeanRooted old.printing.tree t → MeanRooted new.printing.tree u → PutsFirst had has old new t u
