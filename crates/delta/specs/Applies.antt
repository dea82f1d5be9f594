-- What is printed of two trees, and what is done by a delta.
use Rattle.std.specs.Prelude.{◌≡◌, ◌≢◌, ℕ, Bool, true, false, List, [], ◌∷◌, Option, Some}
use Rattle.std.specs.Io.KnownBytes.{Appends}
use Rattle.images.specs.Image.{AppendsLines}
use Rattle.images.specs.Loads.{alone}
use Rattle.images.specs.Taken.{LoadedIn, Took}
use Rattle.images.specs.declared.loader.ImageLoader.{ImageLoader}
use Rattle.textio.specs.Lines.{lines_of}
use Rattle.textio.specs.Parts.{AppendsPart}
use Rattle.reference.specs.Image.{Text, Second, image}
use Rattle.reference.specs.Shape.{IsTree}
use Rattle.reference.specs.Tree.{Tree}
use Rattle.sha2.specs.Sha256.{sha256}
use Rattle.node.specs.declared.shape.Shape.{Shape}
use Rattle.volume.specs.Volumes.{Means, PVolume}
use Rattle.delta.specs.Deltas.{Command, IsDelta, Line, Makes, patched, text_of}
use Rattle.delta.specs.Patching.{Does, MakesNoImage}
use Rattle.delta.specs.Texts.{TellsAll}

-- a delta that makes the image of one tree of that of another
abbrev pub IsDifference : Text → Tree → Tree → Type 0
IsDifference text t u = Makes text (image Second t) (lines_of (image Second u))

-- such a delta was appended
abbrev pub AppendsDelta : Option (List ℕ) → Option (List ℕ) → Tree → Tree → Type 0
AppendsDelta old new t u = (text : Text) × IsDifference text t u × Appends old new text

-- a beginning of such a delta was appended
abbrev pub BeginsDelta : Option (List ℕ) → Option (List ℕ) → Tree → Tree → Type 0
BeginsDelta old new t u = (text : Text) × IsDifference text t u × AppendsPart old new text

-- a beginning of it was appended that is whole lines
abbrev pub BeginsLines : Option (List ℕ) → Option (List ℕ) → Tree → Tree → Type 0
BeginsLines old new t u = (text : Text) × IsDifference text t u × AppendsLines old new text

-- the volume abstracts to the one tree whose image has the lines that result from applying the delta to those of a tree's image,
-- without snapshots and marks, in trees of the shape
pub record Applied (text : Text) (t : Tree) (shape : Shape) (v : PVolume) : Type 0 where
  pub lines : List Line
  pub makes : Makes text (image Second t) lines
  pub loaded : LoadedIn shape (text_of lines) v

-- the text is the delta of a tree with another image
abbrev pub IsOfOther : Text → Tree → Type 0
IsOfOther text t = (digest : List ℕ) × (cs : List Command) × IsDelta text digest cs × (digest ≢ sha256 (image Second t))

-- the text is a delta that makes no image of the lines of the tree's
abbrev pub SpoilsImage : Text → Tree → Type 0
SpoilsImage text t = (cs : List Command) × IsDelta text (sha256 (image Second t)) cs × MakesNoImage cs (lines_of (image Second t)) []

-- ---- on the way

-- whether the digest is that of the tree's image
abbrev pub IsOfTree : Bool → List ℕ → Tree → Type 0
IsOfTree true digest t = digest ≡ sha256 (image Second t)
IsOfTree false digest t = digest ≢ sha256 (image Second t)

-- the volume was loaded of what the commands make of the lines of the tree's image
abbrev pub LoadsPatched : Text → Tree → Shape → PVolume → Type 0
LoadsPatched text t shape v = (cs : List Command) → TellsAll text cs
    → (lines : List Line) × (patched cs (lines_of (image Second t)) ≡ Some lines) × LoadedIn shape (text_of lines) v

-- what they make of them is no image
abbrev pub PatchesNone : Text → Tree → Type 0
PatchesNone text t = (cs : List Command) → TellsAll text cs → MakesNoImage cs (lines_of (image Second t)) []

-- a command was executed, and the loader accepted its lines
abbrev pub DoesCommand : Command → List Line → Text → List Line → Shape → ImageLoader → Type 0
DoesCommand c old text left s l = (has : Text) × Does (c ∷ []) old text left has × Took s has l

-- all were done
abbrev pub DoesAll : List Command → List Line → Shape → ImageLoader → Type 0
DoesAll cs old s l = (lines : List Line) × (patched cs old ≡ Some lines) × Took s (text_of lines) l

-- ---- laws

-- applying a delta of two trees to a volume that abstracts to the first gives one that abstracts to the second, mtimes
-- included
abbrev pub RoundTripLaw : Type 0
RoundTripLaw = (text : Text) (t u : Tree) (shape : Shape) (v : PVolume) → IsTree t → IsTree u → IsDifference text t u → Applied text t shape v → Means v (alone u)

-- a text is a delta of one tree alone, unless two trees have images of one digest; and it makes one list of lines
abbrev pub OneReadingLaw : Type 0
OneReadingLaw = (text old : Text) (a b : List Line) → Makes text old a → Makes text old b → a ≡ b
