-- What edits make of a volume.
use Rattle.std.specs.Prelude.{◌≡◌, ◌+◌, ◌-◌, ℕ, Bool, true, false, List, [], ◌∷◌, ◌++◌, length, map, take, Result, Ok, Err, All}
use Rattle.pathkey.specs.declared.errno.NoMemory.{NoMemory}
use Rattle.reference.specs.Image.{Text}
use Rattle.reference.specs.Tree.{Tree}
use Rattle.reference.specs.Worlds.{World}
use Rattle.textio.specs.Lines.{text_of}
use Rattle.volume.specs.Marked.{KeepsMarks}
use Rattle.volume.specs.Volumes.{Means, PVolume, live_of}
use Rattle.edits.specs.Edits.{AreEdited, IsEdited, IsRefused}
use Rattle.edits.specs.Lines.{AreEdits, IsEdit, heading, listed, spelled}
use Rattle.edits.specs.declared.edit.Edit.{Edit}

-- snapshots and marks stay, and each mark still fits its slot
pub record Stays (old new : PVolume) : Type 0 where
  pub snapshots : new.snapshots ≡ old.snapshots
  pub marks : new.marks ≡ old.marks
  pub kept : KeepsMarks (live_of old) (live_of new)

-- edits were done in the live tree
pub record DoesEdits (es : List Edit) (old new : PVolume) : Type 0 where
  pub stays : Stays old new
  pub means : (w : World) → Means old w → (u : Tree) × AreEdited es w.live u × Means new (record w { live = u })

-- an edit: it was done; or it makes no tree, or memory was refused, and nothing changed
abbrev pub Performs : Edit → Result Bool NoMemory → PVolume → PVolume → Type 0
Performs e (Ok true) old new = DoesEdits (e ∷ []) old new
Performs e (Ok false) old new = (new ≡ old) × ((w : World) → Means old w → (u : Tree) → IsEdited e w.live u → ⊥)
Performs e (Err f) old new = new ≡ old

-- the edits of a text were done
abbrev pub Applied : Text → PVolume → PVolume → Type 0
Applied text old new = (es : List Edit) × AreEdits text es × DoesEdits es old new

-- the text begins with edits that can be done in the tree, and in line n with one that cannot be done after them
pub record DoesNotFit (n : ℕ) (text : Text) (t : Tree) : Type 0 where
  pub before : List Edit
  pub edit : Edit
  pub rest : Text
  pub are : All IsEdit (before ++ edit ∷ [])
  pub begins : text ≡ text_of (heading ∷ map spelled (before ++ edit ∷ [])) ++ rest
  pub number : n ≡ length before + 2
  pub refused : IsRefused before edit t

-- the lines of the text before line n are the first of a text of edits, and these edits can be done in the tree, one after the other
pub record FitsBefore (n : ℕ) (text : Text) (t : Tree) : Type 0 where
  pub edits : List Edit
  pub rest : Text
  pub there : Tree
  pub are : All IsEdit edits
  pub begins : text ≡ text_of (take (n - 1) (heading ∷ listed edits)) ++ rest
  pub done : AreEdited edits t there
