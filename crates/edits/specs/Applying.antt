-- How a text of edits is applied, line by line.
use Rattle.std.specs.Prelude.{◌≡◌, ◌≢◌, ◌+◌, ℕ, List, [], ◌∷◌, ◌++◌, length, map, Result, Ok, Err, All, ⊤}
use Rattle.reference.specs.Image.{Text}
use Rattle.reference.specs.Tree.{Tree}
use Rattle.reference.specs.Worlds.{World}
use Rattle.textio.specs.Lines.{IsFirstBad, Line, text_of}
use Rattle.volume.specs.Volumes.{Means, PVolume}
use Rattle.edits.specs.Applies.{Applied, DoesEdits, DoesNotFit, FitsBefore}
use Rattle.edits.specs.Edits.{IsEdited}
use Rattle.edits.specs.Lines.{AreSomeEdits, IsEdit, heading, spelled}
use Rattle.edits.specs.declared.apply.EditFault.{EditFault}
use Rattle.edits.specs.declared.apply.EditFault.TheVariants.{Memory, Bad, Unfit}
use Rattle.edits.specs.declared.edit.Edit.{Edit}

-- the line is that of this edit
pub record IsLineOf (line : Line) (e : Edit) : Type 0 where
  pub edit : IsEdit e
  pub is : line ≡ spelled e

-- the edit makes no tree of the live one
abbrev pub Refuses : Edit → PVolume → Type 0
Refuses e v = (w : World) → Means v w → (u : Tree) → IsEdited e w.live u → ⊥

-- what became of the line with a number: its edit was done, or nothing changed, since memory was refused, it is no edit, or the edit
-- does not fit
abbrev pub DoesLine : Line → ℕ → Result (Unit {0}) EditFault → PVolume → PVolume → Type 0
DoesLine line number (Ok u) old new = (e : Edit) × IsLineOf line e × DoesEdits (e ∷ []) old new
DoesLine line number (Err Memory) old new = new ≡ old
DoesLine line number (Err (Bad n)) old new = (new ≡ old) × (n ≡ number) × ((e : Edit) → IsEdit e → line ≢ spelled e)
DoesLine line number (Err (Unfit n)) old new = (new ≡ old) × (n ≡ number) × (e : Edit) × IsLineOf line e × Refuses e old

-- the lines of edits were done, and this text is behind them
pub record HasDone (text rest : Text) (number : ℕ) (old now : PVolume) : Type 0 where
  pub edits : List Edit
  pub are : All IsEdit edits
  pub cut : text ≡ text_of (heading ∷ map spelled edits) ++ rest
  pub count : number ≡ length edits + 2
  pub does : DoesEdits edits old now

-- what became of a text
abbrev pub DoesText : Text → Result (Unit {0}) EditFault → PVolume → PVolume → Type 0
DoesText text (Ok u) old new = Applied text old new
DoesText text (Err Memory) old new = ⊤
DoesText text (Err (Bad n)) old new = IsFirstBad AreSomeEdits n text × ((w : World) → Means old w → FitsBefore n text w.live)
DoesText text (Err (Unfit n)) old new = (w : World) → Means old w → DoesNotFit n text w.live
