-- What the exports of edits report.
use Rattle.std.specs.Prelude.{◌≡◌, ℕ, zero, ⊤, List, Result, Ok, Err}
use Rattle.edits.specs.Applies.{DoesNotFit, FitsBefore}
use Rattle.edits.specs.Lines.{AreSomeEdits}
use Rattle.edits.specs.declared.apply.EditFault.{EditFault}
use Rattle.edits.specs.declared.apply.EditFault.TheVariants.{Memory, Bad, Unfit}
use Rattle.pathkey.specs.declared.errno.Errno.{Errno}
use Rattle.pathkey.specs.declared.errno.Errno.TheVariants.{EINVAL, ENOENT, ENOMEM}
use Rattle.reference.specs.Tree.{Tree}
use Rattle.textio.specs.Lines.{IsFirstBad}

-- the error and the line that report why edits were not applied
abbrev pub EditFaultReported : EditFault → Errno → ℕ → Type 0
EditFaultReported Memory e line = (e ≡ ENOMEM) × (line ≡ 0)
EditFaultReported (Bad n) e line = (e ≡ EINVAL) × (line ≡ n)
EditFaultReported (Unfit n) e line = (e ≡ ENOENT) × (line ≡ n)

-- the reported result of applying edits: success and line 0, or why not
abbrev pub EditsReported : Result (Unit {0}) EditFault → Result (Unit {0}) Errno → ℕ → Type 0
EditsReported (Ok x) reported line = (reported ≡ Ok x) × (line ≡ 0)
EditsReported (Err f) reported line = (e : Errno) × (reported ≡ Err e) × EditFaultReported f e line

-- why the edits of a text were not applied to a tree: EINVAL, the line is the first with which the text is none of edits, and the edits
-- before it can be done; ENOENT, it is the first whose edit cannot be done; or ENOMEM and line 0
abbrev pub NotEdited : List ℕ → Tree → Errno → ℕ → Type 0
NotEdited text t EINVAL line = IsFirstBad AreSomeEdits line text × FitsBefore line text t
NotEdited text t ENOENT line = DoesNotFit line text t
NotEdited text t ENOMEM zero = ⊤
NotEdited text t _ _ = ⊥
