-- The reported outcome of applying edits.
use Rattle.std.proofs.Common.{◌≡◌, ℕ, List, Result, Ok, Err, IfOk, IfErr, refl, sym, ap, subst, subst₂}
use Rattle.edits.specs.Applies.{DoesNotFit, FitsBefore}
use Rattle.edits.specs.Lines.{AreSomeEdits}
use Rattle.edits.specs.declared.apply.EditFault.{EditFault}
use Rattle.edits.specs.declared.apply.EditFault.TheVariants.{Memory, Bad, Unfit}
use Rattle.pathkey.specs.declared.errno.Errno.{Errno}
use Rattle.reference.specs.Tree.{Tree}
use Rattle.textio.specs.Lines.{IsFirstBad}
use Rattle.doorvervain.specs.Edits.{EditFaultReported, EditsReported, NotEdited}

not_edited : (text : List ℕ) (t : Tree) (fault : EditFault) (e : Errno) (line : ℕ)
    → ((n : ℕ) → fault ≡ Bad n → IsFirstBad AreSomeEdits n text × FitsBefore n text t) → ((n : ℕ) → fault ≡ Unfit n → DoesNotFit n text t) → EditFaultReported fault e line → NotEdited text t e line
not_edited text t Memory e line bad unfit reported = subst₂ (NotEdited text t) (sym reported.0) (sym reported.1) tt
not_edited text t (Bad n) e line bad unfit reported = subst₂ (NotEdited text t) (sym reported.0) (sym reported.1) (bad n refl)
not_edited text t (Unfit n) e line bad unfit reported = subst₂ (NotEdited text t) (sym reported.0) (sym reported.1) (unfit n refl)

-- a success is reported with line 0
pub edited_line : (outcome : Result (Unit {0}) EditFault) (reported : Result (Unit {0}) Errno) (line : ℕ) → EditsReported outcome reported line → IfOk reported (λ _. line ≡ 0)
edited_line (Ok x) reported line h = subst (λ (r : Result (Unit {0}) Errno). IfOk r (λ _. line ≡ 0)) (sym h.0) h.1
edited_line (Err f) reported line (e, is, fault) = subst (λ (r : Result (Unit {0}) Errno). IfOk r (λ _. line ≡ 0)) (sym is) tt

-- why it failed
pub edited_refused : (text : List ℕ) (t : Tree) (outcome : Result (Unit {0}) EditFault) (reported : Result (Unit {0}) Errno) (line : ℕ) → EditsReported outcome reported line
    → ((n : ℕ) → outcome ≡ Err (Bad n) → IsFirstBad AreSomeEdits n text × FitsBefore n text t) → ((n : ℕ) → outcome ≡ Err (Unfit n) → DoesNotFit n text t) → IfErr reported (λ e. NotEdited text t e line)
edited_refused text t (Ok x) reported line h bad unfit = subst (λ (r : Result (Unit {0}) Errno). IfErr r (λ e. NotEdited text t e line)) (sym h.0) tt
edited_refused text t (Err f) reported line (e, is, fault) bad unfit =
    subst (λ (r : Result (Unit {0}) Errno). IfErr r (λ d. NotEdited text t d line)) (sym is)
    (not_edited text t f e line (λ n b. bad n (ap Err b)) (λ n u. unfit n (ap Err u)) fault)
