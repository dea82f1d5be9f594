-- What the exports of differences report.
use Rattle.std.specs.Prelude.{◌≡◌, ℕ, zero, suc, ⊤, List, Result, Ok, Err}
use Rattle.delta.specs.Applies.{IsOfOther, SpoilsImage}
use Rattle.delta.specs.Texts.{IsBadAt}
use Rattle.delta.specs.declared.fault.DeltaFault.{DeltaFault}
use Rattle.delta.specs.declared.fault.DeltaFault.TheVariants.{Memory, Bad, OtherTree, NoImage}
use Rattle.pathkey.specs.declared.errno.Errno.{Errno}
use Rattle.pathkey.specs.declared.errno.Errno.TheVariants.{EINVAL, ENOENT, ENOMEM}
use Rattle.reference.specs.Tree.{Tree}

-- the error and the line that report why a difference was not applied
abbrev pub DeltaFaultReported : DeltaFault → Errno → ℕ → Type 0
DeltaFaultReported Memory e line = (e ≡ ENOMEM) × (line ≡ 0)
DeltaFaultReported (Bad n) e line = (e ≡ EINVAL) × (line ≡ n)
DeltaFaultReported OtherTree e line = (e ≡ ENOENT) × (line ≡ 0)
DeltaFaultReported NoImage e line = (e ≡ EINVAL) × (line ≡ 0)

-- the reported result of applying a difference: success and line 0, or why not
abbrev pub DeltaReported : Result (Unit {0}) DeltaFault → Result (Unit {0}) Errno → ℕ → Type 0
DeltaReported (Ok x) reported line = (reported ≡ Ok x) × (line ≡ 0)
DeltaReported (Err f) reported line = (e : Errno) × (reported ≡ Err e) × DeltaFaultReported f e line

-- why a text was not applied to a tree: ENOENT, it is the difference of another; EINVAL and line 0, it makes no image of this one's; EINVAL
-- and another line, it is the first with which the text is no difference; or ENOMEM and line 0
abbrev pub NotApplied : List ℕ → Tree → Errno → ℕ → Type 0
NotApplied text t EINVAL zero = SpoilsImage text t
NotApplied text t EINVAL (suc n) = IsBadAt (suc n) text
NotApplied text t ENOENT zero = IsOfOther text t
NotApplied text t ENOMEM zero = ⊤
NotApplied text t _ _ = ⊥
