-- What the exports that hand out a volume or a tree report.
use denote.RawPtr.{Ptr}
use Rattle.std.specs.Prelude.{◌≡◌, ◌↔◌, ◌⊎◌, ℕ, zero, suc, ⊤, false, List, Result, Ok, Err, IfErr, IfOk, Option, Some, MatchResult}
use Rattle.images.specs.declared.load.LoadFault.{LoadFault}
use Rattle.images.specs.declared.load.LoadFault.TheVariants.{Shape as BadShape, Bad}
use Rattle.volume.specs.declared.fs_root.FsRoot.{FsRoot}
use Rattle.node.specs.Shapes.{is_shape}
use Rattle.node.specs.declared.shape.Shape.{Shape}
use Rattle.pathkey.specs.declared.errno.Errno.{Errno}
use Rattle.pathkey.specs.declared.errno.Errno.TheVariants.{EINVAL, ENOMEM}
use Rattle.reference.specs.ImageLines.{IsBadAt}
use Rattle.volume.specs.Volumes.{PVolume}
use Rattle.ffi_calls.specs.Snapshots.{FindsNamed}
use Rattle.doorvervain.specs.Held.{IsClosed}

-- ---- shapes

-- the shape of trees that three numbers spell, in this order
abbrev pub shape_of : ℕ → ℕ → ℕ → Shape
shape_of fanout pending leaf = record { fanout = fanout; pending = pending; leaf = leaf }

-- they are no shape of trees
abbrev pub NoShape : ℕ → ℕ → ℕ → Type 0
NoShape fanout pending leaf = is_shape (shape_of fanout pending leaf) ≡ false

-- ---- what is handed out

-- a value with this property was stored
pub record Given {X : Type 0} (P : X → Type 0) (given : Option X) : Type 0 where
  pub value : X
  pub is : given ≡ Some value
  pub holds : P value

-- a value is handed out, or ENOMEM is reported
pub record Hands {X : Type 0} (x : X) (outcome : Result (Unit {0}) Errno) (given : Option X) : Type 0 where
  pub done : IfOk outcome (λ _. given ≡ Some x)
  pub refused : IfErr outcome (λ e. e ≡ ENOMEM)

-- the value that was made is handed out, or ENOMEM is reported; a failure is reported unchanged
abbrev pub HandsOut : {X : Type 0} → Result X Errno → Result (Unit {0}) Errno → Option X → Type 0
HandsOut made outcome given = MatchResult made (λ x. Hands x outcome given) (λ e. outcome ≡ Err e)

-- a new value of this shape is handed out; or the shape is no shape of trees, or memory is refused, and the place is closed
pub record HandsNew {X : Type 0} (IsNew : Shape → X → Type 0) (shape : Shape) (outcome : Result (Unit {0}) Errno) (at : Ptr) (given : Option X) : Type 0 where
  pub new : IfOk outcome (λ _. Given (IsNew shape) given)
  pub no_shape : (outcome ≡ Err EINVAL) ↔ (is_shape shape ≡ false)
  pub refused : IfErr outcome (λ e. (e ≡ EINVAL) ⊎ (e ≡ ENOMEM))
  pub closed : IfErr outcome (λ _. IsClosed at given)

-- the tree of the snapshot of that name was looked for, and so handed out
pub record FindsHanded (name : Result (List ℕ) Errno) (v : PVolume) (outcome : Result (Unit {0}) Errno) (given : Option FsRoot) : Type 0 where
  pub found : Result FsRoot Errno
  pub finds : FindsNamed name v found
  pub hands : HandsOut found outcome given

-- ---- images

-- the error and the line that report why an image was not loaded
abbrev pub FaultReported : LoadFault → Errno → ℕ → Type 0
FaultReported BadShape e line = (e ≡ EINVAL) × (line ≡ 0)
FaultReported (Bad n) e line = (e ≡ EINVAL) × (line ≡ n)
FaultReported _ e line = (e ≡ ENOMEM) × (line ≡ 0)

-- the reported result of a load: the value and line 0, or why not
abbrev pub AnswerReported : {X : Type 0} → Result X LoadFault → Result X Errno → ℕ → Type 0
AnswerReported (Ok x) reported line = (reported ≡ Ok x) × (line ≡ 0)
AnswerReported (Err f) reported line = (e : Errno) × (reported ≡ Err e) × FaultReported f e line

-- why a text that was taken piece by piece was not loaded: EINVAL, and the first line with which it is no image; or ENOMEM and line 0
abbrev pub NoImage : List ℕ → Errno → ℕ → Type 0
NoImage text EINVAL n = IsBadAt n text
NoImage text ENOMEM zero = ⊤
NoImage text _ _ = ⊥

-- why a text was not loaded: EINVAL and line 0, no tree has the shape; EINVAL and another line, it is the first with which the text is no
-- image; or ENOMEM and line 0
abbrev pub NotLoaded : Shape → List ℕ → Errno → ℕ → Type 0
NotLoaded shape text EINVAL zero = is_shape shape ≡ false
NotLoaded shape text EINVAL (suc n) = IsBadAt (suc n) text
NotLoaded shape text ENOMEM zero = ⊤
NotLoaded shape text _ _ = ⊥
