-- Tree steps that a volume picks by itself.
use Rattle.std.specs.Prelude.{◌≡◌, ℕ, zero, suc, Bool, true, false}
use Rattle.node.specs.declared.step.StepReply.{StepReply}
use Rattle.node.specs.declared.step.StepReply.TheVariants.{Did}
use Rattle.volume.specs.Changes.{Stepped}
use Rattle.volume.specs.HistoryOf.{busier, pending_in}
use Rattle.volume.specs.Volumes.{PVolume}
use Rattle.volume.specs.declared.event.Index.TheVariants.{Meta, Block}
use Rattle.volume.specs.declared.event.CompactStep.{CompactStep}

-- the step was done: it fitted, and no allocation failed
abbrev pub is_done : StepReply → Bool
is_done (Did n) = true
is_done _ = false

-- a step in the index with more pending pieces was tried, and so answered
pub record Tried (is : Bool) (old new : PVolume) : Type 0 where
  pub relief : CompactStep
  pub index : relief.step.index ≡ busier old.live.indexes
  pub stepped : Stepped relief.step relief.reply old new
  pub done : is_done relief.reply ≡ is

-- such a step was done
abbrev pub Relieved : PVolume → PVolume → Type 0
Relieved old new = Tried true old new

-- so many of them, one after another
abbrev pub Relieves : ℕ → PVolume → PVolume → Type 0
Relieves zero old new = new ≡ old
Relieves (suc n) old new = (between : PVolume) × Relieves n old between × Relieved between new

-- nothing is pending in either index
abbrev pub IsIdle : PVolume → Type 0
IsIdle v = (pending_in Meta v.live.indexes ≡ 0) × (pending_in Block v.live.indexes ≡ 0)

-- a step was tried, and not done, so that the volume is as it was
abbrev pub IsStuck : PVolume → Type 0
IsStuck v = Tried false v v
