use Rattle.std.proofs.Common.{◌≡◌, ◌⊎◌, Bool, true, false, refl, sym, subst, ◌∙◌, inl, inr}
use Rattle.node.specs.Steps.{UnlessDid}
use Rattle.node.specs.declared.step.StepReply.{StepReply}
use Rattle.node.specs.declared.step.StepReply.TheVariants.{Did, NotThere, NoRoom, NoMemory}
use Rattle.volume.specs.Changes.{Stepped}
use Rattle.volume.specs.HistoryOf.{busier}
use Rattle.volume.specs.Volumes.{PVolume}
use Rattle.volume.specs.declared.event.CompactStep.{CompactStep}
use Rattle.ffi_calls.specs.Upkeep.{IsIdle, IsStuck, Tried, is_done}
use Rattle.ffi_calls.proofs.compaction.compact_once.Goals as goal

-- a step that is not done changes nothing
undone : (r : StepReply) (P : Type 0) → is_done r ≡ false → UnlessDid r P → P
undone (Did n) P e h = absurd (cc)
undone NotThere P e h = h
undone NoRoom P e h = h
undone NoMemory P e h = h

tried : (x : CompactStep) (is : Bool) (old new : PVolume) → x.step.index ≡ busier old.live.indexes → Stepped x.step x.reply old new → is_done x.reply ≡ is → Tried is old new
tried x is old new index stepped done = record { relief = x; index = index; stepped = stepped; done = done }

stuck : (x : CompactStep) (old new : PVolume) → x.step.index ≡ busier old.live.indexes → Stepped x.step x.reply old new → is_done x.reply ≡ false → IsIdle new ⊎ IsStuck new
stuck x old new index stepped e =
    inr (subst (λ (v : PVolume). Tried false v new) (sym (undone x.reply (new ≡ old) e stepped.refused)) (tried x false old new index stepped e))

pub returns-in-Some-clause-done : goal.returns-in-Some-clause-done
returns-in-Some-clause-done c = λ e. tried c.in-Some.turn true c.args.volume.now c.compact_step.new.self c.in-Some.ensures.busier c.in-Some.ensures.stepped (sym c.is_done.ensures ∙ e)

pub returns-in-Some-clause-unchanged : goal.returns-in-Some-clause-unchanged
returns-in-Some-clause-unchanged c = λ e. undone c.in-Some.turn.reply _ (sym c.is_done.ensures ∙ e) c.in-Some.ensures.stepped.refused

pub returns-in-Some-clause-rest : goal.returns-in-Some-clause-rest
returns-in-Some-clause-rest c = λ e. stuck c.in-Some.turn c.args.volume.now c.compact_step.new.self c.in-Some.ensures.busier c.in-Some.ensures.stepped (sym c.is_done.ensures ∙ e)

pub returns-in-None-clause-unchanged : goal.returns-in-None-clause-unchanged
returns-in-None-clause-unchanged c = λ e. c.in-None.ensures.unchanged

pub returns-in-None-clause-rest : goal.returns-in-None-clause-rest
returns-in-None-clause-rest c = λ e. subst (λ (v : PVolume). IsIdle v ⊎ IsStuck v) (sym c.in-None.ensures.unchanged) (inl (c.in-None.ensures.nothing.0 refl))
