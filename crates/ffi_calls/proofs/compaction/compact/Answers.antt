use Rattle.std.proofs.Common.{ℕ, ◌+◌, sym, subst, add-one}
use Rattle.volume.specs.Volumes.{PVolume}
use Rattle.ffi_calls.specs.Upkeep.{Relieved, Relieves}
use Rattle.ffi_calls.proofs.compaction.compact.Goals as goal

one_more : (n : ℕ) (old between new : PVolume) → Relieves n old between → Relieved between new → Relieves (n + 1) old new
one_more n old between new h k = subst (λ m. Relieves m old new) (sym (add-one n)) (between, h, k)

pub loop-done-preserved : goal.loop-done-preserved
loop-done-preserved c =
    record {
      steps = one_more c.loop-done.done c.args.volume.now c.loop-done.volume c.compact_once.new.volume c.loop-done.invariant.steps
          (c.compact_once.ensures.done c.if-not-compact_once.false);
      means = λ w m. c.compact_once.ensures.means w (c.loop-done.invariant.means w m);
    }

pub returns-then-not-compact_once-clause-steps : goal.returns-then-not-compact_once-clause-steps
returns-then-not-compact_once-clause-steps c =
    subst (λ (v : PVolume). Relieves c.loop-done.done c.args.volume.now v) (sym (c.compact_once.ensures.unchanged c.if-not-compact_once.true)) c.loop-done.invariant.steps
