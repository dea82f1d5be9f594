use Rattle.std.proofs.Common.{◌≡◌, Result, IfErr, IfOk, sym, subst}
use Rattle.volume.specs.Volumes.{Means, PVolume}
use Rattle.pathkey.specs.declared.errno.Errno.{Errno}
use Rattle.doorvervain.specs.Differences.{NotApplied}
use Rattle.doorvervain.proofs.Applying.{reported_done, reported_kept, reported_line, reported_refused}
use Rattle.doorvervain.proofs.differences.doorvervain_raw_apply_delta.Goals as goal

pub returns-clause-line : goal.returns-clause-line
returns-clause-line c =
    subst (λ (r : Result (Unit {0}) Errno). IfOk r (λ _. c.answer.new.line ≡ 0)) (sym c.number.ensures.reported) (reported_line c.apply_delta.result c.answer.result c.answer.new.line c.answer.ensures)

pub returns-clause-refused : goal.returns-clause-refused
returns-clause-refused c = λ w n.
    let m : Means c.volume.result.now w = subst (λ (v : PVolume). Means v w) (sym c.volume.ensures.value) n in
    subst (λ (r : Result (Unit {0}) Errno). IfErr r (λ e. NotApplied c.args.text.now w.live e c.answer.new.line)) (sym c.number.ensures.reported)
    (reported_refused c.apply_delta.result c.answer.result c.answer.new.line c.answer.ensures c.args.text.now w.live c.apply_delta.ensures.bad (c.apply_delta.ensures.other w m) (c.apply_delta.ensures.no_image w m))
