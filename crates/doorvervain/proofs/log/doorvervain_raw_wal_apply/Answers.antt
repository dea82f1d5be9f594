use Rattle.std.proofs.Common.{sym, ap, subst, Result, Ok}
use Rattle.volume.specs.Volumes.{PVolume}
use Rattle.wal.specs.Runs.{RunsBody}
use Rattle.wal.specs.declared.replay_error.ReplayError.{ReplayError}
use Rattle.doorvervain.specs.Log.{ended}
use Rattle.doorvervain.proofs.log.doorvervain_raw_wal_apply.Goals as goal

pub returns-in-Ok-clause-run : goal.returns-in-Ok-clause-run
returns-in-Ok-clause-run c =
    subst (λ (r : Result (Unit {0}) ReplayError). RunsBody c.args.body.now r c.args.fs.now.volume c.replay_body.new.volume) (sym (ap ended c.tell.ensures.reported))
    (subst (λ (v : PVolume). RunsBody c.args.body.now (Ok tt) v c.replay_body.new.volume) c.volume.ensures.value c.in-Ok.ensures)
