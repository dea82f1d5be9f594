use Rattle.std.proofs.Common.{ℕ, List, sym, subst, arith}
use Rattle.std.proofs.lemmas.List.{take_all}
use Rattle.wal.specs.Runs.{Reaches, Stops}
use Rattle.wal.specs.declared.wal_entry.WalEntry.{WalEntry}
use Rattle.wal.proofs.Reaching.{reaches_more, stops_at}
use Rattle.wal.proofs.run.replay_entries.Goals as goal

pub returns-in-Err : goal.returns-in-Err
returns-in-Err c =
    subst (λ (d : ℕ). Stops c.args.changes.now (record { done = d; fault = c.in-Err.fault }) c.args.volume.now c.apply_entry.new.volume) (sym c.loop-change.invariant.count)
    (stops_at c.args.changes.now c.loop-change.change-index c.change-item.result c.in-Err.fault c.args.volume.now c.loop-change.volume c.apply_entry.new.volume
    c.loop-change-test.true c.change-item.is c.loop-change.invariant.reached c.in-Err.ensures.0 c.in-Err.ensures.1)

pub loop-change-preserved : goal.loop-change-preserved
loop-change-preserved c = record {
  count = omega (arith, c.loop-change.invariant.count);
  reached = reaches_more c.args.changes.now c.loop-change.change-index c.change-item.result c.args.volume.now c.loop-change.volume c.apply_entry.new.volume
      c.loop-change-test.true c.change-item.is c.loop-change.invariant.reached c.in_default.ensures;
}

pub returns : goal.returns
returns c =
    subst (λ (xs : List WalEntry). Reaches xs c.args.volume.now c.loop-change.volume) (take_all c.loop-change.change-index c.args.changes.now (omega (arith, c.loop-change-test.false)))
    c.loop-change.invariant.reached
