use Rattle.wal.proofs.Telling.{refused_reported, script_reported}
use Rattle.wal.proofs.dump.wal_dump.Goals as goal

pub returns-in-Ok : goal.returns-in-Ok
returns-in-Ok c = script_reported c.args.body.now c.in_ok-changes.changes.items c.new-text.result.items c.put_changes.new.text.items c.in_ok-changes.ensures c.new-text.ensures.items
    (rw c.as_slice.ensures.value at c.in-Ok.ensures.added)

pub returns : goal.returns
returns c = refused_reported c.args.body.now c.in_ok-changes.changes.items c.in-Err.fault c.in_ok-changes.ensures (rw c.as_slice.ensures.value at c.in-Err.ensures.refused)
