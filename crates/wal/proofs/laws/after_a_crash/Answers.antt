use Rattle.wal.proofs.Replaying.{after_crash, synced_first}
use Rattle.wal.proofs.laws.after_a_crash.Goals as goal

pub returns-clause-beginning : goal.returns-clause-beginning
returns-clause-beginning c = after_crash

pub returns-clause-synced : goal.returns-clause-synced
returns-clause-synced c = synced_first
