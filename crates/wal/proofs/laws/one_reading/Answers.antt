use Rattle.wal.proofs.Bodies.{one_body}
use Rattle.wal.proofs.Logs.{one_reading}
use Rattle.wal.proofs.laws.one_reading.Goals as goal

pub returns-clause-body : goal.returns-clause-body
returns-clause-body c = one_body

pub returns-clause-log : goal.returns-clause-log
returns-clause-log c = one_reading
