use Rattle.wal.proofs.Logs.{other_digest, other_number, other_salt, tail_after}
use Rattle.wal.proofs.laws.damaged.Goals as goal

pub returns-clause-tail : goal.returns-clause-tail
returns-clause-tail c = tail_after

pub returns-clause-digest : goal.returns-clause-digest
returns-clause-digest c = other_digest

pub returns-clause-salt : goal.returns-clause-salt
returns-clause-salt c = other_salt

pub returns-clause-number : goal.returns-clause-number
returns-clause-number c = other_number
