use Rattle.volume.proofs.Transacting.{transaction_is_all_or_nothing}
use Rattle.volume.proofs.laws.transaction_is_all_or_nothing.Goals as goal

pub returns : goal.returns
returns c = transaction_is_all_or_nothing
