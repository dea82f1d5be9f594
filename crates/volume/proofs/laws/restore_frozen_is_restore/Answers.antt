use Rattle.volume.proofs.Forking.{restore_frozen_is_restore}
use Rattle.volume.proofs.laws.restore_frozen_is_restore.Goals as goal

pub returns : goal.returns
returns c = restore_frozen_is_restore
