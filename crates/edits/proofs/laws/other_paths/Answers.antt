use Rattle.edits.proofs.Ways.{edits_other_paths}
use Rattle.edits.proofs.laws.other_paths.Goals as goal

pub returns : goal.returns
returns c = edits_other_paths
