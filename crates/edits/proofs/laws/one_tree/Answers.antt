use Rattle.edits.proofs.Ways.{edits_one_tree}
use Rattle.edits.proofs.laws.one_tree.Goals as goal

pub returns : goal.returns
returns c = edits_one_tree
