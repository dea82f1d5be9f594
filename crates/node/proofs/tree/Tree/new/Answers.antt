use Rattle.std.proofs.Common.{◌∙◌}
use Rattle.node.proofs.Roots.{lawful_empty}
use Rattle.node.proofs.tree.Tree.new.Goals as goal

pub invariant_of-result : goal.invariant_of-result
invariant_of-result g c = lawful_empty c.args.shape c.requires c.in_ok-root-2.root.value (c.in_ok-root-2.ensures.ok ∙ c.in_ok-root.ensures)
