use Rattle.std.proofs.Common.{ap, ◌∙◌}
use Rattle.node.specs.declared.report.Quantity.TheVariants.{Pending}
use Rattle.node.specs.Report.{total}
use Rattle.node.proofs.Roots.{tree_of}
use Rattle.node.proofs.Sizes.{exact_total}
use Rattle.node.proofs.tree.Tree.pending.Goals as goal

pub returns : goal.returns
returns g c =
    let t = tree_of c.self.inside.shape c.self.inside.root.value in
    let w = c.weight.ensures in
    exact_total t Pending c.weight.result.pending c.deref.result.now c.deref.ensures c.self.invariant w.at_most w.exact w.bound ∙ ap (λ z. total Pending z.root) c.self.view_is
