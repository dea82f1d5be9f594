use Rattle.std.proofs.Common.{ap, sym, ◌∙◌}
use Rattle.node.specs.declared.report.Quantity.TheVariants.{Slots, Pending, Entries}
use Rattle.node.specs.Report.{report_of, total}
use Rattle.node.proofs.Roots.{tree_of}
use Rattle.node.proofs.Sizes.{exact_total, exact_levels, report_is}
use Rattle.node.proofs.tree.Tree.shape_report.Goals as goal

pub returns : goal.returns
returns g c =
    let t = tree_of c.self.inside.shape c.self.inside.root.value in
    let l = c.self.invariant in
    report_is t _
    (exact_levels t c.height.result c.deref.result.now c.deref.ensures l c.height.ensures.at_most c.height.ensures.exact)
    (exact_total t Slots c.total.result c.deref-2.result.now c.deref-2.ensures l c.total.ensures.at_most c.total.ensures.exact c.total.ensures.bound)
    (c.pending.ensures ∙ ap (λ z. total Pending z.root) (sym c.self.view_is))
    (exact_total t Entries c.total-2.result c.deref-3.result.now c.deref-3.ensures l c.total-2.ensures.at_most c.total-2.ensures.exact c.total-2.ensures.bound)
    ∙ ap report_of c.self.view_is
