use Rattle.std.proofs.Common.{List, length, arith, ap, sym, subst}
use Rattle.jobs.specs.declared.mark.Mark.{Mark}
use Rattle.jobs.specs.Marks.{AreMarks, Each}
use Rattle.jobs.proofs.MarkFacts.{each_without, fewer_without, marks_without}
use Rattle.jobs.proofs.Fitting.{keeps_fits-here}
use Rattle.jobs.proofs.marked_tree.MarkedTree.cancel.Goals as goal

pub invariant_of-self : goal.invariant_of-self
invariant_of-self g c =
    let i = c.self.inside in
    (subst (λ (z : List Mark). AreMarks i.tree.root 0 z i.given) (sym c.cancel.ensures) (marks_without i.tree.root c.args.ticket.number 0 i.marks i.given c.self.invariant.0), c.self.invariant.1, omega (arith, c.self.invariant.2, ap length c.cancel.ensures, fewer_without c.args.ticket.number i.marks))

pub returns-clause-fits : goal.returns-clause-fits
returns-clause-fits g c =
    let i = c.self.inside in
    keeps_fits-here g.U.Update.means i.tree i.marks c.cancel.new.self i.given i.given c.args.self.now c.self.view_is (λ P h. subst (λ (z : List Mark). Each P z) (sym c.cancel.ensures) (each_without P c.args.ticket.number i.marks h))
