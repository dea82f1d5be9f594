use Rattle.std.proofs.Common.{List, length, arith, sym, ap, subst}
use Rattle.node.specs.Places.{way}
use Rattle.jobs.specs.declared.mark.Mark.{Mark}
use Rattle.jobs.specs.Marks.{Each, KeepsContent}
use Rattle.jobs.specs.Survive.{survives}
use Rattle.jobs.proofs.Stepping.{each_left, fewer_left}
use Rattle.jobs.proofs.Fitting.{keeps_fits}
use Rattle.jobs.proofs.marked_tree.MarkedTree.step.Goals as goal

pub invariant_of-self : goal.invariant_of-self
invariant_of-self g c =
    let i = c.self.inside in
    let f = survives c.args.step.kind (way c.args.step.at) c.args.step.slot i.tree.root in
    ((c.step.ensures.kept i.given c.self.invariant.0).0, c.self.invariant.1, omega (arith, c.self.invariant.2, ap length c.step.ensures.marks, fewer_left c.step.result f i.marks))

pub returns-clause-content : goal.returns-clause-content
returns-clause-content g c = subst (λ z. Each (KeepsContent g.U.Update.means z c.step.new.tree) c.step.new.self) (ap (λ x. x.tree) c.self.view_is) (c.step.ensures.kept c.self.inside.given c.self.invariant.0).1

pub returns-clause-fits : goal.returns-clause-fits
returns-clause-fits g c =
    let i = c.self.inside in
    let f = survives c.args.step.kind (way c.args.step.at) c.args.step.slot i.tree.root in
    keeps_fits g.U.Update.means i.tree c.step.new.tree i.marks c.step.new.self i.given i.given c.args.self.now c.self.view_is (λ P h. subst (λ (z : List Mark). Each P z) (sym c.step.ensures.marks) (each_left P c.step.result f i.marks h)) (c.step.ensures.kept i.given c.self.invariant.0).1
