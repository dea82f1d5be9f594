use Rattle.std.proofs.Common.{List, sym, subst}
use Rattle.node.specs.Places.{way}
use Rattle.jobs.specs.declared.mark.Mark.{Mark}
use Rattle.jobs.specs.Marks.{AllKept, AreMarks}
use Rattle.jobs.proofs.Stepping.{kept_step}
use Rattle.jobs.proofs.marks.Marks.step.Goals as goal

pub returns-clause-kept : goal.returns-clause-kept
returns-clause-kept g c given h =
    let i = c.self.inside in
    let was = subst (λ (z : List Mark). AreMarks c.args.tree.now.root 0 z given) (sym c.self.view_is) h in
    subst (λ (z : List Mark). AllKept g.U.Update.means c.args.tree.now c.do_step_from.new.tree z given) (sym c.do_step_from.ensures.left) (kept_step g.U.Update.means c.args.step.kind (way c.args.step.at) c.args.step.slot c.do_step_from.result c.args.tree.now c.do_step_from.new.tree i.list.items given c.assert_tree_invariant.ensures was c.do_step_from.ensures.answers)
