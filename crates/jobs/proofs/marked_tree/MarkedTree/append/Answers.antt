use Rattle.std.proofs.Common.{ap, ◌∙◌, subst}
use Rattle.jobs.specs.Marks.{AllKept, Each, KeepsContent, kept_in}
use Rattle.jobs.proofs.Keeping.{kept_append}
use Rattle.jobs.proofs.Fitting.{keeps_fits}
use Rattle.jobs.proofs.marked_tree.MarkedTree.append.Goals as goal
use Rattle.jobs.proofs.marked_tree.MarkedTree.append.Goals.{After-drop-kept}

all : (g : _) (c : After-drop-kept g) → AllKept g.U.Update.means c.self.inside.tree c.append_kept.new.self c.self.inside.marks c.self.inside.given
all g c =
    let i = c.self.inside in
    let kept = c.as_slice.ensures.value ∙ c.in_ok-kept.ensures ∙ ap (λ z. kept_in i.marks z) c.root.ensures.root in
    kept_append g.U.Update.means c.append_kept.result c.args.msgs.items i.tree c.append_kept.new.self i.marks i.given c.as_slice.result.now c.self.invariant.0 kept c.append_kept.ensures.ok c.append_kept.ensures.kept c.append_kept.ensures.err

pub invariant_of-self : goal.invariant_of-self
invariant_of-self g c = ((all g c).0, c.self.invariant.1, c.self.invariant.2)

pub returns-clause-content : goal.returns-clause-content
returns-clause-content g c = subst (λ z. Each (KeepsContent g.U.Update.means z c.append_kept.new.self) c.self.inside.marks) (ap (λ x. x.tree) c.self.view_is) (all g c).1

pub returns-clause-fits : goal.returns-clause-fits
returns-clause-fits g c =
    let i = c.self.inside in
    keeps_fits g.U.Update.means i.tree c.append_kept.new.self i.marks i.marks i.given i.given c.args.self.now c.self.view_is (λ P h. h) (all g c).1
