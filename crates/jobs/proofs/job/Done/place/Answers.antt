use Rattle.std.proofs.Common.{ap, sym, ◌∙◌, subst}
use Rattle.jobs.specs.Content.{done_content}
use Rattle.jobs.specs.Job.{PDone}
use Rattle.jobs.specs.Marks.{MarkHas}
use Rattle.jobs.specs.Survive.{number_in}
use Rattle.jobs.proofs.Keeping.{placed, is_placed}
use Rattle.jobs.proofs.job.Done.place.Goals as goal

pub install_subtree-requires : goal.install_subtree-requires
install_subtree-requires g c =
    let i = c.self.inside in
    (placed g.U.Update.means (record { ticket = i.ticket; shape = i.shape; range = i.range; count = i.count; child = i.child.value }) c.args.mark.now c.args.tree.now c.number_in-i.result c.self.invariant c.root.ensures.lawful (subst (λ (d : PDone g.row.U.Denot g.row.U-Value.Denot). MarkHas g.U.Update.means c.args.mark.now (done_content g.U.Update.means d) c.args.tree.now) (sym c.self.view_is) c.requires) (c.number_in-i.ensures ∙ ap (λ z. number_in z c.args.mark.now.range.lo) c.root.ensures.root)).0

pub returns-in-Ok-clause-ok : goal.returns-in-Ok-clause-ok
returns-in-Ok-clause-ok g c =
    let i = c.self.inside in
    is_placed g.U.Update.means (record { ticket = i.ticket; shape = i.shape; range = i.range; count = i.count; child = i.child.value }) c.args.self c.args.mark.now c.args.tree.now c.install_subtree.new.self c.number_in-i.result c.self.view_is c.self.invariant c.root.ensures.lawful c.requires (c.number_in-i.ensures ∙ ap (λ z. number_in z c.args.mark.now.range.lo) c.root.ensures.root) c.in-Ok.ensures.ok
