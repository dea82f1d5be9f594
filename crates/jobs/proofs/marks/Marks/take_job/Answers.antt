use Rattle.std.proofs.Common.{◌+◌, List, Option, refl, sym, ap, ◌∙◌, subst}
use Rattle.std.specs.Prelude.{MatchOption}
use Rattle.jobs.specs.declared.mark.Mark.{Mark}
use Rattle.jobs.specs.Job.{PJob}
use Rattle.jobs.specs.Marks.{AreMarks}
use Rattle.jobs.specs.Replies.{can_take_at, IsJobOf, IsSlotFull}
use Rattle.jobs.proofs.Fitting.{fits_new}
use Rattle.jobs.proofs.Taking.{job_has, job_marked}
use Rattle.jobs.proofs.marks.Marks.take_job.Goals as goal

pub returns-in-Ok-clause-content : goal.returns-in-Ok-clause-content
returns-in-Ok-clause-content g c =
    let kept = c.push_mark.ensures.job in
    let of = subst (λ (o : Option (PJob g.row.U.Denot g.row.U-Value.Denot)). MatchOption o (IsSlotFull c.args.tree.now.shape.pending c.args.slot c.args.tree.now.root) (λ x. IsJobOf c.args.slot c.args.given c.args.tree.now x)) c.in-Ok-Some.field-0-is c.in-Ok-Some.ensures in
    job_has g.U.Update.means c.in-Ok-Some.job c.args.tree.now c.args.slot c.args.given kept of

pub returns-in-Ok-clause-fits : goal.returns-in-Ok-clause-fits
returns-in-Ok-clause-fits g c h =
    let kept = c.push_mark.ensures.job in
    let of = subst (λ (o : Option (PJob g.row.U.Denot g.row.U-Value.Denot)). MatchOption o (IsSlotFull c.args.tree.now.shape.pending c.args.slot c.args.tree.now.root) (λ x. IsJobOf c.args.slot c.args.given c.args.tree.now x)) c.in-Ok-Some.field-0-is c.in-Ok-Some.ensures in
    let was = subst (λ (z : List Mark). AreMarks c.args.tree.now.root 0 z c.args.given) (sym c.self.view_is) h in
    fits_new g.U.Update.means c.in-Ok-Some.job c.args.tree.now c.self.inside.list.items c.push_mark.new.marks.items c.args.given was of.ticket (job_has g.U.Update.means c.in-Ok-Some.job c.args.tree.now c.args.slot c.args.given kept of) c.in-Ok.ensures.ok

pub returns-in-Ok-clause-marks : goal.returns-in-Ok-clause-marks
returns-in-Ok-clause-marks g c h =
    let kept = c.push_mark.ensures.job in
    let of = subst (λ (o : Option (PJob g.row.U.Denot g.row.U-Value.Denot)). MatchOption o (IsSlotFull c.args.tree.now.shape.pending c.args.slot c.args.tree.now.root) (λ x. IsJobOf c.args.slot c.args.given c.args.tree.now x)) c.in-Ok-Some.field-0-is c.in-Ok-Some.ensures in
    let was = subst (λ (z : List Mark). AreMarks c.args.tree.now.root 0 z c.args.given) (sym c.self.view_is) h in
    let free = ap (λ z. can_take_at c.args.slot z c.args.tree.now.root) (sym c.as_slice.ensures.value) ∙ ap (λ z. can_take_at c.args.slot c.as_slice.result.now z) (sym c.root.ensures.root) ∙ sym c.can_take.ensures ∙ c.if-not-can_take.false in
    subst (λ (z : List Mark). AreMarks c.args.tree.now.root 0 z (c.args.given + 1)) (sym c.in-Ok.ensures.ok) (job_marked g.U.Update.means c.in-Ok-Some.job c.args.tree.now c.args.slot c.args.given kept of c.self.inside.list.items c.args.given was refl free)
