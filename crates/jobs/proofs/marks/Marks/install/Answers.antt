use Rattle.std.proofs.Common.{◌≡◌, List, Some, ap, sym, ◌∙◌, subst, refl}
use Rattle.jobs.specs.declared.mark.Mark.{Mark}
use Rattle.jobs.specs.Content.{done_content}
use Rattle.jobs.specs.Marks.{AllKept, AreMarks, MarkHas, position, without}
use Rattle.jobs.specs.Replies.{FitsMark}
use Rattle.jobs.proofs.MarkFacts.{at_place, without_place}
use Rattle.jobs.proofs.Keeping.{kept_placed, kept_same}
use Rattle.jobs.proofs.marks.Marks.install.Goals as goal
use Rattle.jobs.proofs.marks.Marks.install.Goals.{After-remove_mark}

pub place-requires : goal.place-requires
place-requires g c =
    let fits = subst (λ (z : List Mark). FitsMark g.U.Update.means c.args.done c.args.tree.now z) (sym c.self.view_is) c.requires in
    let p = subst (λ (z : List Mark). position c.args.done.ticket z ≡ Some c.in-Some.at) c.as_slice.ensures.value (sym (c.in-Some.ensures.place ∙ ap (λ t. position t c.as_slice.result.now) (ap (λ d. d.ticket) c.done.view_is))) in
    subst (λ (m : Mark). MarkHas g.U.Update.means m (done_content g.U.Update.means c.args.done) c.args.tree.now) (sym c.index.ensures) (at_place (λ m. MarkHas g.U.Update.means m (done_content g.U.Update.means c.args.done) c.args.tree.now) c.args.done.ticket c.in-Some.at c.self.inside.list.items c.index.result.now p fits)

found : (g : _) (c : After-remove_mark g) → position c.args.done.ticket c.self.inside.list.items ≡ Some c.in-Some.at
found g c = subst (λ (z : List Mark). position c.args.done.ticket z ≡ Some c.in-Some.at) c.as_slice.ensures.value (sym (c.in-Some.ensures.place ∙ ap (λ t. position t c.as_slice.result.now) (ap (λ d. d.ticket) c.done.view_is)))

left : (g : _) (c : After-remove_mark g) → c.remove_mark.new.marks.items ≡ without c.args.done.ticket c.self.inside.list.items
left g c = c.remove_mark.ensures ∙ without_place c.args.done.ticket c.in-Some.at c.self.inside.list.items (found g c)

pub returns-in-Ok-clause-installed : goal.returns-in-Ok-clause-installed
returns-in-Ok-clause-installed g c = (left g c ∙ ap (without c.args.done.ticket) c.self.view_is, c.in-Ok.ensures.ok)

pub returns-in-Ok-clause-kept : goal.returns-in-Ok-clause-kept
returns-in-Ok-clause-kept g c given h =
    let was = subst (λ (z : List Mark). AreMarks c.args.tree.now.root 0 z given) (sym c.self.view_is) h in
    let fits = subst (λ (z : List Mark). FitsMark g.U.Update.means c.args.done c.args.tree.now z) (sym c.self.view_is) c.requires in
    subst (λ (z : List Mark). AllKept g.U.Update.means c.args.tree.now c.place.new.tree z given) (sym (left g c)) (kept_placed g.U.Update.means c.args.done c.args.tree.now c.place.new.tree c.self.inside.list.items given was fits c.in-Some.at (found g c) c.in-Ok.ensures.ok)

pub returns-in-Err-clause-kept : goal.returns-in-Err-clause-kept
returns-in-Err-clause-kept g c given h = kept_same g.U.Update.means c.args.tree.now c.place.new.tree c.args.self.now given h c.in-Err.ensures.err

pub returns-in_default-clause-kept : goal.returns-in_default-clause-kept
returns-in_default-clause-kept g c given h = kept_same g.U.Update.means c.args.tree.now c.args.tree.now c.args.self.now given h refl
