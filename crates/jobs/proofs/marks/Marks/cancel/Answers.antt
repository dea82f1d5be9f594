use Rattle.std.proofs.Common.{◌≡◌, List, None, Some, ap, sym, ◌∙◌, subst}
use Rattle.jobs.specs.declared.mark.Mark.{Mark}
use Rattle.jobs.specs.Marks.{position, without}
use Rattle.jobs.proofs.MarkFacts.{without_none, without_place}
use Rattle.jobs.proofs.marks.Marks.cancel.Goals as goal

pub returns-in_default : goal.returns-in_default
returns-in_default c = without_none c.args.ticket.number c.args.self.now (subst (λ (z : List Mark). position c.args.ticket.number z ≡ None) (c.as_slice.ensures.value ∙ c.self.view_is) (sym c.in_default.ensures.place))

pub returns : goal.returns
returns c = c.remove_mark.ensures ∙ without_place c.args.ticket.number c.in-Some.i c.self.inside.list.items (subst (λ (z : List Mark). position c.args.ticket.number z ≡ Some c.in-Some.i) c.as_slice.ensures.value (sym c.in-Some.ensures.place)) ∙ ap (without c.args.ticket.number) c.self.view_is
