use Rattle.std.proofs.Common.{ap, sym, ◌∙◌, subst, length, ◌<◌}
use Rattle.std.specs.Option.{option_copied}
use Rattle.std.specs.Prelude.{IfSome}
use Rattle.pending.specs.Ahead.{StandsAt, AreFrom, entries_left}
use Rattle.pending.proofs.Meeting.{met_some, met_stands, met_waits, met_fewer}
use Rattle.pending.proofs.point_cursor.PointCursor.next_along.Goals as goal

pub returns-clause-fewer : goal.returns-clause-fewer
returns-clause-fewer g c = subst (λ o. IfSome c.pass_before.result (λ m. length c.pass_before.new.rest < entries_left o)) (sym c.in-Some.is ∙ ap (λ a. a.1) c.self.view_is) (met_fewer (option_copied c.args.end) c.in-Some.rest c.pass_before.new.rest c.pass_before.result c.pass_before.ensures.some)

pub returns-clause-next : goal.returns-clause-next
returns-clause-next g c = λ from s.
    let ms = c.args.self.now.0 in
    let stands : AreFrom ms from c.in-Some.rest = subst (λ t. IfSome t (λ rest. AreFrom ms from rest)) (sym (ap (λ a. a.1) c.self.view_is) ∙ c.in-Some.is) s in
    met_some ms from (option_copied c.args.end) c.in-Some.rest c.pass_before.new.rest c.pass_before.result stands c.pass_before.ensures.some c.pass_before.ensures.none

pub returns-clause-stands : goal.returns-clause-stands
returns-clause-stands g c = λ from s.
    let ms = c.self.inside.list.now.0 in
    let here : StandsAt from (ms, c.self.inside.rest) = subst (λ a. StandsAt from a) (sym c.self.view_is) s in
    let stands : AreFrom ms from c.in-Some.rest = subst (λ t. IfSome t (λ rest. AreFrom ms from rest)) c.in-Some.is here in
    met_stands ms from (option_copied c.args.end) c.in-Some.rest c.pass_before.new.rest c.pass_before.result stands c.pass_before.ensures.some

pub returns-clause-met : goal.returns-clause-met
returns-clause-met g c = λ from s.
    let ms = c.args.self.now.0 in
    let stands : AreFrom ms from c.in-Some.rest = subst (λ t. IfSome t (λ rest. AreFrom ms from rest)) (sym (ap (λ a. a.1) c.self.view_is) ∙ c.in-Some.is) s in
    met_waits ms from (option_copied c.args.end) c.in-Some.rest c.pass_before.new.rest c.pass_before.result stands c.pass_before.ensures.some
