use Rattle.std.proofs.Common.{ap, sym, ◌∙◌, subst}
use Rattle.std.specs.Option.{option_copied}
use Rattle.std.specs.Prelude.{IfSome}
use Rattle.pending.specs.Ahead.{StandsAt, AreFrom}
use Rattle.pending.proofs.Meeting.{met_some, met_stands, met_waits}
use Rattle.pending.proofs.point_cursor.advance.Goals as goal

pub returns-in-Some-clause-next : goal.returns-in-Some-clause-next
returns-in-Some-clause-next g c =
    let ms = c.args.ahead.now.0 in
    let from = c.args.from.now in
    let end = option_copied c.args.end in
    let stands : AreFrom ms from c.in-Some.rest = subst (λ t. IfSome t (λ rest. AreFrom ms from rest)) (sym (ap (λ a. a.1) c.ahead.view_is) ∙ c.in-Some.is) c.requires in
    met_some ms from end c.in-Some.rest c.pass_before.new.rest c.pass_before.result stands c.pass_before.ensures.some c.pass_before.ensures.none

pub returns-in-Some-clause-stands : goal.returns-in-Some-clause-stands
returns-in-Some-clause-stands g c =
    let ms = c.ahead.inside.list.now.0 in
    let from = c.args.from.now in
    let end = option_copied c.args.end in
    let here : StandsAt from (ms, c.ahead.inside.rest) = subst (λ a. StandsAt from a) (sym c.ahead.view_is) c.requires in
    let stands : AreFrom ms from c.in-Some.rest = subst (λ t. IfSome t (λ rest. AreFrom ms from rest)) c.in-Some.is here in
    met_stands ms from end c.in-Some.rest c.pass_before.new.rest c.pass_before.result stands c.pass_before.ensures.some

pub returns-in-Some-clause-met : goal.returns-in-Some-clause-met
returns-in-Some-clause-met g c =
    let ms = c.args.ahead.now.0 in
    let from = c.args.from.now in
    let end = option_copied c.args.end in
    let stands : AreFrom ms from c.in-Some.rest = subst (λ t. IfSome t (λ rest. AreFrom ms from rest)) (sym (ap (λ a. a.1) c.ahead.view_is) ∙ c.in-Some.is) c.requires in
    met_waits ms from end c.in-Some.rest c.pass_before.new.rest c.pass_before.result stands c.pass_before.ensures.some
