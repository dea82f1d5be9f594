use Rattle.std.proofs.Common.{◌≡◌, List, None, Some, ap, sym, ◌∙◌, subst}
use Rattle.volume.specs.RunJob.{position}
use Rattle.volume.specs.declared.run_job.RunJob.{RunJob}
use Rattle.volume.proofs.Holding.{none_there, all_left, found_there}
use Rattle.volume.proofs.run_job.take_out.Goals as goal

pub returns-in_err-i-clause-job : goal.returns-in_err-i-clause-job
returns-in_err-i-clause-job c =
    let place : position c.args.ticket.number c.args.held.now.items ≡ None = subst (λ (z : List RunJob). position c.args.ticket.number z ≡ None) c.as_slice.ensures.value (sym c.in_err-i.ensures.place) in
    c.from_residual.ensures ∙ sym (none_there c.args.ticket.number c.args.held.now.items place)

pub returns-in_err-i-clause-others : goal.returns-in_err-i-clause-others
returns-in_err-i-clause-others c =
    let place : position c.args.ticket.number c.args.held.now.items ≡ None = subst (λ (z : List RunJob). position c.args.ticket.number z ≡ None) c.as_slice.ensures.value (sym c.in_err-i.ensures.place) in
    sym (all_left c.args.ticket.number c.args.held.now.items (none_there c.args.ticket.number c.args.held.now.items place))

pub returns-clause-job : goal.returns-clause-job
returns-clause-job c =
    let place : position c.args.ticket.number c.args.held.now.items ≡ Some c.in_ok-i.i = subst (λ (z : List RunJob). position c.args.ticket.number z ≡ Some c.in_ok-i.i) c.as_slice.ensures.value (sym c.in_ok-i.ensures.place) in
    ap (λ (x : RunJob). Some x) c.remove.ensures.value ∙ sym (found_there c.args.ticket.number c.in_ok-i.i c.args.held.now.items c.remove.result place).0

pub returns-clause-others : goal.returns-clause-others
returns-clause-others c =
    let place : position c.args.ticket.number c.args.held.now.items ≡ Some c.in_ok-i.i = subst (λ (z : List RunJob). position c.args.ticket.number z ≡ Some c.in_ok-i.i) c.as_slice.ensures.value (sym c.in_ok-i.ensures.place) in
    c.remove.ensures.items ∙ sym (found_there c.args.ticket.number c.in_ok-i.i c.args.held.now.items c.remove.result place).1
