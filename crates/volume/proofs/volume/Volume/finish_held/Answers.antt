use Rattle.std.proofs.Common.{◌≡◌, List, None, ap, sym, ◌∙◌, subst, length, arith}
use Rattle.volume.specs.RunJob.{with_ticket, IsHeld, AreHeld}
use Rattle.volume.specs.Volumes.{live_of}
use Rattle.volume.specs.declared.run_job.RunJob.{RunJob}
use Rattle.volume.proofs.Holding.{all_left, all_still_held, again_held, found_held, held_more, one_less, others_held, still_held}
use Rattle.volume.proofs.volume.Volume.finish_held.Goals as goal

pub returns-in_default-clause-link : goal.returns-in_default-clause-link
returns-in_default-clause-link c =
    let none : with_ticket c.args.ticket.number c.args.held.now.items ≡ None = sym c.take_out.ensures.job ∙ c.in_default.is in
    let same : c.take_out.new.held.items ≡ c.args.held.now.items = c.take_out.ensures.others ∙ all_left c.args.ticket.number c.args.held.now.items none in
    (none, ap (λ (z : List RunJob). record { volume = c.args.self.now; held = z }) same)

pub returns-in_default-clause-held : goal.returns-in_default-clause-held
returns-in_default-clause-held c = subst (AreHeld (live_of c.args.self.now)) (sym c.take_out.ensures.others) (others_held c.args.ticket.number c.args.held.now.items (live_of c.args.self.now) c.requires)

pub finish-requires : goal.finish-requires
finish-requires c = found_held c.args.ticket.number c.args.held.now.items c.in-Some.job (live_of c.args.self.now) (sym c.take_out.ensures.job ∙ c.in-Some.is) c.requires

pub push_reserved-requires : goal.push_reserved-requires
push_reserved-requires c =
    let less = one_less c.args.ticket.number c.args.held.now.items c.in-Some.job (sym c.take_out.ensures.job ∙ c.in-Some.is) in
    let left = ap (λ (z : List RunJob). length z) c.take_out.ensures.others in
    omega (arith, less, left, c.take_out.new.held.ok.0, c.args.held.now.ok.0, c.args.held.now.ok.1, c.take_out.ensures.room)

pub returns-in-Ok-clause-held : goal.returns-in-Ok-clause-held
returns-in-Ok-clause-held c =
    all_still_held c.take_out.new.held.items (live_of c.args.self.now) (live_of c.finish.new.self) c.finish.ensures.kept
    (subst (AreHeld (live_of c.args.self.now)) (sym c.take_out.ensures.others) (others_held c.args.ticket.number c.args.held.now.items (live_of c.args.self.now) c.requires))

pub returns-in-Err-clause-held : goal.returns-in-Err-clause-held
returns-in-Err-clause-held c =
    let was : IsHeld (live_of c.args.self.now) c.in-Some.job = found_held c.args.ticket.number c.args.held.now.items c.in-Some.job (live_of c.args.self.now) (sym c.take_out.ensures.job ∙ c.in-Some.is) c.requires in
    let again : IsHeld (live_of c.args.self.now) c.in-Err.job = again_held c.in-Some.job c.in-Err.job (live_of c.args.self.now) c.in-Err.ensures.ends.0 was in
    let left : AreHeld (live_of c.args.self.now) c.take_out.new.held.items = subst (AreHeld (live_of c.args.self.now)) (sym c.take_out.ensures.others) (others_held c.args.ticket.number c.args.held.now.items (live_of c.args.self.now) c.requires) in
    subst (AreHeld (live_of c.finish.new.self)) (sym c.push_reserved.ensures.items)
    (held_more c.take_out.new.held.items c.in-Err.job (live_of c.finish.new.self)
    (all_still_held c.take_out.new.held.items (live_of c.args.self.now) (live_of c.finish.new.self) c.finish.ensures.kept left)
    (still_held c.in-Err.job (live_of c.args.self.now) (live_of c.finish.new.self) c.finish.ensures.kept again))
