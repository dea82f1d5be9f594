use Rattle.std.proofs.Common.{◌≡◌, None, ap, sym, ◌∙◌, arith}
use Rattle.node.specs.declared.node.Slot.{Slot}
use Rattle.node.proofs.Grafting.{end_after}
use Rattle.node.proofs.StepPlaces.{end_of-drop}
use Rattle.jobs.proofs.Taking.{job_made}
use Rattle.jobs.proofs.marks.take.slot_job.Goals as goal
use Rattle.jobs.proofs.marks.take.slot_job.Goals.{In_ok-child}

end : (g : _) (c : In_ok-child g) → c.in_ok-hi.hi ≡ end_after None c.args.slots.now c.args.i
end g c = c.in_ok-hi.ensures ∙ c.end_of.ensures ∙ sym (end_of-drop c.args.slots.now c.args.i None (omega arith))

pub invariant_of-result : goal.invariant_of-result
invariant_of-result g c =
    let is = c.index-slots-i.is in
    (job_made c.args.ticket c.args.shape c.args.slots.now c.args.i c.index-slots-i.result c.in_ok-lo.lo c.in_ok-hi.hi c.args.msgs.items c.in_ok-child.child.value c.requires.lawful c.requires.fits (omega arith) (c.in_ok-lo.ensures ∙ ap (λ (s : Slot g.row.U.Denot g.row.U-Value.Denot). s.lo) is) (end g c) (c.in_ok-child.ensures ∙ ap (λ (s : Slot g.row.U.Denot g.row.U-Value.Denot). s.child.value) is)).0

pub returns-clause-slot : goal.returns-clause-slot
returns-clause-slot g c =
    let is = c.index-slots-i.is in
    (job_made c.args.ticket c.args.shape c.args.slots.now c.args.i c.index-slots-i.result c.in_ok-lo.lo c.in_ok-hi.hi c.args.msgs.items c.in_ok-child.child.value c.requires.lawful c.requires.fits (omega arith) (c.in_ok-lo.ensures ∙ ap (λ (s : Slot g.row.U.Denot g.row.U-Value.Denot). s.lo) is) (end g c) (c.in_ok-child.ensures ∙ ap (λ (s : Slot g.row.U.Denot g.row.U-Value.Denot). s.child.value) is)).1
