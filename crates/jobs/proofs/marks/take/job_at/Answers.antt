use Rattle.std.proofs.Common.{◌≡◌, ◌≤◌, true, false, None, [], sym, ap, ◌∙◌, subst, arith, length, rules}
use Rattle.std.proofs.lemmas.List.{nil_from_length}
use Rattle.node.specs.declared.node.Slot.{Slot}
use Rattle.node.specs.StepRows.{can_flush_inner}
use Rattle.node.proofs.Splice.{slots_from-past}
use Rattle.jobs.specs.Taking.{AreOldest, CanBeTaken}
use Rattle.jobs.specs.Job.{FitBelow}
use Rattle.jobs.proofs.Taking.{full_from, read_at}
use Rattle.jobs.proofs.marks.take.job_at.Goals as goal

pub returns-then-i-slots : goal.returns-then-i-slots
returns-then-i-slots g c =
    let past : true ≡ false = sym c.requires.free ∙ ap can_flush_inner (slots_from-past c.args.slots.now c.args.i (omega arith)) in
    absurd (cc)

pub returns-then-is_empty : goal.returns-then-is_empty
returns-then-is_empty g c =
    let none : c.in_ok-msgs.msgs.items ≡ [] = nil_from_length c.in_ok-msgs.msgs.items (search rules) in
    full_from c.args.shape.pending c.args.slots.now c.args.i c.index-slots-i.result c.index-slots-i.result (omega arith) c.index-slots-i.is c.requires.free (c.in_ok-msgs.ensures.full none)

pub slot_job-requires-clause-fits : goal.slot_job-requires-clause-fits
slot_job-requires-clause-fits g c =
    let ms = c.in_ok-msgs.msgs.items in
    let s = c.index-slots-i.result in
    let some : 1 ≤ length ms = search rules in
    let here : AreOldest ms s.pending.0 × FitBelow c.args.shape.pending ms s.child.value = (c.in_ok-msgs.ensures.oldest, c.in_ok-msgs.ensures.fits (omega (arith, some))) in
    let there = subst (λ (x : Slot g.row.U.Denot g.row.U-Value.Denot). AreOldest ms x.pending.0 × FitBelow c.args.shape.pending ms x.child.value) c.index-slots-i.is here in
    read_at (CanBeTaken c.args.shape ms) c.args.slots.now c.args.i s None (omega arith) (record { some = some; oldest = there.0; fit = there.1 })
