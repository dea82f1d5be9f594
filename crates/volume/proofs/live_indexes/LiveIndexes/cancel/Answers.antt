use Rattle.std.proofs.Common.{subst}
use Rattle.volume.specs.Marked.{PLive, KeepsMarks}
use Rattle.volume.proofs.Marking.{cancelled_lasts, cancelled_keeps}
use Rattle.volume.proofs.live_indexes.LiveIndexes.cancel.Goals as goal

pub invariant_of-self : goal.invariant_of-self
invariant_of-self c =
    let l : PLive = record { indexes = c.self.inside.indexes; marks = record { meta = c.self.inside.meta_marks; block = c.self.inside.block_marks; given = c.self.inside.given } } in
    cancelled_lasts l c.args.ticket.number c.cancel.new.self c.cancel-2.new.self c.self.invariant c.cancel.ensures c.cancel-2.ensures

pub returns-clause-kept : goal.returns-clause-kept
returns-clause-kept c =
    let l : PLive = record { indexes = c.self.inside.indexes; marks = record { meta = c.self.inside.meta_marks; block = c.self.inside.block_marks; given = c.self.inside.given } } in
    let k = cancelled_keeps l c.args.ticket.number c.cancel.new.self c.cancel-2.new.self c.cancel.ensures c.cancel-2.ensures in
    subst (λ (x : PLive). KeepsMarks x (record l { marks = record { meta = c.cancel.new.self; block = c.cancel-2.new.self; given = l.marks.given } })) c.self.view_is k
