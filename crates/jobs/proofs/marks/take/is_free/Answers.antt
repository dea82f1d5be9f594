use Rattle.std.proofs.Common.{true, sym, ◌∙◌, arith}
use Rattle.jobs.proofs.Taking.{none_past, free_at}
use Rattle.jobs.proofs.marks.take.is_free.Goals as goal

pub returns-then-i-slots : goal.returns-then-i-slots
returns-then-i-slots g c = sym (none_past c.args.marks.now c.args.slots.now c.args.i (omega arith))

pub returns-then-is_flushable : goal.returns-then-is_flushable
returns-then-is_flushable g c = free_at c.args.marks.now c.args.slots.now c.args.i c.index-slots-i.result true c.kept_at.result (omega arith) (sym c.if-is_flushable.true ∙ c.is_flushable.ensures) c.kept_at.ensures
