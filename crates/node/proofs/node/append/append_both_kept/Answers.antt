use Rattle.std.proofs.Common.{sym, ◌∙◌, ap}
use Rattle.node.specs.See.{see}
use Rattle.node.proofs.SlotFacts.{borrowed_back}
use Rattle.node.proofs.node.append.append_both_kept.Goals as goal

pub returns-in_err-second_batch-clause-first_err : goal.returns-in_err-second_batch-clause-first_err
returns-in_err-second_batch-clause-first_err g c =
    borrowed_back c.from_residual-in_err-second_batch.result c.in-Inner.one.len c.in-Inner.one.items c.as_mut_slice-one.result.now c.prepare.new.slots c.args.first.now
    c.as_mut_slice-one.ensures.len c.as_mut_slice-one.ensures.value c.prepare.ensures.same (ap see (sym c.in-Inner.is) ∙ c.body_mut.ensures.value)

pub returns-in_err-second_batch-clause-second_err : goal.returns-in_err-second_batch-clause-second_err
returns-in_err-second_batch-clause-second_err g c =
    borrowed_back c.from_residual-in_err-second_batch.result c.in-Inner-body_mut.two.len c.in-Inner-body_mut.two.items c.as_mut_slice-two.result.now c.prepare-2.new.slots c.args.second.now
    c.as_mut_slice-two.ensures.len c.as_mut_slice-two.ensures.value c.prepare-2.ensures.same (ap see (sym c.in-Inner-body_mut.is) ∙ c.body_mut-2.ensures.value)
