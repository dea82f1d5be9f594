use Rattle.std.proofs.Common.{◌+◌, ◌-◌, refl}
use Rattle.ffi_calls.proofs.Laying.{added_at, rest_is}
use Rattle.ffi_calls.proofs.read_into.lay_block.Goals as goal

pub returns-clause-added : goal.returns-clause-added
returns-clause-added c = λ x g h.
    let begin = c.min-begin.result in
    let stop = c.min-stop.result in
    added_at c.args.out.now c.copy_from_slice.new.self c.fill.new.self c.args.block.now c.args.from c.args.to stop begin c.args.done (c.args.done + (stop - begin)) (c.args.done + (c.args.to - c.args.from))
    c.requires.order c.requires.room c.min-stop.ensures c.min-begin.ensures refl refl c.copy_from_slice.ensures.after (c.fill.ensures.after (λ y k. k)) x g h

pub returns-clause-rest : goal.returns-clause-rest
returns-clause-rest c =
    let begin = c.min-begin.result in
    let stop = c.min-stop.result in
    rest_is c.args.out.now c.copy_from_slice.new.self c.fill.new.self c.args.block.now c.args.from c.args.to stop begin c.args.done (c.args.done + (stop - begin)) (c.args.done + (c.args.to - c.args.from))
    c.requires.order c.requires.room c.min-stop.ensures c.min-begin.ensures refl refl c.copy_from_slice.ensures.after (c.fill.ensures.after (λ y k. k))
