use Rattle.std.proofs.Common.{[], ◌++◌, ap, sym, ◌∙◌, Err}
use Rattle.std.proofs.lemmas.Result.{err_from_is_err_and}
use Rattle.textio.proofs.Known.{on_err}
use Rattle.delta.proofs.BeginFacts.{begun_none, begun_then, some_put, some_then}
use Rattle.delta.proofs.PrintFacts.{puts_all, puts_none, puts_then}
use Rattle.delta.proofs.WalkFacts.{none_left}
use Rattle.delta.proofs.print.put_commands.Goals as goal

pub loop-init : goal.loop-init
loop-init g c = ([], puts_none _ c.args.old.now c.args.new.now)

pub returns-then-are_at_end-clause-ok : goal.returns-then-are_at_end-clause-ok
returns-then-are_at_end-clause-ok g c =
    let (cs, puts) = c.loop.invariant in
    let end = c.if-are_at_end.true in
    (cs, puts_all cs _ _ _ _ _ _ puts (λ t. none_left t c.loop.old (c.are_at_end.ensures.old end)) (λ u. none_left u c.loop.new (c.are_at_end.ensures.new end)))

pub returns-in_err-put_round-clause-err : goal.returns-in_err-put_round-clause-err
returns-in_err-put_round-clause-err g c =
    let (cs, puts) = c.loop.invariant in
    on_err _ _ (begun_then cs _ _ _ _ _ _ _ puts c.in_err-put_round.ensures.err)

pub returns-in_err-put_round-clause-memory : goal.returns-in_err-put_round-clause-memory
returns-in_err-put_round-clause-memory g c = λ e.
    let (cs, puts) = c.loop.invariant in
    let p = err_from_is_err_and c.from_residual.result c.from_residual.ensures.1 in
    some_then cs _ _ _ _ _ _ _ puts (c.in_err-put_round.ensures.memory (sym (ap Err p.2) ∙ sym p.1 ∙ e))

pub loop-preserved : goal.loop-preserved
loop-preserved g c =
    let (cs, puts) = c.loop.invariant in
    let (ds, more) = c.in_ok-put_round.ensures.ok in
    (cs ++ ds, puts_then cs ds _ _ _ _ _ _ _ _ _ puts more)

pub returns-clause-err : goal.returns-clause-err
returns-clause-err g c =
    let (cs, puts) = c.loop.invariant in
    begun_then cs _ _ _ _ _ _ _ puts (begun_none _ c.loop.old c.loop.new)

pub returns-clause-memory : goal.returns-clause-memory
returns-clause-memory g c = λ e.
    let (cs, puts) = c.loop.invariant in
    some_put cs _ _ _ _ _ _ puts
