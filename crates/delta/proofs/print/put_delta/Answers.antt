use Rattle.std.proofs.lemmas.Result.{err_from_is_err_and}
use Rattle.textio.proofs.Known.{on_err}
use Rattle.delta.proofs.BeginFacts.{delta_commands, delta_end, delta_heading, delta_some}
use Rattle.delta.proofs.PrintFacts.{delta_put}
use Rattle.delta.proofs.print.put_delta.Goals as goal

pub returns-in_err-put_heading-clause-err : goal.returns-in_err-put_heading-clause-err
returns-in_err-put_heading-clause-err g c = λ a b t u at_a at_b m n is.
    on_err _ _ (delta_heading _ _ c.args.digest.now t u (record { size = c.told-digest; bytes = c.fits-digest }) is c.in_err-put_heading.ensures.err)

pub returns-in_err-put_commands-clause-err : goal.returns-in_err-put_commands-clause-err
returns-in_err-put_commands-clause-err g c = λ a b t u at_a at_b m n is.
    on_err _ _ (delta_commands _ _ _ c.args.digest.now _ _ a b t u at_a at_b m n (record { size = c.told-digest; bytes = c.fits-digest }) is c.in_ok-put_heading.ensures.ok c.in_err-put_commands.ensures.err)

pub returns-in_err-put_commands-clause-memory : goal.returns-in_err-put_commands-clause-memory
returns-in_err-put_commands-clause-memory g c = λ a b t u at_a at_b m n is e.
    let p = err_from_is_err_and c.from_residual-in_err-put_commands.result c.from_residual-in_err-put_commands.ensures.1 in
    let q = p.2 in
    delta_some _ _ _ c.args.digest.now _ _ a b t u at_a at_b m n (record { size = c.told-digest; bytes = c.fits-digest }) is c.in_ok-put_heading.ensures.ok (c.in_err-put_commands.ensures.memory cc)

pub returns-in_err-put-clause-err : goal.returns-in_err-put-clause-err
returns-in_err-put-clause-err g c = λ a b t u at_a at_b m n is.
    let (cs, puts) = c.in_ok-put_commands.ensures.ok in
    on_err _ _ (delta_end _ _ _ c.args.digest.now _ _ a b t u at_a at_b m n (record { size = c.told-digest; bytes = c.fits-digest }) is c.in_ok-put_heading.ensures.ok _ cs puts c.in_err-put.ensures.err)

pub returns-clause-ok : goal.returns-clause-ok
returns-clause-ok g c = λ a b t u at_a at_b m n is.
    let (cs, puts) = c.in_ok-put_commands.ensures.ok in
    delta_put _ _ _ _ c.args.digest.now cs _ _ a b t u at_a at_b m n (record { size = c.told-digest; bytes = c.fits-digest }) is c.in_ok-put_heading.ensures.ok puts c.in_ok-put.ensures.ok
