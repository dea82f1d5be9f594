use Rattle.std.proofs.Common.{◌++◌}
use Rattle.std.proofs.lemmas.Result.{on_err_weaker, on_ok_weaker}
use Rattle.textio.proofs.Known.{on_err}
use Rattle.delta.specs.Deltas.{Go, Stay, run}
use Rattle.delta.proofs.BeginFacts.{begun, begun_none, begun_then, some_none, some_put, some_then}
use Rattle.delta.proofs.PrintFacts.{puts_go, puts_stay, puts_then, run_commands}
use Rattle.delta.proofs.print.put_round.Goals as goal

pub returns-in_err-staying-clause-err : goal.returns-in_err-staying-clause-err
returns-in_err-staying-clause-err g c = on_err _ _ (begun_none _ c.args.old.now c.args.new.now)

pub returns-in_err-staying-clause-memory : goal.returns-in_err-staying-clause-memory
returns-in_err-staying-clause-memory g c = λ e. some_none _ c.args.old.now c.args.new.now

pub returns-in_err-print_copy-clause-err : goal.returns-in_err-print_copy-clause-err
returns-in_err-print_copy-clause-err g c =
    let n = c.in_ok-staying.staying in
    on_err _ _ (begun (run Stay n) _ _ _ _ _ _ (run_commands Stay n (λ some. (some, c.in_ok-staying.ensures.fits))) c.in_ok-staying.ensures.patches c.in_err-print_copy.ensures.err)

pub returns-in_err-going-clause-err : goal.returns-in_err-going-clause-err
returns-in_err-going-clause-err g c =
    let n = c.in_ok-staying.staying in
    let first = puts_stay n _ _ _ _ _ _ c.in_ok-staying.ensures.fits c.in_ok-print_copy.ensures.ok c.in_ok-staying.ensures.patches in
    on_err _ _ (begun_then (run Stay n) _ _ _ _ _ _ _ first (begun_none _ _ _))

pub returns-in_err-going-clause-memory : goal.returns-in_err-going-clause-memory
returns-in_err-going-clause-memory g c = λ e.
    let n = c.in_ok-staying.staying in
    some_put (run Stay n) _ _ _ _ _ _ (puts_stay n _ _ _ _ _ _ c.in_ok-staying.ensures.fits c.in_ok-print_copy.ensures.ok c.in_ok-staying.ensures.patches)

pub returns-in_err-print_delete-clause-err : goal.returns-in_err-print_delete-clause-err
returns-in_err-print_delete-clause-err g c =
    let n = c.in_ok-staying.staying in
    let m = c.in_ok-going.going in
    let first = puts_stay n _ _ _ _ _ _ c.in_ok-staying.ensures.fits c.in_ok-print_copy.ensures.ok c.in_ok-staying.ensures.patches in
    let second = begun (run Go m) _ _ _ _ _ _ (run_commands Go m (λ some. (some, c.in_ok-going.ensures.fits))) c.in_ok-going.ensures.patches c.in_err-print_delete.ensures.err in
    on_err _ _ (begun_then (run Stay n) _ _ _ _ _ _ _ first second)

pub returns : goal.returns
returns g c =
    let n = c.in_ok-staying.staying in
    let m = c.in_ok-going.going in
    let first = puts_stay n _ _ _ _ _ _ c.in_ok-staying.ensures.fits c.in_ok-print_copy.ensures.ok c.in_ok-staying.ensures.patches in
    let second = puts_go m _ _ _ _ _ _ c.in_ok-going.ensures.fits c.in_ok-print_delete.ensures.ok c.in_ok-going.ensures.patches in
    record {
      ok = on_ok_weaker c.put_coming.result (λ h. (run Stay n ++ (run Go m ++ h.0), puts_then (run Stay n) (run Go m ++ h.0) _ _ _ _ _ _ _ _ _ first (puts_then (run Go m) h.0 _ _ _ _ _ _ _ _ _ second h.1))) c.put_coming.ensures.ok;
      err = on_err_weaker c.put_coming.result (λ h. begun_then (run Stay n) _ _ _ _ _ _ _ first (begun_then (run Go m) _ _ _ _ _ _ _ second h)) c.put_coming.ensures.err;
      memory = λ e. some_then (run Stay n) _ _ _ _ _ _ _ first (some_then (run Go m) _ _ _ _ _ _ _ second (c.put_coming.ensures.memory e));
    }
