use Rattle.delta.proofs.BeginFacts.{delta_no_line, delta_none}
use Rattle.delta.proofs.print.print_delta.Goals as goal

pub returns-in_default-clause-err : goal.returns-in_default-clause-err
returns-in_default-clause-err g c = λ t u m n is. delta_none _ c.args.digest.now t u (record { size = c.told-digest; bytes = c.fits-digest }) is

pub returns-in_default-new-clause-err : goal.returns-in_default-new-clause-err
returns-in_default-new-clause-err g c = λ t u m n is. delta_none _ c.args.digest.now t u (record { size = c.told-digest; bytes = c.fits-digest }) is

pub returns-in_default-clause-memory : goal.returns-in_default-clause-memory
returns-in_default-clause-memory g c = λ t u m n is e. delta_no_line _ c.args.digest.now t u (record { size = c.told-digest; bytes = c.fits-digest }) is

pub returns-in_default-new-clause-memory : goal.returns-in_default-new-clause-memory
returns-in_default-new-clause-memory g c = λ t u m n is e. delta_no_line _ c.args.digest.now t u (record { size = c.told-digest; bytes = c.fits-digest }) is

pub returns-clause-memory : goal.returns-clause-memory
returns-clause-memory g c = λ t u m n is e. c.put_delta-printed.ensures.memory _ _ t u c.in-Ok.ensures c.in-Ok-new.ensures m n is e
