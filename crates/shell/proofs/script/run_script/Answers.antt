use Rattle.std.proofs.Common.{◌≡◌, ap}
use Rattle.std.specs.Prelude.{Err}
use Rattle.shell.proofs.Answering.{left_at_end}
use Rattle.shell.proofs.Reading.{all_done, given_done, until_done}
use Rattle.shell.proofs.script.run_script.Goals as goal

pub returns-in-Ok-clause-done : goal.returns-in-Ok-clause-done
returns-in-Ok-clause-done g c = left_at_end _ _ _ _ _ (all_done _ _ _ _ _ _ _ c.in-Ok.ensures.done)

pub returns-in-Err-Failed-clause-read : goal.returns-in-Err-Failed-clause-read
returns-in-Err-Failed-clause-read g c = λ is. left_at_end _ _ _ _ _ (given_done _ _ _ _ _ _ _ (c.in-Err-Failed.ensures.read cc))

pub returns-in-Err-Failed-clause-write : goal.returns-in-Err-Failed-clause-write
returns-in-Err-Failed-clause-write g c = λ is. left_at_end _ _ _ _ _ (until_done _ _ _ _ _ _ _ (c.in-Err-Failed.ensures.write cc))

pub returns-in-Err-Fault-clause-write : goal.returns-in-Err-Fault-clause-write
returns-in-Err-Fault-clause-write g c = λ is. left_at_end _ _ _ _ _ (until_done _ _ _ _ _ _ _ (c.in-Err-Fault.ensures.fault c.in-Err-Fault.field-0-0 cc))
