use Rattle.cow_map.proofs.Nearest.{past_gap, past_holder}
use Rattle.cow_map.proofs.search.count_past.Goals as goal

pub returns-in-Ok-clause-place : goal.returns-in-Ok-clause-place
returns-in-Ok-clause-place g c = past_holder c.args.key.now c.args.entries.now c.in-Ok.i c.requires c.in-Ok.ensures

pub returns-in-Err-clause-place : goal.returns-in-Err-clause-place
returns-in-Err-clause-place g c = past_gap c.args.key.now c.args.entries.now c.in-Err.i c.in-Err.ensures
