use Rattle.std.proofs.Common.{take, refl}
use Rattle.cow_map.proofs.TableFacts.{rows_front}
use Rattle.cow_map.proofs.neighbours.last_after.Goals as goal

pub last_in-requires-clause-rows : goal.last_in-requires-clause-rows
last_in-requires-clause-rows g c = rows_front c.args.n c.args.rows.now (take c.args.n c.args.rows.now) refl c.requires.rows
