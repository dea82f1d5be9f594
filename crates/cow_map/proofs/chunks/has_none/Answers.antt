use Rattle.cow_map.proofs.Behind.{behind_empty, behind_some}
use Rattle.cow_map.proofs.chunks.has_none.Goals as goal

pub returns-in-None-clause-yes : goal.returns-in-None-clause-yes
returns-in-None-clause-yes g c e = behind_empty c.args.left c.args.rows.now c.in-None.ensures.none

pub returns-in-Some-clause-no : goal.returns-in-Some-clause-no
returns-in-Some-clause-no g c e = behind_some c.args.left c.args.rows.now c.requires c.in-Some.ensures.bound
