use Rattle.cow_map.proofs.TableFacts.{rows_back}
use Rattle.cow_map.proofs.changes.drop_among.Goals as goal

pub drop_front_of_first-requires-clause-rows : goal.drop_front_of_first-requires-clause-rows
drop_front_of_first-requires-clause-rows g c = rows_back c.whole_rows-whole.result.0 c.args.rows.now.items c.skip.new.rows.items c.skip.ensures c.requires.rows

pub returns-else-left-gt0-clause-rows : goal.returns-else-left-gt0-clause-rows
returns-else-left-gt0-clause-rows g c = rows_back c.whole_rows-whole.result.0 c.args.rows.now.items c.skip.new.rows.items c.skip.ensures c.requires.rows
