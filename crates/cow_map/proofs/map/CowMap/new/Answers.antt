use Rattle.cow_map.proofs.TableFacts.{rows_none}
use Rattle.cow_map.proofs.map.CowMap.new.Goals as goal

pub invariant_of-result : goal.invariant_of-result
invariant_of-result g c = rows_none c.new.result.items c.new.ensures.items
