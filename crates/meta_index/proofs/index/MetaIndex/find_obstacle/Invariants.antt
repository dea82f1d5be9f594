use Rattle.meta_index.specs.Means.{Decides}
use Rattle.meta_index.proofs.Climbing.{height}
use Rattle.meta_index.proofs.index.MetaIndex.find_obstacle.Given as goal

abbrev pub invariant-climb : goal.invariant-climb
invariant-climb l = Decides l.self l.path l.ancestor

abbrev pub decreases-climb : goal.decreases-climb
decreases-climb l = height l.ancestor
