use Rattle.std.proofs.Common.{◌≡◌}
use Rattle.block_index.specs.Means.{blocks}
use Rattle.volume.specs.Extents.{AreStored}
use Rattle.volume.proofs.holes.extent_end.Given as goal

abbrev pub invariant-each : goal.invariant-each
invariant-each l = record {
  tree : l.walk ≡ l.initial.walk;
  stored : AreStored (blocks l.initial.walk.indexes.block) l.path l.from l.number;
}
