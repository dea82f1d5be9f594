use Rattle.std.proofs.Common.{◌≡◌, ◌/◌}
use Rattle.reference.specs.Indexes.{patched}
use Rattle.block_index.specs.Changed.{Changes}
use Rattle.block_index.proofs.Writing.{up_to, patches_between}
use Rattle.block_index.proofs.index.BlockIndex.write_msgs.Given as goal

abbrev pub invariant-each : goal.invariant-each
invariant-each l = record {
  list : l.msgs.items ≡ patches_between l.path l.off l.bytes (l.off / 4096) l.index;
  meaning : Changes (up_to l.index (patched l.off l.bytes)) l.path l.msgs.items;
}
