use Rattle.std.proofs.Common.{◌≡◌, ◌+◌, ◌/◌, length}
use Rattle.block_index.specs.Means.{blocks}
use Rattle.ffi_calls.proofs.Fronts.{AreBlocks}
use Rattle.ffi_calls.proofs.read_into.blocks_between.Given as goal

abbrev pub invariant-each : goal.invariant-each
invariant-each l = record {
  found : AreBlocks (blocks l.index) l.path (l.offset / 4096) l.found.items;
  many : l.offset / 4096 + length l.found.items ≡ l.number;
}
