use Rattle.std.proofs.Common.{◌≡◌, ◌+◌, ◌/◌, length, List, ℕ, Some}
use Rattle.reference.specs.Tree.{Tree}
use Rattle.reference.specs.Reads.{look, Bytes}
use Rattle.reference.specs.Indexes.{BlocksMean}
use Rattle.block_index.specs.Means.{blocks}
use Rattle.block_index.proofs.Reading.{SoFar}
use Rattle.block_index.proofs.index.BlockIndex.read_counted.Given as goal

abbrev pub invariant-each : goal.invariant-each
invariant-each l = record {
  read : (t : Tree) (b : List ℕ) → BlocksMean t (blocks l.self) → look t l.path ≡ Some (Bytes b) → length b ≡ l.len → SoFar b l.off l.end l.index l.bytes.items;
  counted : l.searches + l.off / 4096 ≡ l.index;
}
