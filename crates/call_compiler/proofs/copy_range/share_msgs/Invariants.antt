use Rattle.std.proofs.Common.{◌≡◌, ◌≤◌, ◌+◌, ◌-◌, [], length, Some}
use Rattle.block_index.specs.Means.{blocks}
use Rattle.pathkey.specs.Keys.{block_key}
use Rattle.reference.specs.Indexes.{BlocksMean}
use Rattle.reference.specs.Tree.{Tree}
use Rattle.scan.specs.Pairs.{AreAhead}
use Rattle.call_compiler.proofs.Sharing.{Shared}
use Rattle.call_compiler.proofs.copy_range.share_msgs.Given as goal

abbrev pub invariant-pairs : goal.invariant-pairs
invariant-pairs l = record {
  order : (l.source ≤ l.next) × (l.next ≤ l.source + l.count);
  end : l.rest.hi ≡ Some (block_key l.from (l.source + l.count));
  ahead : AreAhead (blocks l.index) l.rest.lo l.rest.hi l.stored.all l.stored.pairs.items;
  few : length l.msgs.items + l.source ≤ l.next + 1;
  none : l.count ≡ 0 → l.msgs.items ≡ [];
  shared : (u : Tree) → BlocksMean u (blocks l.index) → Shared (blocks l.index) l.from l.source l.to l.target l.count l.rest.lo l.next l.msgs.items;
}

abbrev pub decreases-pairs : goal.decreases-pairs
decreases-pairs l = l.source + l.count - l.next
