use Rattle.std.proofs.Common.{◌-◌, ◌^◌, length}
use Rattle.node.specs.Meaning.{value}
use Rattle.scan.specs.Pairs.{AreAhead}
use Rattle.call_compiler.proofs.Walking.{Walked}
use Rattle.call_compiler.proofs.subtrees.rekeyed_msgs.Given as goal

abbrev pub invariant-pairs : goal.invariant-pairs
invariant-pairs g l = record {
  walked : Walked (value g.U.Update.means l.tree.root) l.old l.new l.fn.first.items l.rest l.msgs.items;
  ahead : AreAhead (value g.U.Update.means l.tree.root) l.rest.lo l.rest.hi l.pieces.all l.pieces.pairs.items;
}

abbrev pub decreases-pairs : goal.decreases-pairs
decreases-pairs g l = 2 ^ 64 - length l.msgs.items
