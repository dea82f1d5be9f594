use Rattle.std.proofs.Common.{◌≡◌}
use Rattle.node.specs.Meaning.{value as value_at}
use Rattle.scan.specs.Pairs.{IsGiven}
use Rattle.delta.proofs.DifferingFacts.{Passed}
use Rattle.delta.proofs.differing.add_stored.Given as goal

-- the keys before the next one were passed, which is the first after them
abbrev pub invariant-loop : goal.invariant-loop
invariant-loop g l = record {
  passed : Passed g.U.Compare.alike (value_at g.U.Update.means l.old.root) (value_at g.U.Update.means l.new.root) (value_at g.U.Update.means l.tree.root) l.range l.rest.lo l.initial.out.items l.out.items;
  given : IsGiven (value_at g.U.Update.means l.tree.root) l.rest.lo l.rest.hi l.next l.pieces.all l.pieces.pairs.items;
  end : l.rest.hi ≡ l.range.hi;
}
