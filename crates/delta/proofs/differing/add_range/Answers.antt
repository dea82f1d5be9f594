use Rattle.node.specs.Meaning.{value as value_at}
use Rattle.delta.proofs.DifferingFacts.{adds_stored}
use Rattle.delta.proofs.differing.add_range.Goals as goal

pub returns : goal.returns
returns g c = adds_stored g.U.Compare.alike (value_at g.U.Update.means c.args.old.now.root) (value_at g.U.Update.means c.args.new.now.root) c.args.range.now c.args.out.now.items c.add_stored.new.out.items c.add_stored-2.new.out.items c.in_ok-add_stored.ensures c.in_ok-add_stored-2.ensures
