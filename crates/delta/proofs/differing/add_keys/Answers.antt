use Rattle.std.proofs.Common.{arith}
use Rattle.node.specs.Meaning.{value as value_at}
use Rattle.pathkey.specs.Order.{same}
use Rattle.delta.proofs.DifferingFacts.{adds_more}
use Rattle.delta.proofs.differing.add_keys.Goals as goal

pub loop-key-preserved : goal.loop-key-preserved
loop-key-preserved g c = adds_more g.U.Compare.alike (value_at g.U.Update.means c.args.old.now.root) (value_at g.U.Update.means c.args.new.now.root) (λ q k. same q k) c.args.keys.now c.loop-key.key-index c.key-item.result (omega arith) c.key-item.is
    c.args.out.now.items c.loop-key.out.items c.add_key.new.out.items c.loop-key.invariant c.in_ok-add_key.ensures
