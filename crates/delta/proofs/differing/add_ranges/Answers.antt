use Rattle.std.proofs.Common.{arith}
use Rattle.node.specs.Meaning.{value as value_at}
use Rattle.pathkey.specs.Keys.{is_in}
use Rattle.delta.proofs.DifferingFacts.{adds_more}
use Rattle.delta.proofs.differing.add_ranges.Goals as goal

pub loop-range-preserved : goal.loop-range-preserved
loop-range-preserved g c = adds_more g.U.Compare.alike (value_at g.U.Update.means c.args.old.now.root) (value_at g.U.Update.means c.args.new.now.root) (λ r k. is_in r k) c.args.ranges.now c.loop-range.range-index c.range-item.result (omega arith) c.range-item.is
    c.args.out.now.items c.loop-range.out.items c.add_range.new.out.items c.loop-range.invariant c.in_ok-add_range.ensures
