use Rattle.std.proofs.Common.{◌||◌}
use Rattle.change_log.specs.KeyLogs.{touched_of}
use Rattle.change_log.specs.Touched.{is_touched}
use Rattle.node.specs.Meaning.{value as value_at}
use Rattle.delta.proofs.DifferingFacts.{adds_either, are_all}
use Rattle.delta.proofs.differing.differing.Goals as goal

pub returns : goal.returns
returns g c =
    let alike = g.U.Compare.alike in
    let f = value_at g.U.Update.means c.args.old.now.root in
    let h = value_at g.U.Update.means c.args.new.now.root in
    let one = is_touched (touched_of c.args.one.now) in
    let other = is_touched (touched_of c.args.other.now) in
    are_all alike f h (λ k. one k || other k) c.new-keys.result.items c.add_touched-2.new.out.items c.new-keys.ensures.items
    (adds_either alike f h one other c.new-keys.result.items c.add_touched.new.out.items c.add_touched-2.new.out.items c.in_ok-add_touched.ensures c.in_ok-add_touched-2.ensures)
