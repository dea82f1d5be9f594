use Rattle.std.proofs.Common.{inl, refl, sym, ◌∙◌}
use Rattle.wal.proofs.Adding.{adds_next, adds_none, far_there}
use Rattle.wal.proofs.dump.put_changes.Goals as goal

pub loop-change-init : goal.loop-change-init
loop-change-init c = adds_none c.args.text.now.items

pub loop-change-preserved : goal.loop-change-preserved
loop-change-preserved c = adds_next c.args.changes.now c.loop-change.change-index c.change-item.result c.args.text.now.items c.loop-change.text.items c.put_change.new.text.items
    c.loop-change-test.true c.change-item.is c.loop-change.invariant c.in-Ok.ensures

pub returns-then-exceeds_range-clause-refused : goal.returns-then-exceeds_range-clause-refused
returns-then-exceeds_range-clause-refused c = inl (refl, far_there c.args.changes.now c.loop-change.change-index c.change-item.result c.loop-change-test.true c.change-item.is (sym c.exceeds_range.ensures ∙ c.if-exceeds_range.true))
