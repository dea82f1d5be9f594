use Rattle.std.proofs.Common.{take}
use Rattle.std.specs.List.{list_any}
use Rattle.node.specs.Meaning.{value as value_at}
use Rattle.pathkey.specs.Keys.{is_in}
use Rattle.delta.specs.Changed.{Adds}
use Rattle.delta.proofs.differing.add_ranges.Given as goal

abbrev pub invariant-loop-range : goal.invariant-loop-range
invariant-loop-range g l = Adds g.U.Compare.alike (value_at g.U.Update.means l.old.root) (value_at g.U.Update.means l.new.root) (λ k. list_any (λ r. is_in r k) (take l.range-index l.ranges)) l.initial.out.items l.out.items
