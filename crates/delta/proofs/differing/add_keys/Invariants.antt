use Rattle.std.proofs.Common.{take}
use Rattle.std.specs.List.{list_any}
use Rattle.node.specs.Meaning.{value as value_at}
use Rattle.pathkey.specs.Order.{same}
use Rattle.delta.specs.Changed.{Adds}
use Rattle.delta.proofs.differing.add_keys.Given as goal

abbrev pub invariant-loop-key : goal.invariant-loop-key
invariant-loop-key g l = Adds g.U.Compare.alike (value_at g.U.Update.means l.old.root) (value_at g.U.Update.means l.new.root) (λ k. list_any (λ q. same q k) (take l.key-index l.keys)) l.initial.out.items l.out.items
