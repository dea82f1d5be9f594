use Rattle.std.proofs.Common.{List, subst}
use Rattle.std.specs.List.{list_any}
use Rattle.node.specs.Meaning.{value as value_at}
use Rattle.pathkey.specs.Keys.{Key, is_in}
use Rattle.pathkey.specs.Order.{same}
use Rattle.pathkey.specs.declared.range.KeyRange.{KeyRange}
use Rattle.delta.specs.Changed.{Adds}
use Rattle.delta.proofs.DifferingFacts.{adds_either}
use Rattle.delta.proofs.differing.add_touched.Goals as goal

pub returns : goal.returns
returns g c =
    let alike = g.U.Compare.alike in
    let f = value_at g.U.Update.means c.args.old.now.root in
    let h = value_at g.U.Update.means c.args.new.now.root in
    adds_either alike f h (λ k. list_any (λ q. same q k) c.args.touched.now.keys.items) (λ k. list_any (λ r. is_in r k) c.args.touched.now.ranges.items) c.args.out.now.items c.add_keys.new.out.items c.add_ranges.new.out.items
    (subst (λ (l : List Key). Adds alike f h (λ k. list_any (λ q. same q k) l) c.args.out.now.items c.add_keys.new.out.items) c.as_slice.ensures.value c.in_ok-add_keys.ensures)
    (subst (λ (l : List KeyRange). Adds alike f h (λ k. list_any (λ r. is_in r k) l) c.add_keys.new.out.items c.add_ranges.new.out.items) c.as_slice-2.ensures.value c.in_ok-add_ranges.ensures)
