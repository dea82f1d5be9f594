use Rattle.std.proofs.Common.{◌≡◌, ℕ, length, ap, arith}
use Rattle.std.proofs.lemmas.List.{length-map}
use Rattle.std.specs.Prelude.{Vec}
use Rattle.std.specs.declared.alloc.Global.{Global}
use Rattle.pathkey.specs.Names.{Name}
use Rattle.reference.specs.Pairs.{pairs_of}
use Rattle.reference.specs.declared.reply.Kind.{Kind}
use Rattle.meta_index.proofs.index.MetaIndex.children_counted.Goals as goal

pub returns-clause-counted : goal.returns-clause-counted
returns-clause-counted c =
    let listed = c.in_ok-list.ensures (ap pairs_of c.new-entries.ensures.items) in
    let size : length c.list.new.sink.items ≡ length listed.0 = omega (arith, ap length listed.1, length-map {B = Kind × Name} c.list.new.sink.items (λ (e : Kind × Vec ℕ Global). (e.0, e.1.items))) in
    let spent = listed.2.spent in
    (spent.some, omega (arith, size, spent.few), omega (arith, size, spent.paid, spent.each, c.list.new.sink.small))
