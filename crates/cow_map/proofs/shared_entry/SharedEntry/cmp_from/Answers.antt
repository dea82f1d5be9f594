use Rattle.std.proofs.Common.{ap, ◌∙◌}
use Rattle.pathkey.specs.Order.{by_bytes}
use Rattle.cow_map.proofs.Entries.{order_by_heads}
use Rattle.cow_map.proofs.shared_entry.SharedEntry.cmp_from.Goals as goal

pub returns-then-self-head-clause-order : goal.returns-then-self-head-clause-order
returns-then-self-head-clause-order g c = λ alike.
    c.cmp.ensures
    ∙ order_by_heads c.head-head.result c.self.inside.head c.args.key.now c.self.inside.entry.value.0 c.head-head.ensures c.self.invariant c.if-self-head.true
    ∙ ap (λ e. by_bytes e.0 c.args.key.now) c.self.view_is
