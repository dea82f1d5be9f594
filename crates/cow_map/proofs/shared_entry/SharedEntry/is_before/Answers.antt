use Rattle.std.proofs.Common.{ap, ◌∙◌}
use Rattle.std.specs.Ordering.{is_gt}
use Rattle.pathkey.specs.Order.{by_bytes}
use Rattle.cow_map.proofs.Entries.{before_by_heads}
use Rattle.cow_map.proofs.shared_entry.SharedEntry.is_before.Goals as goal

pub returns-then-self-head : goal.returns-then-self-head
returns-then-self-head g c =
    before_by_heads c.head-head.result c.self.inside.head c.args.key.now c.self.inside.entry.value.0 c.head-head.ensures c.self.invariant c.if-self-head.true
    ∙ ap (λ e. is_gt (by_bytes c.args.key.now e.0)) c.self.view_is
