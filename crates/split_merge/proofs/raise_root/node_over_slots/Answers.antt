use Rattle.std.proofs.Common.{ap, ◌∙◌}
use Rattle.node.specs.See.{seen_slots}
use Rattle.node.specs.Pure.{inner, slots, more, none}
use Rattle.split_merge.proofs.RootUp.{emptied-hollow}
use Rattle.split_merge.proofs.raise_root.node_over_slots.Goals as goal

pub returns : goal.returns
returns g c =
    let items = rw c.in_ok-one.ensures.items at c.in_ok-push.ensures.items in
    let child = c.in_ok-new.ensures.ok ∙ c.of.ensures ∙ ap (λ z. inner (slots z)) c.in_ok-slots_without_msgs.ensures ∙ ap inner (emptied-hollow c.args.slots.now) in
    record {
      msgs = c.in_ok-collected_msgs.field-0.0;
      taken = c.in_ok-collected_msgs.ensures;
      is = c.in_ok-new-2.ensures.ok ∙ c.of-2.ensures ∙ ap (λ z. inner (seen_slots z)) items ∙ (λ j. inner (more (c.new.ensures j) c.in_ok-collected_msgs.field-0.0 (child j) none));
    }
