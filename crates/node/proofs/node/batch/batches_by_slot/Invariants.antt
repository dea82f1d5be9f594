use Rattle.std.proofs.Common.{◌≡◌, map, length}
use Rattle.std.specs.Option.{option_copied}
use Rattle.std.specs.Vec.Iter.{into_iter_items, into_iter_len}
use Rattle.node.specs.Appended.{batches_by_slot}
use Rattle.node.proofs.Placing.{all_placed}
use Rattle.node.specs.Searchable.{AllFit, see_list}
use Rattle.node.specs.See.{seen_slots}
use Rattle.node.proofs.node.batch.batches_by_slot.Given as goal

abbrev pub invariant-loop-msg : goal.invariant-loop-msg
invariant-loop-msg g l =
    (goal.iterator-loop-msg g).can_next l.msg-iterator ×
    (goal.iterator-loop-msg g).is_finite l.msg-iterator ×
    (all_placed (option_copied l.hi) (into_iter_items l.msg-iterator) (seen_slots l.slots) (map see_list l.batches_by_slot.items) ≡ batches_by_slot (option_copied l.hi) l.fn.msgs.items (seen_slots l.slots)) ×
    AllFit (option_copied l.hi) (seen_slots l.slots) (into_iter_items l.msg-iterator) ×
    (length l.batches_by_slot.items ≡ length l.slots) ×
    (into_iter_len l.msg-iterator ≡ length (into_iter_items l.msg-iterator))
