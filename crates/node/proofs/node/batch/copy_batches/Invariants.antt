use Rattle.std.proofs.Common.{◌≡◌, drop, map, None}
use Rattle.node.specs.Appended.{batches_by_slot}
use Rattle.node.proofs.Placing.{all_placed}
use Rattle.node.specs.Searchable.{see_list}
use Rattle.node.specs.See.{seen_slots}
use Rattle.node.proofs.node.batch.copy_batches.Given as goal

abbrev pub invariant-loop-msg : goal.invariant-loop-msg
invariant-loop-msg g l = all_placed None (drop l.msg-index l.msgs) (seen_slots l.slots) (map see_list l.batches_by_slot.items) ≡ batches_by_slot None l.msgs (seen_slots l.slots)
