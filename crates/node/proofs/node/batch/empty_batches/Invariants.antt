use Rattle.std.proofs.Common.{◌≡◌, take, map, []}
use Rattle.node.specs.Searchable.{see_list}
use Rattle.node.proofs.node.batch.empty_batches.Given as goal

abbrev pub invariant-loop : goal.invariant-loop
invariant-loop g l = map see_list l.batches_by_slot.items ≡ map (λ s. []) (take l.index l.slots)
