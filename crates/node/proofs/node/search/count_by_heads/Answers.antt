use Rattle.std.proofs.Common.{rules}
use Rattle.std.proofs.lemmas.List.Sorted.{IsPartitionPoint-from_clause}
use Rattle.node.proofs.SlotFacts.{slots_climb}
use Rattle.node.proofs.HeadSearch.{by_heads, head_count, heads_before, heads_partitioned}
use Rattle.node.proofs.node.search.count_by_heads.Goals as goal

pub returns : goal.returns
returns g c =
    let k = c.args.key.now in
    let xs = c.args.slots.now in
    let rising = heads_partitioned (λ s. s.lo) xs k (slots_climb xs c.requires) in
    let point = IsPartitionPoint-from_clause (λ s. heads_before s.lo k) xs _ c.count_passing.ensures.partitioned rising (λ a r q h. (search (rules, by_heads), search rules)) in
    head_count (λ s. s.lo) xs k _ c.count_passing.ensures.bound point
