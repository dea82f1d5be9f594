use Rattle.std.proofs.Common.{rules, [], None}
use Rattle.std.proofs.lemmas.List.Sorted.{IsPartitionPoint-from_clause}
use Rattle.node.proofs.EntryPlaces.{entries_climb}
use Rattle.node.proofs.HeadSearch.{head_count, heads_before, heads_partitioned, by_heads}
use Rattle.node.proofs.node.leaf.count_by_heads.Goals as goal

pub returns : goal.returns
returns g c =
    let k = c.args.key.now in
    let es = c.args.entries.now in
    let rising = heads_partitioned (λ e. e.0) es k (entries_climb [] None es c.requires) in
    let point = IsPartitionPoint-from_clause (λ e. heads_before e.0 k) es _ c.count_passing.ensures.partitioned rising (λ a r q h. (search (rules, by_heads), search rules)) in
    head_count (λ e. e.0) es k _ c.count_passing.ensures.bound point
