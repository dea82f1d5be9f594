use Rattle.std.proofs.Common.{rules, sym, ◌≡◌, ◌+◌, ◌-◌, ◌≤◌, true, false, subst, take, drop, length, [], None, arith}
use Rattle.std.specs.List.Sorted.{IsPartitionPoint, IsPartitionedBy}
use Rattle.std.proofs.lemmas.List.{take_rest}
use Rattle.std.proofs.lemmas.List.Sorted.{IsPartitionPoint-from_clause}
use Rattle.message.specs.Ranges.{before}
use Rattle.node.proofs.EntryPlaces.{entries_partitioned, is_count}
use Rattle.node.proofs.HeadSearch.{partitioned-drop, point-drop}
use Rattle.node.proofs.node.leaf.count_by_keys.Goals as goal

pub returns : goal.returns
returns g c =
    let k = c.args.key.now in
    let es = c.args.entries.now in
    let low = c.args.low in
    let bound : low + c.count_passing.result ≤ length es = omega (arith, c.count_passing.ensures.bound) in
    let before_k = λ (e : _). before e.0 k in
    let all = entries_partitioned [] None k es c.requires.rising in
    let whole = take_rest es low in
    let point = IsPartitionPoint-from_clause before_k (take (length es - low) (drop low es)) _ c.count_passing.ensures.partitioned (subst (IsPartitionedBy before_k) (sym whole) (partitioned-drop before_k es low c.requires.low.bound all)) (λ a r q h. search rules) in
    let rest = subst (λ xs. IsPartitionPoint (λ e. before_k e ≡ true) (λ e. before_k e ≡ false) xs c.count_passing.result) whole point in
    is_count k es (low + c.count_passing.result) bound (point-drop before_k es low c.count_passing.result c.requires.low.bound c.requires.low.earlier rest)
