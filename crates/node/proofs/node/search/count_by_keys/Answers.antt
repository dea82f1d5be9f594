use Rattle.std.proofs.Common.{rules, sym, ◌≡◌, ◌-◌, true, false, subst, take, drop, length}
use Rattle.std.specs.List.Sorted.{IsPartitionPoint, IsPartitionedBy}
use Rattle.std.proofs.lemmas.List.{take_rest}
use Rattle.std.proofs.lemmas.List.Sorted.{IsPartitionPoint-from_clause}
use Rattle.message.specs.Ranges.{reaches}
use Rattle.node.proofs.SlotFacts.{begun, partitioned-rising}
use Rattle.node.proofs.HeadSearch.{partitioned-drop, point-drop}
use Rattle.node.proofs.node.search.count_by_keys.Goals as goal

pub returns-clause-point : goal.returns-clause-point
returns-clause-point g c =
    let k = c.args.key.now in
    let xs = c.args.slots.now in
    let low = c.args.low in
    let reaches_k = λ (s : _). reaches s.lo k in
    let whole = take_rest xs low in
    let point = IsPartitionPoint-from_clause reaches_k (take (length xs - low) (drop low xs)) _ c.count_passing.ensures.partitioned (subst (IsPartitionedBy reaches_k) (sym whole) (partitioned-drop reaches_k xs low c.requires.low.bound (partitioned-rising k xs c.requires.rising))) (λ a r q h. search rules) in
    let rest = subst (λ ys. IsPartitionPoint (λ s. reaches_k s ≡ true) (λ s. reaches_k s ≡ false) ys c.count_passing.result) whole point in
    point-drop reaches_k xs low c.count_passing.result c.requires.low.bound (begun k xs low c.requires.low) rest
