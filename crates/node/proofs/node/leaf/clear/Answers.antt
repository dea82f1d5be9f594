use Rattle.std.proofs.Common.{rules, ap, ◌∙◌, ◌≡◌, subst, max, take, drop, ◌++◌, Some}
use Rattle.node.specs.Leaves.{IsCount}
use Rattle.node.proofs.LeafChanges.{is_cleared}
use Rattle.node.proofs.node.leaf.clear.Goals as goal

pub returns : goal.returns
returns g c =
    let es = c.args.entries.now.items in
    let range = c.args.range.now in
    let i = c.count_before-first.result in
    let j = c.count_below.result in
    let from = subst (λ es. IsCount es (Some range.lo) i) c.as_slice.ensures.value c.count_before-first.ensures in
    let to = subst (λ es. IsCount es range.hi j) c.as_slice-2.ensures.value c.count_below.ensures in
    let items : c.drop-drain.new.self.0.items ≡ take i es ++ drop (max j i) es = c.drop-drain.ensures.items ∙ c.drain.ensures.kept ∙ ap (λ e. take i es ++ drop e es) c.max-end.ensures in
    is_cleared range.lo range.hi es _ i j from to (search rules)
