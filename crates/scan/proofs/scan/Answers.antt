use Rattle.std.proofs.Common.{subst}
use Rattle.std.specs.Option.{option_copied}
use Rattle.node.specs.Meaning.{value}
use Rattle.node.specs.Pure.{PNode}
use Rattle.scan.specs.Pairs.{AddsScan}
use Rattle.scan.proofs.Joins.{scan_added}
use Rattle.scan.proofs.scan.Goals as goal

pub returns : goal.returns
returns g c =
    let means = g.U.Update.means in
    let lo = c.args.range.now.lo in
    let old = c.new-pairs.result.items in
    let new = c.walk.new.pairs.items in
    let whole = subst (λ (n : PNode g.row.U.Denot g.row.U-Value.Denot). AddsScan (value means n) lo (option_copied c.as_ref.result) c.args.limit old new) c.root.ensures.root c.in_ok-walk.ensures in
    scan_added (value means c.args.tree.now.root) lo c.args.range.now.hi c.args.limit old new c.new-pairs.ensures.items (subst (λ o. AddsScan (value means c.args.tree.now.root) lo o c.args.limit old new) c.as_ref.ensures.value whole)
