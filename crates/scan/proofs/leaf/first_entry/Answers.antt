use Rattle.std.proofs.Common.{arith, sym, subst, ◌∙◌, List, ℕ, Some}
use Rattle.std.specs.Option.{option_copied}
use Rattle.node.specs.Meaning.{lookup}
use Rattle.scan.specs.Pairs.{IsFirst}
use Rattle.scan.proofs.LeafFirst.{all_before, entry_is_first, entry_is_past}
use Rattle.scan.proofs.leaf.first_entry.Goals as goal

pub returns-then-i-entries : goal.returns-then-i-entries
returns-then-i-entries g c = all_before c.args.entries.now c.args.lo.now c.count_before-i.result c.count_before-i.ensures (option_copied c.args.hi) (omega arith)

pub returns-then-not-is_before_end : goal.returns-then-not-is_before_end
returns-then-not-is_before_end g c = entry_is_past c.args.entries.now c.args.lo.now c.count_before-i.result c.count_before-i.ensures c.index-entries-i.result c.requires (omega arith) c.index-entries-i.is (option_copied c.args.hi) (sym c.is_before_end.ensures ∙ c.if-not-is_before_end.true)

pub returns : goal.returns
returns g c =
    let lo = c.args.lo.now in
    let hi = option_copied c.args.hi in
    let found = entry_is_first c.args.entries.now lo c.count_before-i.result c.count_before-i.ensures c.index-entries-i.result c.requires (omega arith) c.index-entries-i.is hi (sym c.is_before_end.ensures ∙ c.if-not-is_before_end.false) in
    let key = sym c.in_ok-key.ensures in
    let value = sym c.in_ok-copy_value.ensures in
    subst (λ (p : List ℕ × g.row.U-Value.Denot). IsFirst (lookup c.args.entries.now) lo hi (Some p)) (λ i. (key i, value i)) found
