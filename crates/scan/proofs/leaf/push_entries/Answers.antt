use Rattle.std.proofs.Common.{◌≡◌, [], ◌∷◌, ◌++◌, List, ℕ, arith, ap, refl, sym, ◌∙◌}
use Rattle.std.specs.Option.{option_copied}
use Rattle.scan.proofs.LeafWalk.{take_start, take_full, take_all, next_past, take_more}
use Rattle.scan.proofs.leaf.push_entries.Goals as goal

pub entries-init : goal.entries-init
entries-init g c = take_start c.args.entries.now c.args.lo.now (option_copied c.args.hi) c.args.limit c.count_before-start.result c.args.pairs.now.items c.args.pairs.now.items c.count_before-start.ensures refl

pub returns-then-len-limit : goal.returns-then-len-limit
returns-then-len-limit g c = take_full c.args.entries.now c.args.lo.now (option_copied c.args.hi) c.args.limit c.entries.i c.args.pairs.now.items c.entries.pairs.items c.entries.invariant (omega (arith, c.len.ensures, c.entries.pairs.ok.0, c.if-len-limit.true))

pub returns-then-not-is_before_end : goal.returns-then-not-is_before_end
returns-then-not-is_before_end g c = next_past c.args.entries.now c.args.lo.now (option_copied c.args.hi) c.args.limit c.entries.i c.args.pairs.now.items c.entries.pairs.items c.entries.invariant c.index-entries-i.result c.requires (omega (arith, c.entries-test.true)) c.index-entries-i.is (sym c.is_before_end.ensures ∙ c.if-not-is_before_end.true)

pub entries-preserved : goal.entries-preserved
entries-preserved g c =
    let e = c.index-entries-i.result in
    let pushed : (c.in_ok-key.key, c.in_ok-copy_value.field-0) ≡ e = λ i. (c.in_ok-key.ensures i, c.in_ok-copy_value.ensures i) in
    take_more c.args.entries.now c.args.lo.now (option_copied c.args.hi) c.args.limit c.entries.i c.args.pairs.now.items c.entries.pairs.items c.entries.invariant e c.requires (omega (arith, c.entries-test.true)) c.index-entries-i.is c.push.new.self.items
    (sym c.is_before_end.ensures ∙ c.if-not-is_before_end.false)
    (omega (arith, c.len.ensures, c.entries.pairs.ok.0, c.if-len-limit.false))
    (c.in_ok-push.ensures.items ∙ ap (λ (p : List ℕ × g.row.U-Value.Denot). c.entries.pairs.items ++ p ∷ []) pushed)

pub returns : goal.returns
returns g c = take_all c.args.entries.now c.args.lo.now (option_copied c.args.hi) c.args.limit c.entries.i c.args.pairs.now.items c.entries.pairs.items c.entries.invariant (omega (arith, c.entries-test.false))
