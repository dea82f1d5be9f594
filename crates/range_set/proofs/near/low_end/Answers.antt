use Rattle.std.proofs.Common.{ap, sym, ◌∙◌, Some}
use Rattle.message.specs.Ranges.{ends_within}
use Rattle.range_set.proofs.Last.{before_key_is}
use Rattle.range_set.proofs.Widening.{low_found, low_before, low_none}
use Rattle.range_set.proofs.near.low_end.Goals as goal

pub returns-in_default : goal.returns-in_default
returns-in_default c = low_none c.args.ranges.now c.args.key.now (c.in_default.ensures ∙ before_key_is c.args.key.now c.args.ranges.now c.requires) c.requires

pub returns-then-ends_by : goal.returns-then-ends_by
returns-then-ends_by c =
    let k = c.args.key.now in
    low_found c.args.ranges.now k (c.in-Some.low.now, c.in-Some.high.now) (c.in-Some.ensures ∙ before_key_is k c.args.ranges.now c.requires) c.requires (sym (c.ends_by.ensures ∙ ap (λ b. ends_within (Some k) b) c.as_ref.ensures.value) ∙ c.if-ends_by.true)

pub returns-else-ends_by : goal.returns-else-ends_by
returns-else-ends_by c =
    let k = c.args.key.now in
    low_before c.args.ranges.now k (c.in-Some.low.now, c.in-Some.high.now) (c.in-Some.ensures ∙ before_key_is k c.args.ranges.now c.requires) c.requires (sym (c.ends_by.ensures ∙ ap (λ b. ends_within (Some k) b) c.as_ref.ensures.value) ∙ c.if-ends_by.false)
