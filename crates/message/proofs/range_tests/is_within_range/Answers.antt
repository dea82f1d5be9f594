use Rattle.std.proofs.Common.{◌∙◌, sym}
use Rattle.std.specs.Option.{option_copied}
use Rattle.message.specs.Ranges.{ends_within, reaches}
use Rattle.message.proofs.RangeEnds.{later_same, first_end}
use Rattle.message.proofs.KeyOrder.{both}
use Rattle.message.proofs.range_tests.is_within_range.Goals as goal

pub returns-then-is_before_end-clause-low : goal.returns-then-is_before_end-clause-low
returns-then-is_before_end-clause-low c h =
    let lies = both (reaches c.args.lo.now c.args.low.now) (ends_within (option_copied c.args.high) (option_copied c.args.hi)) (sym c.covers_range.ensures ∙ h) in
    later_same c.args.lo.now c.args.low.now lies.0

pub returns-then-is_before_end-clause-high : goal.returns-then-is_before_end-clause-high
returns-then-is_before_end-clause-high c h =
    let lies = both (reaches c.args.lo.now c.args.low.now) (ends_within (option_copied c.args.high) (option_copied c.args.hi)) (sym c.covers_range.ensures ∙ h) in
    first_end (option_copied c.args.high) (option_copied c.args.hi) lies.1
