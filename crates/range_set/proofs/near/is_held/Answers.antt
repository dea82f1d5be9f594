use Rattle.std.proofs.Common.{ap, sym, ◌∙◌}
use Rattle.std.specs.Option.{option_copied}
use Rattle.message.specs.Ranges.{ends_within}
use Rattle.range_set.proofs.Last.{by_key_is, held_by_last}
use Rattle.range_set.proofs.near.is_held.Goals as goal

pub returns-in-Some : goal.returns-in-Some
returns-in-Some c h =
    let rs = c.args.ranges.now in
    let hi = option_copied c.args.hi in
    held_by_last rs c.args.lo.now hi (c.in-Some.field-0-0.now, c.in-Some.high.now) (c.in-Some.ensures ∙ by_key_is c.args.lo.now rs c.requires) (sym (c.ends_by.ensures ∙ ap (λ b. ends_within hi b) c.as_ref.ensures.value) ∙ h)
