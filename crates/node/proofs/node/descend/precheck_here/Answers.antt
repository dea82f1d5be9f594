use Rattle.std.proofs.Common.{sym, ◌∙◌}
use Rattle.std.specs.Option.{option_copied}
use Rattle.node.proofs.node.descend.precheck_here.Goals as goal

pub returns : goal.returns
returns g c =
    let able = sym c.applies.ensures ∙ c.if-not-applies.false in
    (able, λ h lo l. c.has_room.ensures.yes c.if-not-has_room.false h lo (option_copied c.args.hi) l able)
