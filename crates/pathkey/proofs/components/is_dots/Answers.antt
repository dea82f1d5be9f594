use Rattle.pathkey.proofs.ComponentFacts.{is_dots_long}
use Rattle.std.proofs.Common.{sym}
use Rattle.pathkey.proofs.components.is_dots.Goals as goal

pub returns-in_default-5 : goal.returns-in_default-5
returns-in_default-5 c = sym (is_dots_long c.args.component.now c.in_default.len_at_least)
