use Rattle.delta.proofs.BadFacts.{lacks_command, lacks_line}
use Rattle.delta.proofs.reading.next_command.Goals as goal

pub returns-in_default : goal.returns-in_default
returns-in_default c = lacks_line c.args.text.now c.in_default.ensures

pub returns-in-None : goal.returns-in-None
returns-in-None c = lacks_command c.args.text.now c.in-Some.line.now c.in-Some.behind.now c.in-Some.ensures.0 c.in-Some.ensures.1 c.in-None.ensures
