use Rattle.std.proofs.Common.{sym, ◌∙◌, ap, arith, Some}
use Rattle.delta.proofs.NumberFacts.{no_number, not_zero, number_spelled}
use Rattle.delta.proofs.command.read_count.Goals as goal

pub returns-in_default : goal.returns-in_default
returns-in_default c = λ n some small e. no_number c.args.word.now n (sym c.in_default.is ∙ c.read_number.ensures) some small e

pub returns-then-number-eq0 : goal.returns-then-number-eq0
returns-then-number-eq0 c = λ n some small e. not_zero c.args.word.now n (ap Some (sym c.if-number-eq0.true) ∙ sym c.in-Some.is ∙ c.read_number.ensures) some small e

pub returns : goal.returns
returns c = (omega (arith, c.if-number-eq0.false), number_spelled c.args.word.now c.in-Some.number (sym c.read_number.ensures ∙ c.in-Some.is))
