use Rattle.std.proofs.Common.{◌∷◌, [], arith, length-append}
use Rattle.delta.specs.Texts.{command_of}
use Rattle.delta.proofs.BadFacts.{few_commands, passes_more}
use Rattle.delta.proofs.reading.pass_commands.Goals as goal

pub overflow_add-number : goal.overflow_add-number
overflow_add-number c =
    let (cs, passed, count) = c.lines.invariant in
    let few = few_commands cs c.args.text.now c.lines.rest.now passed in
    omega (arith, few, count, c.well_formed.0.0)

pub lines-preserved : goal.lines-preserved
lines-preserved c =
    let (cs, passed, count) = c.lines.invariant in
    let parsed = command_of c.in-Some.field-0-1 c.in-Some.field-0-0.now in
    (_, passes_more cs c.args.text.now c.lines.rest.now c.in-Some.field-0-0.now c.in-Some.behind.now c.in-Some.field-0-1 passed c.in-Some.ensures, omega (arith, count, length-append cs (parsed ∷ [])))

pub returns-clause-fits : goal.returns-clause-fits
returns-clause-fits c =
    let (cs, passed, count) = c.lines.invariant in
    let few = few_commands cs c.args.text.now c.lines.rest.now passed in
    omega (arith, few, count, c.well_formed.0.0)
