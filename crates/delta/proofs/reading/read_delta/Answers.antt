use Rattle.std.proofs.Common.{◌++◌, ◌∷◌, ◌∙◌, ap}
use Rattle.delta.proofs.BadFacts.{bad_end, bad_heading, bad_start, read_all}
use Rattle.delta.proofs.reading.read_delta.Goals as goal

pub returns-in_default : goal.returns-in_default
returns-in_default c = bad_start c.args.text.now c.in_default.ensures

pub returns-in_default-read_header : goal.returns-in_default-read_header
returns-in_default-read_header c = bad_heading c.args.text.now c.in-Some.line.now c.in-Some.behind.now c.in-Some.ensures.0 c.in-Some.ensures.1 c.in_default-read_header.ensures

pub returns-in-Ok : goal.returns-in-Ok
returns-in-Ok c =
    let (cs, passed, count) = c.pass_commands-number.ensures.passes in
    let (sum, heading) = c.in-Some-read_header.ensures in
    (cs, read_all _ cs c.args.text.now c.in-Some.behind.now _ sum (c.in-Some.ensures.0 ∙ ap (λ l. l ++ 10 ∷ c.in-Some.behind.now) heading) passed c.in-Ok.ensures)

pub returns-in-Err : goal.returns-in-Err
returns-in-Err c =
    let (cs, passed, count) = c.pass_commands-number.ensures.passes in
    let (sum, heading) = c.in-Some-read_header.ensures in
    bad_end _ cs c.args.text.now c.in-Some.behind.now _ _ c.in-Err.bad sum (c.in-Some.ensures.0 ∙ ap (λ l. l ++ 10 ∷ c.in-Some.behind.now) heading) passed c.pass_commands-number.ensures.last count c.in-Err.ensures
