use Rattle.std.proofs.Common.{◌≡◌, ◌∙◌, true, rules}
use Rattle.std.specs.List.{list_all}
use Rattle.std.specs.Char.{is_ascii_digit}
use Rattle.textio.proofs.ValueFacts.{digits_utf8, number_parsed}
use Rattle.textio.proofs.values.read_long_number.Goals as goal

pub returns-in-Ok : goal.returns-in-Ok
returns-in-Ok c =
    let digits : list_all is_ascii_digit c.args.digits.now ≡ true = search rules in
    let parses = rw c.in-Ok.ensures.cases.0 at c.parse.ensures.value.0 in
    c.ok.ensures.value ∙ number_parsed c.args.digits.now c.parse.result c.requires digits parses

pub returns-in-Err : goal.returns-in-Err
returns-in-Err c =
    let digits : list_all is_ascii_digit c.args.digits.now ≡ true = search rules in
    absurd (c.in-Err.ensures.cases.0 (digits_utf8 c.args.digits.now digits))
