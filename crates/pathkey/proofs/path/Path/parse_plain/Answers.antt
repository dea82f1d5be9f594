use Rattle.std.proofs.Common.{◌∙◌, sym, ap, Ok}
use Rattle.pathkey.proofs.PlainFacts.{PlainKey, plain_key}
use Rattle.pathkey.proofs.path.Path.parse_plain.Goals as goal
use Rattle.pathkey.proofs.path.Path.parse_plain.Goals.{In_ok-key}

made : (c : In_ok-key) → PlainKey c.args.text.now c.in_ok-key.key
made c =
    let cut = c.in-Some-eq47-default in
    plain_key _ _ _ _ cut.ensures.cases.0 cut.field-0-0-test c.if-text-gt-LONGEST_NAME.false (sym c.are_plain.ensures ∙ c.if-not-are_plain.false)
    c.in_ok-key.ensures c.type_inv.text

pub of_key-requires : goal.of_key-requires
of_key-requires c = (made (goal.at.of_key-requires c).In_ok-key).is_key

pub returns : goal.returns
returns c =
    let key = made (goal.at.returns c).In_ok-key in
    (key.plain, ap Ok c.of_key.ensures ∙ sym key.read)
