use Rattle.std.proofs.Common.{◌≡◌, ◌∙◌, sym, inl, true, Ok}
use Rattle.pathkey.specs.Texts.{parsed}
use Rattle.pathkey.specs.PlainTexts.{is_plain}
use Rattle.textio.proofs.ValueFacts.{plain_path}
use Rattle.textio.proofs.values.read_path.Goals as goal

pub returns-in-Ok-Some : goal.returns-in-Ok-Some
returns-in-Ok-Some c =
    let read : (is_plain c.args.word.now ≡ true) × (Ok c.in-Ok-Some.path ≡ parsed c.args.word.now) = rw c.in-Ok-Some.field-0-is at c.in-Ok-Some.ensures in
    inl (read.1 ∙ sym (plain_path c.args.word.now read.0))
