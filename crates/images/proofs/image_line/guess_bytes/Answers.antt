use Rattle.std.proofs.Common.{rules, sym, ap, subst, ◌∙◌, Some}
use Rattle.std.proofs.lemmas.Bool.{iff_false}
use Rattle.reference.specs.ImageLines.{IsBlock}
use Rattle.images.proofs.ImageLineFacts.{bytes_spelled, bytes_not_refused}
use Rattle.images.proofs.image_line.guess_bytes.Goals as goal

pub returns-then-not-is_block-clause-complete : goal.returns-then-not-is_block-clause-complete
returns-then-not-is_block-clause-complete c = λ b is e. absurd (iff_false c.is_block.ensures (search rules) (subst IsBlock (sym (c.as_slice.ensures.value ∙ bytes_spelled c.args.word.now b c.in-Ok.bytes.items c.in-Ok.ensures.ok is e)) is))

pub returns-in_ok-from_vec-in-Ok-clause-complete : goal.returns-in_ok-from_vec-in-Ok-clause-complete
returns-in_ok-from_vec-in-Ok-clause-complete c = λ b is e. ap Some (c.in_ok-from_vec-in-Ok.ensures.ok ∙ bytes_spelled c.args.word.now b c.in-Ok.bytes.items c.in-Ok.ensures.ok is e)

pub returns-else-eq-clause-complete : goal.returns-else-eq-clause-complete
returns-else-eq-clause-complete c = λ b is e. absurd (bytes_not_refused c.args.word.now b c.in-Err.error c.in-Err.ensures.err (search rules) is e)
