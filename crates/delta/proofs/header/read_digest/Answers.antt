use Rattle.std.proofs.Common.{sym, ◌∙◌, ap}
use Rattle.hex.specs.Hex.{encode_lower}
use Rattle.delta.proofs.NumberFacts.{digest_decoded, digest_read, other_word, same_word}
use Rattle.delta.proofs.header.read_digest.Goals as goal

pub returns-in_default : goal.returns-in_default
returns-in_default c = λ digest is e.
    let parsed = digest_decoded c.args.word.now c.decode_to_slice.new.out digest c.decode_to_slice.result c.decode_to_slice.ensures.value is e in
    let ok = parsed.0 in
    let err = c.in_default.is in
    cc

pub returns-then-ne : goal.returns-then-ne
returns-then-ne c = λ digest is e.
    let parsed = digest_decoded c.args.word.now c.decode_to_slice.new.out digest c.decode_to_slice.result c.decode_to_slice.ensures.value is e in
    other_word c.args.word.now c.as_slice.result.now (sym c.if-ne.true ∙ c.ne.ensures) (e ∙ ap encode_lower (sym parsed.1) ∙ sym c.digits_of.ensures ∙ sym c.as_slice.ensures)

pub returns : goal.returns
returns c = (
  digest_read c.args.word.now c.decode_to_slice.new.out c.decode_to_slice.result c.decode_to_slice.ensures.value c.in-Ok.is,
  same_word c.args.word.now c.as_slice.result.now (sym c.if-ne.false ∙ c.ne.ensures) ∙ c.as_slice.ensures ∙ c.digits_of.ensures,
)
