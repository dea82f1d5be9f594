use Rattle.std.proofs.Common.{sym, ◌∙◌}
use Rattle.edits.proofs.WordFacts.{decoded_digest, digest_guessed, digest_refused, not_same}
use Rattle.edits.proofs.guess.guess_digest.Goals as goal

pub returns-in_default-clause-complete : goal.returns-in_default-clause-complete
returns-in_default-clause-complete c =
    digest_refused c.args.word.now c.decode_to_slice.new.out c.decode_to_slice.result c.decode_to_slice.ensures.value
    (λ e. not_same c.args.word.now c.as_slice.result.now (sym c.eq.ensures ∙ c.if-eq.false) (e ∙ sym c.as_slice.ensures)) c.in_default.field-0 c.in_default.is

pub returns-clause-valid : goal.returns-clause-valid
returns-clause-valid c = decoded_digest c.args.word.now c.decode_to_slice.new.out c.decode_to_slice.result c.decode_to_slice.ensures.value c.in-Ok.is

pub returns-clause-complete : goal.returns-clause-complete
returns-clause-complete c =
    digest_guessed c.args.word.now c.decode_to_slice.new.out c.decode_to_slice.result c.decode_to_slice.ensures.value
    (λ e. not_same c.args.word.now c.as_slice.result.now (sym c.eq.ensures ∙ c.if-eq.false) (e ∙ sym c.as_slice.ensures))
