use Rattle.std.proofs.Common.{ap, ◌∙◌}
use Rattle.percent_encoding.specs.Percent.{percent_decode}
use Rattle.textio.proofs.Written.{name_reported}
use Rattle.attributes.proofs.ReadFacts.{same_extended}
use Rattle.attributes.proofs.reading.guess_one.Goals as goal

pub returns : goal.returns
returns c = λ e bytes is.
    let words = c.words_of.ensures e is in
    same_extended e _ _ (c.in_ok-name.ensures ∙ ap percent_decode words.0 ∙ name_reported e.name bytes.0) (c.in_ok-value.ensures e.value bytes.1 words.1)
