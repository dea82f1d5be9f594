use Rattle.std.proofs.Common.{◌∙◌}
use Rattle.attributes.proofs.ReadFacts.{never_cut, words_cut, words_grouped}
use Rattle.attributes.proofs.reading.words_of.Goals as goal

pub returns-in-Some : goal.returns-in-Some
returns-in-Some c = λ e is. words_cut c.behind.result.now c.in-Some.cut.0.now c.in-Some.cut.1.now e c.in-Some.ensures.0 c.in-Some.ensures.1 (c.behind.ensures _ (is ∙ words_grouped e))

pub returns-in-None : goal.returns-in-None
returns-in-None c = λ e is. absurd (never_cut 32 c.behind.result.now _ _ c.in-None.ensures (c.behind.ensures _ (is ∙ words_grouped e)))
