use Rattle.delta.proofs.EditTexts.{one_text}
use Rattle.delta.proofs.laws.one_text.Goals as goal

pub returns : goal.returns
returns c = one_text
