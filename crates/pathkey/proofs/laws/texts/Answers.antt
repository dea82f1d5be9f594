use Rattle.pathkey.proofs.TextFacts.{read_back, only_texts}
use Rattle.pathkey.proofs.laws.texts.Goals as goal

pub returns : goal.returns
returns c = record { read_back = read_back; only_texts = only_texts }
