use Rattle.attributes.proofs.ReadFacts.{kind_split, kind_whole}
use Rattle.attributes.proofs.reading.split_kind.Goals as goal

pub returns-in-Some : goal.returns-in-Some
returns-in-Some c = λ k few e. kind_split c.args.words.now k c.in-Some.word.now c.in-Some.number.now c.read_number.result few e c.in-Some.ensures.0 c.in-Some.ensures.1 c.read_number.ensures

pub returns-in-None : goal.returns-in-None
returns-in-None c = λ k few e. kind_whole c.args.words.now k e c.in-None.ensures
