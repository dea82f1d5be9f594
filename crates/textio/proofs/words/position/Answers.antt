use Rattle.textio.proofs.WordFacts.{first_place}
use Rattle.textio.proofs.words.position.Goals as goal

pub returns : goal.returns
returns c = first_place c.args.wanted c.args.text.now c.memchr.result c.memchr.ensures
