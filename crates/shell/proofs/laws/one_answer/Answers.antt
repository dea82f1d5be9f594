use Rattle.textio.specs.Lines.{lines_of}
use Rattle.shell.proofs.OneAnswer.{answered_once}
use Rattle.shell.proofs.laws.one_answer.Goals as goal

pub returns : goal.returns
returns c = λ w text. answered_once w (lines_of text)
