use Rattle.textio.proofs.WordFacts.{one_word, cut_at_space}
use Rattle.textio.proofs.words.split_word.Goals as goal

pub returns-in_err-end : goal.returns-in_err-end
returns-in_err-end c = rw c.from_residual.ensures (one_word _ c.in_err-end.ensures)

pub returns : goal.returns
returns c = cut_at_space _ _ _ _ c.in_ok-end.ensures.0 c.in_ok-end.ensures.1 c.in_ok-end.ensures.2 c.split_at.ensures.front c.split_at.ensures.back
