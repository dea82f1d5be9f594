use Rattle.std.proofs.Common.{sym}
use Rattle.textio.proofs.WordFacts.{no_sign, cut_at_first_sign}
use Rattle.textio.proofs.words.split_at_sign.Goals as goal

pub returns-in_err-end : goal.returns-in_err-end
returns-in_err-end c = rw c.from_residual.ensures (sym (no_sign _ c.in_err-end.ensures))

pub returns : goal.returns
returns c = cut_at_first_sign _ _ _ _ c.in_ok-end.ensures.0 c.in_ok-end.ensures.1 c.in_ok-end.ensures.2 c.split_at.ensures.front c.split_at.ensures.back
