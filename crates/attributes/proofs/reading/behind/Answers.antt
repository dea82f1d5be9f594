use Rattle.std.proofs.Common.{eqb}
use Rattle.std.proofs.lemmas.Slice.Eq.{strip_prefix_is}
use Rattle.std.proofs.lemmas.Option.{MatchOption-at_none}
use Rattle.std.proofs.lemmas.Bool.Decides.{Decides-eqb}
use Rattle.attributes.proofs.reading.behind.Goals as goal

pub returns-in-None : goal.returns-in-None
returns-in-None c = λ rest e. absurd (MatchOption-at_none _ _ c.in-None.is (strip_prefix_is {E = eqb} Decides-eqb _ _ _ c.strip_prefix.ensures.cases) rest e)
