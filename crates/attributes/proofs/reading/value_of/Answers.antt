use Rattle.attributes.proofs.ReadFacts.{cut_value, never_cut}
use Rattle.attributes.proofs.reading.value_of.Goals as goal

pub returns-in-Some : goal.returns-in-Some
returns-in-Some c = λ value rest free e. cut_value c.behind.result.now c.in-Some.cut.0.now c.in-Some.cut.1.now value rest c.in-Some.ensures.0 c.in-Some.ensures.1 free (c.behind.ensures _ e)

pub returns-in-None : goal.returns-in-None
returns-in-None c = λ value rest free e. absurd (never_cut 10 c.behind.result.now value rest c.in-None.ensures (c.behind.ensures _ e))
