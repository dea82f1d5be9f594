use Rattle.std.proofs.Common.{List, ◌∙◌, subst}
use Rattle.engine.specs.Histories.{Entry}
use Rattle.engine.specs.Ends.{Agrees}
use Rattle.engine.proofs.Totals.{agree-snoc}
use Rattle.engine.proofs.engine.assert_all_prefixes.Goals as goal

pub loop-client-preserved : goal.loop-client-preserved
loop-client-preserved g c =
    let i = c.loop-client.invariant in
    (c.assert_prefix.ensures.same ∙ i.0, agree-snoc _ _ _ i.1 (subst (λ (l : List Entry). Agrees l c.in-Some.client) i.0 c.assert_prefix.ensures.agrees))
