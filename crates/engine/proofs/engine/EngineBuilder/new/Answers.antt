use Rattle.engine.proofs.Moves.{begins}
use Rattle.engine.proofs.engine.EngineBuilder.new.Goals as goal

pub of_words-requires : goal.of_words-requires
of_words-requires c = begins _ c.assert_invariant.ensures
