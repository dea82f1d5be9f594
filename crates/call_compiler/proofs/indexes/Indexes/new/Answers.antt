use Rattle.call_compiler.proofs.Appending.{empty_meant}
use Rattle.call_compiler.proofs.indexes.Indexes.new.Goals as goal

pub returns-clause-empty : goal.returns-clause-empty
returns-clause-empty c = empty_meant c.in_ok-meta.meta c.in_ok-block.block c.in_ok-meta.ensures.empty c.in_ok-block.ensures.empty
