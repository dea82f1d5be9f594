use Rattle.reference.proofs.CallTrees.{call_law, fault_law, reading_law}
use Rattle.reference.proofs.NeverLacks.{never_lacks}
use Rattle.reference.proofs.Touching.{done_law}
use Rattle.reference.proofs.laws.trees.calls.Goals as goal

pub returns-clause-trees : goal.returns-clause-trees
returns-clause-trees c = call_law

pub returns-clause-faults : goal.returns-clause-faults
returns-clause-faults c = fault_law

pub returns-clause-reading : goal.returns-clause-reading
returns-clause-reading c = reading_law

pub returns-clause-memory : goal.returns-clause-memory
returns-clause-memory c = never_lacks

pub returns-clause-done : goal.returns-clause-done
returns-clause-done c = done_law
