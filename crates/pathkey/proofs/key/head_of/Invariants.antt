use Rattle.pathkey.proofs.HeadFacts.{IsReadTo}
use Rattle.pathkey.proofs.key.head_of.Given as goal

abbrev pub invariant-loop-index : goal.invariant-loop-index
invariant-loop-index l = IsReadTo l.index l.bytes l.head
