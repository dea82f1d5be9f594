use Rattle.std.proofs.Common.{◌≡◌, [], drop}
use Rattle.attributes.specs.Attributes.{assert_invariant}
use Rattle.attributes.proofs.record.assert_invariant.Given as goal

abbrev pub invariant-loop-one : goal.invariant-loop-one
invariant-loop-one l = assert_invariant l.last (drop l.one-index l.attributes) ≡ assert_invariant [] l.attributes
