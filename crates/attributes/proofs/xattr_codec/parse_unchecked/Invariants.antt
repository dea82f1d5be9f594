use Rattle.std.proofs.Common.{◌≡◌, List, [], length, true}
use Rattle.attributes.specs.declared.record.ExtendedAttribute.{ExtendedAttribute}
use Rattle.attributes.specs.Attributes.{may_stand, assert_invariant}
use Rattle.attributes.specs.Packed.{packed, packed_one}
use Rattle.attributes.proofs.ReadFacts.{Continues}
use Rattle.attributes.proofs.xattr_codec.parse_unchecked.Given as goal

abbrev pub invariant-loop-name : goal.invariant-loop-name
invariant-loop-name l = (es : List ExtendedAttribute) → assert_invariant [] es ≡ true → l.bytes ≡ packed es → Continues (λ e. may_stand e ≡ true) packed_one es l.extended l.rest

abbrev pub decreases-loop-name : goal.decreases-loop-name
decreases-loop-name l = length l.rest
