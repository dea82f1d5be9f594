use Rattle.std.proofs.Common.{◌≡◌, List, length, flat_map}
use Rattle.std.specs.List.{AllByRecursion}
use Rattle.attributes.specs.declared.record.ExtendedAttribute.{ExtendedAttribute}
use Rattle.attributes.specs.Attributes.{AreBytesOf}
use Rattle.attributes.specs.Text.{extended_line}
use Rattle.attributes.proofs.ReadFacts.{Continues}
use Rattle.attributes.proofs.reading.guess_extended.Given as goal

abbrev pub invariant-loop-line : goal.invariant-loop-line
invariant-loop-line l = (es : List ExtendedAttribute) → AllByRecursion AreBytesOf es → l.text ≡ flat_map extended_line es → Continues AreBytesOf extended_line es l.extended l.rest

abbrev pub decreases-loop-line : goal.decreases-loop-line
decreases-loop-line l = length l.rest
