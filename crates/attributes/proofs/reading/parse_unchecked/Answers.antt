use Rattle.std.proofs.Common.{flat_map}
use Rattle.attributes.specs.Text.{extended_line}
use Rattle.attributes.proofs.ReadFacts.{no_m, same_attributes}
use Rattle.attributes.proofs.reading.parse_unchecked.Goals as goal

pub returns : goal.returns
returns c = λ b is e.
    let parts = c.guess_basic.ensures b.basic (flat_map extended_line b.extended) is.basic (no_m b.extended) e in
    same_attributes b _ _ parts.0 (c.in_ok-extended.ensures b.extended is.bytes parts.1)
