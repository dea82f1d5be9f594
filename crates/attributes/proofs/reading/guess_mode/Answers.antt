use Rattle.std.proofs.Common.{codes, ◌∙◌}
use Rattle.attributes.specs.Text.{octal}
use Rattle.attributes.proofs.ReadFacts.{free_octal, line_grouped}
use Rattle.attributes.proofs.reading.guess_mode.Goals as goal

pub returns : goal.returns
returns c = λ mode rest few e.
    let parts = c.value_of.ensures (octal mode) rest (free_octal mode) (e ∙ line_grouped (codes "mode ") (octal mode) rest) in
    (c.read_octal.ensures mode few parts.0, parts.1)
