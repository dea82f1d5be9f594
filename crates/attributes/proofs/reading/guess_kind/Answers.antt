use Rattle.std.proofs.Common.{codes, ◌∙◌}
use Rattle.attributes.specs.Text.{kind_text}
use Rattle.attributes.proofs.ReadFacts.{free_kind, line_grouped}
use Rattle.attributes.proofs.reading.guess_kind.Goals as goal

pub returns : goal.returns
returns c = λ k rest few e.
    let parts = c.value_of.ensures (kind_text k) rest (free_kind k few) (e ∙ line_grouped (codes "kind ") (kind_text k) rest) in
    let split = c.split_kind-number.ensures k few parts.0 in
    (c.kind_of.ensures k split.0 split.1, parts.1)
