use Rattle.std.proofs.Common.{rules}
use Rattle.images.specs.Image.{version_of}
use Rattle.images.proofs.ImageLineFacts.{no_space_no_line, other_letter}
use Rattle.images.proofs.image_line.parse_unchecked_line.Goals as goal

pub returns-in_default : goal.returns-in_default
returns-in_default c = no_space_no_line (version_of c.args.version) c.args.text.now c.in_default.ensures

pub returns : goal.returns
returns c = other_letter (version_of c.args.version) c.args.text.now c.in-Some.kind.now c.in-Some.rest.now (record { is = c.in-Some.ensures.0; first = c.in-Some.ensures.1 }) (search rules) (search rules) (search rules)
