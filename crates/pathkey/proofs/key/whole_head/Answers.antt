use Rattle.std.proofs.Common.{◌∙◌}
use Rattle.pathkey.proofs.HeadFacts.{eight}
use Rattle.pathkey.proofs.key.whole_head.Goals as goal

pub returns : goal.returns
returns c = c.from_be_bytes.ensures ∙ eight c.args.bytes.now
