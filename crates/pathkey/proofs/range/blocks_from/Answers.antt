use Rattle.std.proofs.Common.{◌∙◌}
use Rattle.pathkey.specs.Keys.{blocks_from}
use Rattle.pathkey.proofs.range.blocks_from.Goals as goal

pub returns : goal.returns
unfolding blocks_from
returns c = let key = c.as_bytes.ensures ∙ c.key.ensures.value in rw (c.in_ok-hi.ensures, c.in_ok-lo.ensures, key)
