use Rattle.std.proofs.Common.{◌∙◌}
use Rattle.pathkey.specs.Keys.{block_key}
use Rattle.pathkey.proofs.encode.block_key.Goals as goal

pub returns : goal.returns
unfolding block_key
returns c = let key = c.as_bytes.ensures ∙ c.key.ensures.value in rw (c.to_be_bytes.ensures, key) at c.joined.ensures
