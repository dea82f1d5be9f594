use Rattle.std.proofs.Common.{◌∙◌}
use Rattle.pathkey.proofs.PathFacts.{under_by_keys}
use Rattle.pathkey.proofs.path.Path.is_under.Goals as goal

pub returns : goal.returns
returns c =
    under_by_keys _ _ _ _ _ c.key-2.ensures.valid.names c.key.ensures.valid.names
    (c.as_bytes-2.ensures ∙ c.key-2.ensures.value) (c.as_bytes.ensures ∙ c.key.ensures.value) c.starts_with.ensures.value
