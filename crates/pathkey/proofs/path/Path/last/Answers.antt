use Rattle.std.proofs.Common.{◌∙◌, ap, sym}
use Rattle.pathkey.specs.Names.{last_name}
use Rattle.pathkey.proofs.PathFacts.{last_of_key}
use Rattle.pathkey.proofs.path.Path.last.Goals as goal

pub returns : goal.returns
returns c =
    last_of_key _ _ _ _ c.self.invariant (sym c.as_bytes.ensures ∙ c.in_ok-names.ensures.cases.0) c.after_last.ensures ∙ ap last_name c.self.view_is
