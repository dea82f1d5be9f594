use Rattle.std.proofs.Common.{◌∙◌, ap, sym}
use Rattle.point_ops.specs.Changes.{is_whole}
use Rattle.point_ops.proofs.Updates.{asks_in}
use Rattle.point_ops.proofs.key_ops.KeyOps.resolve.Goals as goal

pub returns-then-not-is_covered-clause-base : goal.returns-then-not-is_covered-clause-base
returns-then-not-is_covered-clause-base g c = λ e. (sym (asks_in c.self.inside.waits c.in-Edit.is ∙ ap (λ t. is_whole t) c.self.view_is), c.if-not-is_covered.true)
