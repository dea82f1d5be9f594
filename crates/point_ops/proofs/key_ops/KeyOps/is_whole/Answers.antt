use Rattle.std.proofs.Common.{◌∙◌, ap}
use Rattle.point_ops.specs.Changes.{is_whole}
use Rattle.point_ops.proofs.Updates.{asks_in}
use Rattle.point_ops.proofs.key_ops.KeyOps.is_whole.Goals as goal

pub returns-in-Edit-2-clause-whole : goal.returns-in-Edit-2-clause-whole
returns-in-Edit-2-clause-whole g c = asks_in c.self.inside.waits c.in-Edit.is ∙ ap (λ t. is_whole t) c.self.view_is
