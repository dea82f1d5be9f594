use Rattle.std.proofs.Common.{◌∙◌}
use Rattle.point_ops.proofs.Updates.{edit_in}
use Rattle.point_ops.proofs.key_ops.KeyOps.into_update.Goals as goal

pub unreachable-requires : goal.unreachable-requires
unreachable-requires g c = edit_in c.self.inside.waits c.requires.0 (c.self.view_is ∙ c.requires.1) c.in_default.not-Edit c.in_default.not-Edits
