use Rattle.std.proofs.Common.{◌∙◌}
use Rattle.point_ops.proofs.Updates.{put_in}
use Rattle.point_ops.proofs.key_ops.KeyOps.into_value.Goals as goal

pub unreachable-requires : goal.unreachable-requires
unreachable-requires g c = c.in_default.not-Put c.requires.0 (put_in c.self.inside.waits c.requires.0 (c.self.view_is ∙ c.requires.1))
