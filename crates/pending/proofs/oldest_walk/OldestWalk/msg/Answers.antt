use Rattle.std.proofs.Common.{ap, sym, ◌∙◌, Some, arith}
use Rattle.std.specs.List.{slice_get}
use Rattle.point_ops.specs.KeyOps.{borrowed_change}
use Rattle.point_ops.specs.PointOps.{point_msgs}
use Rattle.pending.specs.OldestWalk.{first_len}
use Rattle.pending.proofs.Walking.{first_length, first_msg, none_first}
use Rattle.pending.proofs.oldest_walk.OldestWalk.msg.Goals as goal

pub unreachable-requires : goal.unreachable-requires
unreachable-requires g c = absurd (omega (arith, none_first c.self.inside.rest c.in_default.ensures, ap (λ t. first_len t) c.self.view_is, c.requires))

pub op_at-requires : goal.op_at-requires
op_at-requires g c = omega (arith, first_length c.self.inside.rest c.in-Some.key.now c.in-Some.run'.now c.in-Some.ensures, ap (λ t. first_len t) c.self.view_is, c.requires)

pub returns : goal.returns
returns g c =
    sym (ap (λ t. slice_get (point_msgs t) c.args.older) c.self.view_is)
    ∙ first_msg c.self.inside.rest c.args.older c.in-Some.key.now c.in-Some.run'.now (borrowed_change c.op_at.result) c.in-Some.ensures c.op_at.ensures
    ∙ ap (λ m. Some m) (sym c.at.ensures)
