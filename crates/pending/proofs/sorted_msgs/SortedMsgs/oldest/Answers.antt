use Rattle.std.proofs.Common.{ap, sym, ◌∙◌, Some}
use Rattle.std.specs.List.{slice_get}
use Rattle.message.specs.declared.msg.Msg.TheVariants.{DelRange}
use Rattle.point_ops.specs.PointOps.{left}
use Rattle.point_ops.specs.KeyOps.{borrowed_change}
use Rattle.pending.proofs.Meaning.{first_range, first_point, first_none}
use Rattle.pending.proofs.sorted_msgs.SortedMsgs.oldest.Goals as goal

pub returns-in-Some : goal.returns-in-Some
returns-in-Some g c =
    let low = c.in-Some.low.now in
    ap (λ h. Some (DelRange (record { lo = low; hi = h }))) c.as_ref.ensures.value
    ∙ first_range c.self.inside.ranges (left c.self.inside.consumed c.self.inside.points) low c.in-Some.high.now (sym c.in-Some.ensures)
    ∙ ap (λ ms. slice_get ms 0) c.self.view_is

pub returns-in-Some-first : goal.returns-in-Some-first
returns-in-Some-first g c =
    ap (λ m. Some m) c.at.ensures
    ∙ first_point c.self.inside.ranges c.self.inside.points c.self.inside.consumed c.in-Some-first.key.now c.in-Some-first.run'.now (borrowed_change c.op_at.result) c.in-None.ensures (sym c.in-Some-first.ensures) c.op_at.ensures
    ∙ ap (λ ms. slice_get ms 0) c.self.view_is

pub returns-in-None-first : goal.returns-in-None-first
returns-in-None-first g c = first_none c.self.inside.ranges c.self.inside.points c.self.inside.consumed c.in-None.ensures c.in-None-first.ensures ∙ ap (λ ms. slice_get ms 0) c.self.view_is
