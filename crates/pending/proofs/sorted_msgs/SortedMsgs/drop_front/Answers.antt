use Rattle.std.proofs.Common.{◌≡◌, ◌+◌, ◌-◌, ◌<◌, ◌≤◌, ◌++◌, ap, sym, ◌∙◌, List, length, drop, arith, length-drop}
use Rattle.std.proofs.lemmas.List.{drop-map, drop-drop}
use Rattle.message.specs.declared.msg.Msg.{Msg}
use Rattle.message.specs.declared.msg.Msg.TheVariants.{DelRange}
use Rattle.point_ops.specs.PointOps.{left, point_msgs}
use Rattle.range_set.specs.Disjoint.{Span, range_msgs}
use Rattle.message.proofs.Condensing.{drop_parts}
use Rattle.pending.proofs.Meaning.{length-ranges, length-sorted}
use Rattle.point_ops.proofs.Parting.{counted_left, msgs_left}
use Rattle.pending.proofs.Runs.{length-points}
use Rattle.pending.proofs.sorted_msgs.SortedMsgs.drop_front.Goals as goal

pub overflow_add-self-inside : goal.overflow_add-self-inside
overflow_add-self-inside g c =
    let es = c.self.inside.points in
    omega (arith, c.requires, c.min-first.ensures, c.len.ensures.len, c.len.ensures.small, c.len-2.ensures, counted_left c.self.inside.consumed es c.self.invariant.some, length-sorted c.self.inside.ranges (left c.self.inside.consumed es), ap length c.self.view_is)

pub drop_oldest-self-inside-requires : goal.drop_oldest-self-inside-requires
drop_oldest-self-inside-requires g c =
    let es = c.self.inside.points in
    omega (arith, c.requires, c.min-first.ensures, c.len-2.ensures, counted_left c.self.inside.consumed es c.self.invariant.some, length-sorted c.self.inside.ranges (left c.self.inside.consumed es), ap length c.self.view_is)

pub invariant_of-self : goal.invariant_of-self
invariant_of-self g c =
    let es = c.self.inside.points in
    let fs = c.drop_oldest-self-inside.new.self in
    record {
      some = c.drop_oldest-self-inside.ensures.left;
      small = omega (arith, c.self.invariant.small, counted_left c.self.inside.consumed es c.self.invariant.some, length-points es, length-points (left c.drop_oldest-self-inside.result fs), ap length c.drop_oldest-self-inside.ensures.same, length-drop (c.self.inside.consumed + (c.args.count - c.min-first.result)) (point_msgs es), ap length c.drop_front.ensures, length-drop c.min-first.result c.self.inside.ranges);
    }

pub returns : goal.returns
returns g c =
    let n = c.args.count in
    let k = c.min-first.result in
    let rs = c.self.inside.ranges in
    let es = c.self.inside.points in
    let consumed = c.self.inside.consumed in
    let xs : List (Msg g.row.U.Denot g.row.U-Value.Denot) = range_msgs rs in
    let ys : List (Msg g.row.U.Denot g.row.U-Value.Denot) = point_msgs (left consumed es) in
    let most : k ≤ n = omega (arith, c.min-first.ensures) in
    let ranges = length-ranges g.row.U.Denot g.row.U-Value.Denot rs in
    let fits : k ≤ length xs = omega (arith, c.min-first.ensures, c.len-2.ensures, ranges) in
    let all : k < n → length xs ≤ k = λ h. omega (arith, h, c.min-first.ensures, c.len-2.ensures, ranges) in
    let front : range_msgs {U = g.row.U.Denot} {V = g.row.U-Value.Denot} c.drop_front.new.self ≡ drop k xs = ap (λ t. range_msgs t) c.drop_front.ensures ∙ sym (drop-map (λ (e : Span). DelRange (record { lo = e.0; hi = e.1 })) k rs) in
    let rest = point_msgs (left c.drop_oldest-self-inside.result c.drop_oldest-self-inside.new.self) in
    let back : rest ≡ drop (n - k) ys = c.drop_oldest-self-inside.ensures.same ∙ sym (drop-drop (n - k) consumed (point_msgs es)) ∙ ap (λ t. drop (n - k) t) (sym (msgs_left consumed es c.self.invariant.some)) in
    ap (λ t. t ++ rest) front ∙ ap (λ t. drop k xs ++ t) back ∙ drop_parts n k xs ys most fits all ∙ ap (λ ms. drop n ms) c.self.view_is
