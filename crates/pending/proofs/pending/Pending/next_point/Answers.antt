use Rattle.std.proofs.Common.{◌++◌, ap, sym, ◌∙◌, subst, Some, None}
use Rattle.std.specs.Option.{option_copied}
use Rattle.pathkey.specs.Keys.{is_below}
use Rattle.message.specs.PointKeys.{IsNextPoint}
use Rattle.message.proofs.PointKeys.{stop_then, next_some, next_none, below_past}
use Rattle.pending.proofs.pending.Pending.next_point.Goals as goal

pub returns-in_default : goal.returns-in_default
returns-in_default g c =
    let from = c.args.from.now in
    let end = option_copied c.args.end in
    let stop = option_copied c.next_point.result in
    let both = stop_then c.self.inside.sorted c.self.inside.tail_msgs.0 from end (option_copied c.next_point-stop.result) stop c.next_point-stop.ensures c.next_point.ensures in
    subst (λ ms. IsNextPoint ms from end None) (ap (λ p. p.0) c.self.view_is) (next_none (c.self.inside.sorted ++ c.self.inside.tail_msgs.0) from end stop both (λ k h. ap (λ o. is_below k (option_copied o)) c.in_default.is))

pub returns-then-not-is_before_end : goal.returns-then-not-is_before_end
returns-then-not-is_before_end g c =
    let from = c.args.from.now in
    let end = option_copied c.args.end in
    let stop = option_copied c.next_point.result in
    let both = stop_then c.self.inside.sorted c.self.inside.tail_msgs.0 from end (option_copied c.next_point-stop.result) stop c.next_point-stop.ensures c.next_point.ensures in
    let past = sym c.is_before_end.ensures ∙ c.if-not-is_before_end.true in
    subst (λ ms. IsNextPoint ms from end None) (ap (λ p. p.0) c.self.view_is) (next_none (c.self.inside.sorted ++ c.self.inside.tail_msgs.0) from end stop both (λ k h. ap (λ o. is_below k (option_copied o)) c.in-Some.is ∙ below_past c.in-Some.key.now k end past h))

pub returns : goal.returns
returns g c =
    let from = c.args.from.now in
    let end = option_copied c.args.end in
    let stop = option_copied c.next_point.result in
    let q = c.in-Some.key.now in
    let both = stop_then c.self.inside.sorted c.self.inside.tail_msgs.0 from end (option_copied c.next_point-stop.result) stop c.next_point-stop.ensures c.next_point.ensures in
    let low = sym c.is_before_end.ensures ∙ c.if-not-is_before_end.false in
    subst (λ ms. IsNextPoint ms from end (Some q)) (ap (λ p. p.0) c.self.view_is) (next_some (c.self.inside.sorted ++ c.self.inside.tail_msgs.0) from end stop q both (ap option_copied c.in-Some.is) low)
