use Rattle.std.proofs.Common.{◌≡◌, ◌++◌, ap, ◌∙◌, subst}
use Rattle.std.specs.Option.{option_copied}
use Rattle.message.specs.PointKeys.{IsPointStop}
use Rattle.message.proofs.PointKeys.{stop_then}
use Rattle.pending.proofs.tail.Tail.next_point.Goals as goal

pub returns : goal.returns
returns g c =
    let from = c.args.from.now in
    let end = option_copied c.args.end in
    let xs = c.as_slices.result.0.now in
    let ys = c.as_slices.result.1.now in
    let stop = option_copied c.next_point.result in
    let whole : xs ++ ys ≡ c.args.self.now.0 = c.as_slices.ensures.items ∙ ap (λ p. p.0) c.self.view_is in
    subst (λ ms. IsPointStop ms from end stop) whole (stop_then xs ys from end (option_copied c.next_point-stop.result) stop c.next_point-stop.ensures c.next_point.ensures)
