use Rattle.std.proofs.Common.{ap, subst}
use Rattle.std.specs.Option.{option_copied}
use Rattle.std.proofs.lemmas.Result.{IfOk-weaker}
use Rattle.message.specs.PointKeys.{IsClearStretch}
use Rattle.message.proofs.PointKeys.{tail_stretch}
use Rattle.pending.proofs.pending.Pending.range_deleted_until.Goals as goal

pub returns : goal.returns
returns g c =
    let from = c.args.from.now in
    let end = option_copied c.args.end in
    let whole = ap (λ p. p.0) c.self.view_is in
    let first = option_copied c.range_deleted_until-first.result in
    IfOk-weaker c.stretch_stop.result _ (λ stop. IsClearStretch c.args.self.now.0 from end stop)
    (λ stop y. subst (λ ms. IsClearStretch ms from end stop) whole (tail_stretch c.self.inside.sorted c.self.inside.tail_msgs.0 from end first stop c.range_deleted_until-first.ensures y))
    c.stretch_stop.ensures
