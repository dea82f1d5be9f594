use Rattle.std.proofs.Common.{◌≡◌, ◌∙◌, ap, sym, subst, drop, []}
use Rattle.std.specs.Option.{option_copied}
use Rattle.message.specs.Cuts.{pieces}
use Rattle.message.specs.Effects.{Takes}
use Rattle.message.proofs.Cutting.{cut_up_to}
use Rattle.message.proofs.Lists.{takes-append}
use Rattle.pending.proofs.pending.Pending.copy_between.Goals as goal

pub returns : goal.returns
returns g c =
    let means = g.U.Update.means in
    let lo = c.args.lo.now in
    let hi = option_copied c.args.hi in
    let ms = c.drop_front.new.self.0 in
    let parts = pieces lo hi (drop c.args.consumed c.args.self.now.0) in
    let same : c.in_ok-list.list.0 ≡ parts = cut_up_to lo hi ms c.keep_before.new.self.0 c.in_ok-list.list.0 c.in_ok-keep_before.ensures c.in_ok-list.ensures.back ∙ ap (λ t. pieces lo hi t) (c.drop_front.ensures.messages ∙ ap (λ t. drop c.args.consumed t) c.in_ok-rest.ensures) in
    subst (λ t. Takes means [] parts t) (sym same) (takes-append means [] parts)
