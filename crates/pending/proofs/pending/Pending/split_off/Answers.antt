use Rattle.std.proofs.Common.{◌≡◌, ◌∙◌, ap, sym, subst, drop, [], Some, None}
use Rattle.message.specs.Cuts.{pieces}
use Rattle.message.specs.Effects.{Takes}
use Rattle.message.proofs.Cutting.{cut_twice}
use Rattle.message.proofs.Lists.{takes-append}
use Rattle.pending.proofs.pending.Pending.split_off.Goals as goal

pub returns-clause-front : goal.returns-clause-front
returns-clause-front g c =
    let means = g.U.Update.means in
    let lo = c.args.lo.now in
    let p = c.args.pivot.now in
    let still : c.move_tail_off.new.self ≡ c.args.self.now = rw c.in_default.is at c.in_ok-back.ensures.front in
    let all = drop c.args.consumed c.args.self.now.0 in
    let rest : c.drop_front.new.self.0 ≡ all = c.drop_front.ensures.messages ∙ ap (λ t. drop c.args.consumed t) (c.in_ok-rest.ensures ∙ ap (λ (t : _). t.0) still) in
    let parts = pieces lo (Some p) all in
    let same = c.in_ok-front-2.ensures.back ∙ ap (λ t. pieces lo None t) c.in_ok-front.ensures.front ∙ cut_twice lo p c.drop_front.new.self.0 ∙ ap (λ t. pieces lo (Some p) t) rest in
    subst (λ t. Takes means [] parts t) (sym same) (takes-append means [] parts)

pub returns-clause-back : goal.returns-clause-back
returns-clause-back g c =
    let means = g.U.Update.means in
    let p = c.args.pivot.now in
    let still : c.move_tail_off.new.self ≡ c.args.self.now = rw c.in_default.is at c.in_ok-back.ensures.front in
    let all = drop c.args.consumed c.args.self.now.0 in
    let rest : c.drop_front.new.self.0 ≡ all = c.drop_front.ensures.messages ∙ ap (λ t. drop c.args.consumed t) (c.in_ok-rest.ensures ∙ ap (λ (t : _). t.0) still) in
    let parts = pieces p None all in
    let same = c.in_ok-front.ensures.back ∙ ap (λ t. pieces p None t) rest in
    subst (λ t. Takes means [] parts t) (sym same) (takes-append means [] parts)
