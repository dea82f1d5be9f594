use Rattle.std.proofs.Common.{◌≡◌, ap, sym, ◌∙◌, subst, false, true}
use Rattle.std.proofs.lemmas.Result.{IfOk-weaker}
use Rattle.message.specs.Effects.{any_touches}
use Rattle.message.specs.Resolution.{IsResolved}
use Rattle.message.specs.declared.resolution.Resolution.TheVariants.{NeedsBase}
use Rattle.message.proofs.Condensing.{resolved_before}
use Rattle.pending.proofs.Meaning.{touched_before, touched_behind}
use Rattle.pending.proofs.pending.Pending.resolve.Goals as goal

pub returns-clause-resolved : goal.returns-clause-resolved
returns-clause-resolved g c =
    let means = g.U.Update.means in
    let k = c.args.key.now in
    let s = c.self.inside.sorted in
    let f = c.self.inside.tail_msgs.0 in
    let apart : any_touches f k ≡ false = sym c.is_touched.ensures ∙ c.if-is_touched.false in
    IfOk-weaker c.resolve.result (IsResolved means s k) (IsResolved means c.args.self.now.0 k)
    (λ t h. subst (λ ms. IsResolved means ms k t) (ap (λ p. p.0) c.self.view_is) (resolved_before means s f k t apart h))
    c.resolve.ensures.resolved

pub returns-clause-touched : goal.returns-clause-touched
returns-clause-touched g c =
    let k = c.args.key.now in
    let s = c.self.inside.sorted in
    let f = c.self.inside.tail_msgs.0 in
    IfOk-weaker c.resolve.result (λ r. r ≡ NeedsBase → any_touches s k ≡ true) (λ r. r ≡ NeedsBase → any_touches c.args.self.now.0 k ≡ true)
    (λ r h e. ap (λ p. any_touches p.0 k) (sym c.self.view_is) ∙ touched_before g.U.Update.means s f k (h e))
    c.resolve.ensures.touched

pub returns-then-is_touched-clause-touched : goal.returns-then-is_touched-clause-touched
returns-then-is_touched-clause-touched g c = λ e. ap (λ p. any_touches p.0 c.args.key.now) (sym c.self.view_is) ∙ touched_behind g.U.Update.means c.self.inside.sorted c.self.inside.tail_msgs.0 c.args.key.now (sym c.is_touched.ensures ∙ c.if-is_touched.true)
