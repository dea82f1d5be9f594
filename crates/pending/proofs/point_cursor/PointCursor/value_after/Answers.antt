use Rattle.std.proofs.Common.{◌≡◌, ap, sym, ◌∙◌, subst, refl}
use Rattle.std.specs.Option.{option_copied}
use Rattle.std.specs.Prelude.{IfSome}
use Rattle.std.proofs.lemmas.Result.{IfOk-weaker}
use Rattle.message.specs.Effects.{effects}
use Rattle.message.specs.PointKeys.{is_cleared}
use Rattle.point_ops.specs.Changes.{run_effect}
use Rattle.pending.specs.Ahead.{WaitAt}
use Rattle.pending.proofs.Meeting.{run_acts, waits_some}
use Rattle.pending.proofs.point_cursor.PointCursor.value_after.Goals as goal

pub apply-requires : goal.apply-requires
apply-requires g c =
    let ms = c.args.self.now.0 in
    let k = c.args.met.now.0 in
    let run = c.in-Some.run'.now in
    let waits : WaitAt ms k run = subst (λ t. IfSome t (λ r. WaitAt ms k r)) (sym (ap (λ m. m.1) c.met.view_is) ∙ ap option_copied c.in-Some.is) c.requires in
    waits_some ms k run waits

pub returns : goal.returns
returns g c =
    let means = g.U.Update.means in
    let ms = c.args.self.now.0 in
    let k = c.args.met.now.0 in
    let run = c.in-Some.run'.now in
    let waits : WaitAt ms k run = subst (λ t. IfSome t (λ r. WaitAt ms k r)) (sym (ap (λ m. m.1) c.met.view_is) ∙ ap option_copied c.in-Some.is) c.requires in
    IfOk-weaker c.apply.result (λ v. v ≡ run_effect means run c.left_below-below.result) (λ v. v ≡ effects means ms k c.args.old)
    (λ v h. h ∙ ap (λ x. run_effect means run x) c.left_below-below.ensures ∙ run_acts means ms k run (is_cleared ms k) c.args.old waits refl)
    c.apply.ensures
