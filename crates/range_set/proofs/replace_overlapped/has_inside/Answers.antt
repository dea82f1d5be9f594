use Rattle.std.proofs.Common.{◌≡◌, ◌∙◌, ap, sym, subst, false}
use Rattle.std.specs.Prelude.{IfSome}
use Rattle.std.specs.Option.{option_copied}
use Rattle.std.specs.List.{slice_get}
use Rattle.pathkey.specs.Keys.{is_below}
use Rattle.pathkey.specs.declared.range.KeyRange.{KeyRange}
use Rattle.range_set.proofs.Splicing.{put_alone, NoneInside}
use Rattle.range_set.proofs.replace_overlapped.has_inside.Goals as goal

pub returns-in-None : goal.returns-in-None
returns-in-None c h =
    let range : KeyRange = record { lo = c.args.lo.now; hi = option_copied c.args.hi } in
    let none : NoneInside range c.args.rows.now = subst (λ o. IfSome o (λ e. is_below e.0 range.hi ≡ false)) (c.in-None.ensures ∙ ap (λ t. slice_get t 0) c.upper_bound.ensures) tt in
    put_alone range c.args.rows.now c.assert_invariant.ensures c.requires none

pub returns-in-Some : goal.returns-in-Some
returns-in-Some c h =
    let range : KeyRange = record { lo = c.args.lo.now; hi = option_copied c.args.hi } in
    let past : is_below c.in-Some.next.now range.hi ≡ false = sym c.is_before_end.ensures ∙ h in
    let none : NoneInside range c.args.rows.now = subst (λ o. IfSome o (λ e. is_below e.0 range.hi ≡ false)) (c.in-Some.ensures ∙ ap (λ t. slice_get t 0) c.upper_bound.ensures) past in
    put_alone range c.args.rows.now c.assert_invariant.ensures c.requires none
