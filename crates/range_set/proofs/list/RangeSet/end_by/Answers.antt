use Rattle.std.proofs.Common.{◌≡◌, ◌∙◌, [], Some, ap, sym, subst, true, false}
use Rattle.std.specs.Prelude.{IfSome}
use Rattle.pathkey.specs.Keys.{is_below}
use Rattle.message.specs.Cuts.{LieIn}
use Rattle.message.specs.Ranges.{ends_within}
use Rattle.range_set.specs.Disjoint.{range_msgs}
use Rattle.range_set.proofs.Ends.{end_passed, end_reached}
use Rattle.range_set.proofs.Sides.{all_end, all_end_by, end_of_last, front_lies}
use Rattle.range_set.proofs.list.RangeSet.end_by.Goals as goal

pub returns-in-None-clause-yes : goal.returns-in-None-clause-yes
returns-in-None-clause-yes g c h =
    let p = c.args.pivot.now in
    let rs = c.self.inside.rows in
    let a = c.self.invariant.apart in
    let end = all_end p rs a (subst (λ o. IfSome o (λ e. is_below p e.1 ≡ false)) c.in-None.ensures tt) in
    subst (λ t. LieIn [] (Some p) (range_msgs {U = g.row.U.Denot} {V = g.row.U-Value.Denot} t)) c.self.view_is (front_lies g.row.U.Denot g.row.U-Value.Denot p rs a end)

pub returns-in-Some-clause-yes : goal.returns-in-Some-clause-yes
returns-in-Some-clause-yes g c h =
    let p = c.args.pivot.now in
    let rs = c.self.inside.rows in
    let a = c.self.invariant.apart in
    let high = c.in-Some.high.now in
    let told : c.ends_by.result ≡ ends_within high (Some p) = c.ends_by.ensures ∙ ap (λ t. ends_within t (Some p)) c.as_ref.ensures.value in
    let by : is_below p high ≡ false = end_passed high p (sym told ∙ h) in
    let end = all_end p rs a (subst (λ o. IfSome o (λ e. is_below p e.1 ≡ false)) c.in-Some.ensures by) in
    subst (λ t. LieIn [] (Some p) (range_msgs {U = g.row.U.Denot} {V = g.row.U-Value.Denot} t)) c.self.view_is (front_lies g.row.U.Denot g.row.U-Value.Denot p rs a end)

pub returns-in-Some-clause-no : goal.returns-in-Some-clause-no
returns-in-Some-clause-no g c h lies =
    let p = c.args.pivot.now in
    let rs = c.self.inside.rows in
    let high = c.in-Some.high.now in
    let told : c.ends_by.result ≡ ends_within high (Some p) = c.ends_by.ensures ∙ ap (λ t. ends_within t (Some p)) c.as_ref.ensures.value in
    let end = all_end_by g.row.U.Denot g.row.U-Value.Denot p rs (subst (λ t. LieIn [] (Some p) (range_msgs {U = g.row.U.Denot} {V = g.row.U-Value.Denot} t)) (sym c.self.view_is) lies) in
    let no : true ≡ false = sym (end_reached high p (end_of_last p rs (c.in-Some.field-0-0.now, high) end (sym c.in-Some.ensures))) ∙ sym told ∙ h in
    absurd (cc)
