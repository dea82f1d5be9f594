use Rattle.std.proofs.Common.{◌≡◌, ◌∙◌, None, ap, sym, subst, true, false}
use Rattle.std.specs.Prelude.{IfSome}
use Rattle.std.specs.Ordering.{is_le}
use Rattle.std.specs.List.{slice_get}
use Rattle.message.specs.Cuts.{LieIn}
use Rattle.message.specs.Ranges.{reaches}
use Rattle.range_set.specs.Disjoint.{range_msgs}
use Rattle.range_set.proofs.Sides.{all_begin, back_lies, first_from, from_first}
use Rattle.range_set.proofs.list.RangeSet.begin_from.Goals as goal

pub returns-in-None-clause-yes : goal.returns-in-None-clause-yes
returns-in-None-clause-yes g c h =
    let p = c.args.pivot.now in
    let rs = c.self.inside.rows in
    let a = c.self.invariant.apart in
    let from = from_first p rs a (subst (λ o. IfSome o (λ e. reaches p e.0 ≡ true)) (c.in-None.ensures ∙ ap (λ t. slice_get t 0) c.cursor.ensures) tt) in
    subst (λ t. LieIn p None (range_msgs {U = g.row.U.Denot} {V = g.row.U-Value.Denot} t)) c.self.view_is (back_lies g.row.U.Denot g.row.U-Value.Denot p rs a from)

pub returns-in-Some-clause-yes : goal.returns-in-Some-clause-yes
returns-in-Some-clause-yes g c h =
    let p = c.args.pivot.now in
    let rs = c.self.inside.rows in
    let a = c.self.invariant.apart in
    let low : reaches p c.in-Some.low.now ≡ true = sym (c.is_le.ensures ∙ ap is_le c.cmp.ensures) ∙ h in
    let from = from_first p rs a (subst (λ o. IfSome o (λ e. reaches p e.0 ≡ true)) (c.in-Some.ensures ∙ ap (λ t. slice_get t 0) c.cursor.ensures) low) in
    subst (λ t. LieIn p None (range_msgs {U = g.row.U.Denot} {V = g.row.U-Value.Denot} t)) c.self.view_is (back_lies g.row.U.Denot g.row.U-Value.Denot p rs a from)

pub returns-in-Some-clause-no : goal.returns-in-Some-clause-no
returns-in-Some-clause-no g c h lies =
    let p = c.args.pivot.now in
    let rs = c.self.inside.rows in
    let low = c.in-Some.low.now in
    let from = all_begin g.row.U.Denot g.row.U-Value.Denot p rs (subst (λ t. LieIn p None (range_msgs {U = g.row.U.Denot} {V = g.row.U-Value.Denot} t)) (sym c.self.view_is) lies) in
    let first = first_from p rs (low, c.in-Some.field-0-1.now) from (sym (c.in-Some.ensures ∙ ap (λ t. slice_get t 0) c.cursor.ensures)) in
    let no : true ≡ false = sym first ∙ sym (c.is_le.ensures ∙ ap is_le c.cmp.ensures) ∙ h in
    absurd (cc)
