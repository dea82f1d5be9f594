use Rattle.std.proofs.Common.{arith, ◌≤◌, ◌<◌, length, suc, subst, sym, add-one, true, []}
use Rattle.node.specs.Pure.{more, none}
use Rattle.node.specs.StepRows.{AreTooMany}
use Rattle.split_merge.proofs.Mergeable.{last_few}
use Rattle.split_merge.proofs.Merging.{too_many, too_many_below}
use Rattle.split_merge.proofs.merge.pair_fits.Goals as goal

pub returns-then-not-has_next-clause-yes : goal.returns-then-not-has_next-clause-yes
returns-then-not-has_next-clause-yes g c = λ t many.
    let few : length c.args.slots.now ≤ suc c.args.i = omega (arith, c.has_next.ensures.no c.if-not-has_next.true) in
    last_few c.args.shape c.args.slots.now c.args.i few many

pub returns-clause-yes : goal.returns-clause-yes
returns-clause-yes g c = λ t many.
    let xs = c.args.slots.now in
    let h : suc c.args.i < length xs = omega (arith, c.has_next.ensures.yes c.if-not-has_next.false) in
    let below = too_many_below g.U.Update.means c.args.shape true c.args.i xs c.index-slots-i.result c.index-slots-i-2.result h c.index-slots-i.is (rw add-one at c.index-slots-i-2.is) many in
    c.fit_in_one.ensures.yes t (subst (λ z. AreTooMany c.args.shape (more [] [] z (more [] [] c.deref-2.result.now none))) (sym c.deref.ensures) (subst (λ z. AreTooMany c.args.shape (more [] [] c.index-slots-i.result.child.value (more [] [] z none))) (sym c.deref-2.ensures) below))

pub returns-clause-no : goal.returns-clause-no
returns-clause-no g c = λ t.
    let xs = c.args.slots.now in
    let h : suc c.args.i < length xs = omega (arith, c.has_next.ensures.yes c.if-not-has_next.false) in
    let many = subst (λ z. AreTooMany c.args.shape (more [] [] c.index-slots-i.result.child.value (more [] [] z none))) c.deref-2.ensures (subst (λ z. AreTooMany c.args.shape (more [] [] z (more [] [] c.deref-2.result.now none))) c.deref.ensures (c.fit_in_one.ensures.no t)) in
    too_many g.U.Update.means c.args.shape true c.args.i xs c.index-slots-i.result c.index-slots-i-2.result h c.index-slots-i.is (rw add-one at c.index-slots-i-2.is) many
