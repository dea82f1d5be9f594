use Rattle.std.proofs.Common.{arith, ◌≡◌, ◌<◌, ap, sym, ◌∙◌, subst, refl, length}
use Rattle.node.specs.See.{see, seen_slots}
use Rattle.node.specs.Pure.{inner}
use Rattle.node.specs.RootSteps.{levels}
use Rattle.split_merge.specs.Raised.{IsAbove, Raised}
use Rattle.split_merge.proofs.RootUp.{one_slot, other_slots}
use Rattle.split_merge.proofs.raise_root.new_root_up.Goals as goal

pub returns-then-len-eq1-clause-err : goal.returns-then-len-eq1-clause-err
returns-then-len-eq1-clause-err g c =
    let items = c.in-Inner.slots.items in
    let was : inner (seen_slots items) ≡ c.args.root.now = ap see (sym c.in-Inner.is) ∙ c.body.ensures in
    let one : length items ≡ 1 = omega (arith, c.in-Inner.slots.ok.0) in
    one_slot items c.args.root.now was one

pub returns-then-has_levels-clause-err : goal.returns-then-has_levels-clause-err
returns-then-has_levels-clause-err g c =
    let items = c.in-Inner.slots.items in
    let was : inner (seen_slots items) ≡ c.args.root.now = ap see (sym c.in-Inner.is) ∙ c.body.ensures in
    (other_slots items c.args.root.now was (λ e. omega (arith, c.in-Inner.slots.ok.0)), c.has_levels.ensures.deep c.if-has_levels.true)

pub returns-in_default-node_over_slots-clause-err : goal.returns-in_default-node_over_slots-clause-err
returns-in_default-node_over_slots-clause-err g c =
    let items = c.in-Inner.slots.items in
    let was : inner (seen_slots items) ≡ c.args.root.now = ap see (sym c.in-Inner.is) ∙ c.body.ensures in
    (other_slots items c.args.root.now was (λ e. omega (arith, c.in-Inner.slots.ok.0)), c.has_levels.ensures.shallow c.if-has_levels.false)

pub returns-clause-ok : goal.returns-clause-ok
returns-clause-ok g c =
    let items = c.in-Inner.slots.items in
    let ss = seen_slots items in
    let was : inner ss ≡ c.args.root.now = ap see (sym c.in-Inner.is) ∙ c.body.ensures in
    let few : levels (inner ss) < 16 = subst (λ z. levels z < 16) (sym was) (c.has_levels.ensures.shallow c.if-has_levels.false) in
    let other = other_slots items (inner ss) refl (λ e. omega (arith, c.in-Inner.slots.ok.0)) in
    let new = subst (λ z. IsAbove g.U.Update.means (seen_slots z) c.in-Ok.new.value) c.as_slice.ensures.value c.in-Ok.ensures in
    subst (λ z. Raised g.U.Update.means z c.in-Ok.new.value) was (other, few, new)
