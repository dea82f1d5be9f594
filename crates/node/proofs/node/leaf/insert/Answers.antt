use Rattle.std.proofs.Common.{sym, subst, ap, ◌∙◌, insert, Some}
use Rattle.pathkey.specs.Order.{same}
use Rattle.node.specs.Leaves.{IsChanged}
use Rattle.node.proofs.LeafChanges.{is_inserted, is_absent, is_changed_to}
use Rattle.node.proofs.node.leaf.insert.Goals as goal

pub returns-in_ok-insert-clause-ok : goal.returns-in_ok-insert-clause-ok
returns-in_ok-insert-clause-ok g c =
    let es = c.args.entries.now.items in
    let k = c.args.key.now in
    let items = c.in_ok-insert.ensures.items ∙ ap (λ q. insert es c.args.i (q, c.in-Some.value)) c.in_ok-copy.ensures in
    is_changed_to (same k) _ c.args.value _ _ (sym c.in-Some.is) (subst (λ new. IsChanged (same k) (Some c.in-Some.value) es new) (sym items) (is_inserted k es c.args.i c.in-Some.value c.requires))

pub returns-in_default-clause-ok : goal.returns-in_default-clause-ok
returns-in_default-clause-ok g c = is_changed_to (same c.args.key.now) _ c.args.value _ _ (sym c.in_default.is) (is_absent c.args.key.now c.args.entries.now.items c.args.i c.requires)
