use Rattle.std.proofs.Common.{sym, subst, None}
use Rattle.pathkey.specs.Order.{same}
use Rattle.node.specs.Leaves.{IsChanged}
use Rattle.node.proofs.LeafChanges.{is_replaced, is_removed, is_changed_to}
use Rattle.node.proofs.node.leaf.replace.Goals as goal

pub returns-in-Some : goal.returns-in-Some
returns-in-Some g c = λ k e. is_changed_to (same k) _ c.args.value _ _ (sym c.in-Some.is) (is_replaced k c.args.entries.now.items c.args.i c.index_mut.result.now c.in-Some.value e c.requires.rising c.index_mut.ensures.value)

pub returns-in-None : goal.returns-in-None
returns-in-None g c = λ k e. is_changed_to (same k) _ c.args.value _ _ (sym c.in-None.is) (subst (λ new. IsChanged (same k) None c.args.entries.now.items new) (sym c.remove.ensures.items) (is_removed k c.args.entries.now.items c.args.i e c.requires.rising))
