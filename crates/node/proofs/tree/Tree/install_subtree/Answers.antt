use Rattle.std.proofs.Common.{ap, ⊎_elim, is_ok}
use Rattle.node.proofs.Grafting.{lawful_grafted, has_grafted}
use Rattle.node.proofs.tree.Tree.install_subtree.Goals as goal

pub install_subtree-requires : goal.install_subtree-requires
install_subtree-requires g c =
    let own = ⊎_elim (λ x. x) (λ x. x) (rw c.in-Ok.is at c.make_mut.ensures.value) in
    has_grafted g.U.Update.means c.self.inside.shape c.args.i c.args.count c.args.subtree.value c.args.self.now c.self.inside.root.value c.in-Ok.root.now c.self.view_is c.requires own

pub invariant_of-self-2 : goal.invariant_of-self-2
invariant_of-self-2 g c =
    let own = ⊎_elim (λ x. x) (λ x. x) (rw c.in-Ok.is at c.make_mut.ensures.value) in
    (lawful_grafted g.U.Update.means c.self.inside.shape c.args.i c.args.count c.args.subtree.value c.args.self.now c.self.inside.root.value c.in-Ok.root.now c.install_subtree.new.self _ c.self.invariant c.self.view_is c.requires own c.install_subtree.ensures (c.make_mut.follows.holds c.install_subtree.new.self (ap is_ok c.in-Ok.is))).0

pub returns-clause-ok : goal.returns-clause-ok
returns-clause-ok g c =
    let own = ⊎_elim (λ x. x) (λ x. x) (rw c.in-Ok.is at c.make_mut.ensures.value) in
    (lawful_grafted g.U.Update.means c.self.inside.shape c.args.i c.args.count c.args.subtree.value c.args.self.now c.self.inside.root.value c.in-Ok.root.now c.install_subtree.new.self _ c.self.invariant c.self.view_is c.requires own c.install_subtree.ensures (c.make_mut.follows.holds c.install_subtree.new.self (ap is_ok c.in-Ok.is))).1
