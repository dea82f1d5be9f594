use Rattle.std.proofs.Common.{ap, ⊎_elim, is_ok, [], ◌∷◌}
use Rattle.node.proofs.Roots.{borrowed_is_root, lawful_after, appended_after}
use Rattle.node.proofs.tree.Tree.append_one.Goals as goal

pub append_one-requires : goal.append_one-requires
append_one-requires g c =
    let own = ⊎_elim (λ x. x) (λ x. x) (rw c.in_ok-make_mut.was at c.make_mut.ensures.value) in
    borrowed_is_root c.self.inside.shape c.self.inside.root.value c.in_ok-make_mut.field-0.now c.self.invariant own

pub invariant_of-self-2 : goal.invariant_of-self-2
invariant_of-self-2 g c =
    let root = c.self.inside.root.value in
    let borrowed = c.in_ok-make_mut.field-0.now in
    let own = ⊎_elim (λ x. x) (λ x. x) (rw c.in_ok-make_mut.was at c.make_mut.ensures.value) in
    lawful_after c.self.inside.shape g.U.Update.means c.append_one.result (c.args.msg ∷ []) root borrowed c.append_one.new.self _ c.self.invariant own c.append_one.ensures.ok c.append_one.ensures.err (c.make_mut.follows.holds c.append_one.new.self (ap is_ok c.in_ok-make_mut.was))

pub returns-clause-ok : goal.returns-clause-ok
returns-clause-ok g c =
    let root = c.self.inside.root.value in
    let borrowed = c.in_ok-make_mut.field-0.now in
    let own = ⊎_elim (λ x. x) (λ x. x) (rw c.in_ok-make_mut.was at c.make_mut.ensures.value) in
    appended_after c.self.inside.shape g.U.Update.means c.append_one.result (c.args.msg ∷ []) c.args.self.now root borrowed c.append_one.new.self _ c.self.invariant c.self.view_is own c.append_one.ensures.ok (c.make_mut.follows.holds c.append_one.new.self (ap is_ok c.in_ok-make_mut.was))
