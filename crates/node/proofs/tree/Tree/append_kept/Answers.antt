use Rattle.std.proofs.Common.{◌≡◌, ap, ⊎_elim, is_ok, rules, []}
use Rattle.std.proofs.lemmas.List.{nil_from_length}
use Rattle.node.proofs.Roots.{borrowed_is_root, lawful_after, appended_after, appended_none}
use Rattle.node.proofs.Grafting.{keeps_nothing, kept_after}
use Rattle.node.proofs.tree.Tree.append_kept.Goals as goal

pub append_kept-requires : goal.append_kept-requires
append_kept-requires g c =
    let own = ⊎_elim (λ x. x) (λ x. x) (rw c.in_ok-make_mut.was at c.make_mut.ensures.value) in
    borrowed_is_root c.self.inside.shape c.self.inside.root.value c.in_ok-make_mut.field-0.now c.self.invariant own

pub invariant_of-self-2 : goal.invariant_of-self-2
invariant_of-self-2 g c =
    let root = c.self.inside.root.value in
    let borrowed = c.in_ok-make_mut.field-0.now in
    let own = ⊎_elim (λ x. x) (λ x. x) (rw c.in_ok-make_mut.was at c.make_mut.ensures.value) in
    lawful_after c.self.inside.shape g.U.Update.means c.append_kept.result c.args.msgs.items root borrowed c.append_kept.new.self _ c.self.invariant own c.append_kept.ensures.ok c.append_kept.ensures.err (c.make_mut.follows.holds c.append_kept.new.self (ap is_ok c.in_ok-make_mut.was))

pub returns-clause-ok : goal.returns-clause-ok
returns-clause-ok g c =
    let root = c.self.inside.root.value in
    let borrowed = c.in_ok-make_mut.field-0.now in
    let own = ⊎_elim (λ x. x) (λ x. x) (rw c.in_ok-make_mut.was at c.make_mut.ensures.value) in
    appended_after c.self.inside.shape g.U.Update.means c.append_kept.result c.args.msgs.items c.args.self.now root borrowed c.append_kept.new.self _ c.self.invariant c.self.view_is own c.append_kept.ensures.ok (c.make_mut.follows.holds c.append_kept.new.self (ap is_ok c.in_ok-make_mut.was))

pub returns-then-is_empty-clause-ok : goal.returns-then-is_empty-clause-ok
returns-then-is_empty-clause-ok g c =
    let none : c.args.msgs.items ≡ [] = nil_from_length c.args.msgs.items (search rules) in
    appended_none c.self.inside.shape g.U.Update.means c.args.msgs.items c.args.self.now c.self.inside.root.value c.self.invariant c.self.view_is none

pub returns-then-is_empty-clause-kept : goal.returns-then-is_empty-clause-kept
returns-then-is_empty-clause-kept g c =
    let none : c.args.msgs.items ≡ [] = nil_from_length c.args.msgs.items (search rules) in
    keeps_nothing c.self.inside.shape 0 c.args.kept.now c.args.msgs.items c.args.self.now c.self.inside.root.value c.self.view_is none

pub returns-clause-kept : goal.returns-clause-kept
returns-clause-kept g c =
    let own = ⊎_elim (λ x. x) (λ x. x) (rw c.in_ok-make_mut.was at c.make_mut.ensures.value) in
    kept_after c.self.inside.shape c.append_kept.result c.args.kept.now c.args.msgs.items c.args.self.now c.self.inside.root.value c.in_ok-make_mut.field-0.now c.append_kept.new.self _ c.self.view_is own c.append_kept.ensures.kept (c.make_mut.follows.holds c.append_kept.new.self (ap is_ok c.in_ok-make_mut.was))
