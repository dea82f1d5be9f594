use Rattle.std.proofs.Common.{ap, ⊎_elim, is_ok, refl}
use Rattle.node.proofs.Roots.{borrowed_is_root, lawful_same, lawful_after, appended_after, unchanged_after}
use Rattle.node.proofs.Grafting.{kept_after}
use Rattle.node.proofs.tree.append.append_both_kept.Goals as goal

pub invariant_of-first-in_err-two : goal.invariant_of-first-in_err-two
invariant_of-first-in_err-two g c =
    let own = ⊎_elim (λ x. x) (λ x. x) (rw c.in_ok-one.was at c.make_mut.ensures.value) in
    lawful_same c.first.inside.shape c.first.inside.root.value c.in_ok-one.one.now _ c.first.invariant own (c.make_mut.follows.holds c.in_ok-one.one.now (ap is_ok c.in_ok-one.was))

pub invariant_of-second : goal.invariant_of-second
invariant_of-second g c =
    let stays = ⊎_elim (λ x. x) (λ x. x) (rw c.in_err-two.was at c.make_mut-2.follows.holds-at-none) in
    lawful_same c.second.inside.shape c.second.inside.root.value c.second.inside.root.value _ c.second.invariant refl stays

pub append_both_kept-requires-clause-first : goal.append_both_kept-requires-clause-first
append_both_kept-requires-clause-first g c =
    let root = c.first.inside.root.value in
    let borrowed = c.in_ok-one.one.now in
    let own = ⊎_elim (λ x. x) (λ x. x) (rw c.in_ok-one.was at c.make_mut.ensures.value) in
    borrowed_is_root c.first.inside.shape root borrowed c.first.invariant own

pub invariant_of-first-2 : goal.invariant_of-first-2
invariant_of-first-2 g c =
    let root = c.first.inside.root.value in
    let borrowed = c.in_ok-one.one.now in
    let own = ⊎_elim (λ x. x) (λ x. x) (rw c.in_ok-one.was at c.make_mut.ensures.value) in
    lawful_after c.first.inside.shape g.A.Update.means c.append_both_kept.result c.args.first_msgs.items root borrowed c.append_both_kept.new.first _ c.first.invariant own c.append_both_kept.ensures.first_ok c.append_both_kept.ensures.first_err (c.make_mut.follows.holds c.append_both_kept.new.first (ap is_ok c.in_ok-one.was))

pub returns-clause-first_ok : goal.returns-clause-first_ok
returns-clause-first_ok g c =
    let root = c.first.inside.root.value in
    let borrowed = c.in_ok-one.one.now in
    let own = ⊎_elim (λ x. x) (λ x. x) (rw c.in_ok-one.was at c.make_mut.ensures.value) in
    appended_after c.first.inside.shape g.A.Update.means c.append_both_kept.result c.args.first_msgs.items c.args.first.now root borrowed c.append_both_kept.new.first _ c.first.invariant c.first.view_is own c.append_both_kept.ensures.first_ok (c.make_mut.follows.holds c.append_both_kept.new.first (ap is_ok c.in_ok-one.was))

pub returns-clause-first_err : goal.returns-clause-first_err
returns-clause-first_err g c =
    let root = c.first.inside.root.value in
    let borrowed = c.in_ok-one.one.now in
    let own = ⊎_elim (λ x. x) (λ x. x) (rw c.in_ok-one.was at c.make_mut.ensures.value) in
    unchanged_after c.first.inside.shape c.append_both_kept.result c.args.first.now root borrowed c.append_both_kept.new.first _ c.first.view_is own c.append_both_kept.ensures.first_err (c.make_mut.follows.holds c.append_both_kept.new.first (ap is_ok c.in_ok-one.was))

pub append_both_kept-requires-clause-second : goal.append_both_kept-requires-clause-second
append_both_kept-requires-clause-second g c =
    let root = c.second.inside.root.value in
    let borrowed = c.in_ok-two.two.now in
    let own = ⊎_elim (λ x. x) (λ x. x) (rw c.in_ok-two.was at c.make_mut-2.ensures.value) in
    borrowed_is_root c.second.inside.shape root borrowed c.second.invariant own

pub invariant_of-second-2 : goal.invariant_of-second-2
invariant_of-second-2 g c =
    let root = c.second.inside.root.value in
    let borrowed = c.in_ok-two.two.now in
    let own = ⊎_elim (λ x. x) (λ x. x) (rw c.in_ok-two.was at c.make_mut-2.ensures.value) in
    lawful_after c.second.inside.shape g.B.Update.means c.append_both_kept.result c.args.second_msgs.items root borrowed c.append_both_kept.new.second _ c.second.invariant own c.append_both_kept.ensures.second_ok c.append_both_kept.ensures.second_err (c.make_mut-2.follows.holds c.append_both_kept.new.second (ap is_ok c.in_ok-two.was))

pub returns-clause-second_ok : goal.returns-clause-second_ok
returns-clause-second_ok g c =
    let root = c.second.inside.root.value in
    let borrowed = c.in_ok-two.two.now in
    let own = ⊎_elim (λ x. x) (λ x. x) (rw c.in_ok-two.was at c.make_mut-2.ensures.value) in
    appended_after c.second.inside.shape g.B.Update.means c.append_both_kept.result c.args.second_msgs.items c.args.second.now root borrowed c.append_both_kept.new.second _ c.second.invariant c.second.view_is own c.append_both_kept.ensures.second_ok (c.make_mut-2.follows.holds c.append_both_kept.new.second (ap is_ok c.in_ok-two.was))

pub returns-clause-second_err : goal.returns-clause-second_err
returns-clause-second_err g c =
    let root = c.second.inside.root.value in
    let borrowed = c.in_ok-two.two.now in
    let own = ⊎_elim (λ x. x) (λ x. x) (rw c.in_ok-two.was at c.make_mut-2.ensures.value) in
    unchanged_after c.second.inside.shape c.append_both_kept.result c.args.second.now root borrowed c.append_both_kept.new.second _ c.second.view_is own c.append_both_kept.ensures.second_err (c.make_mut-2.follows.holds c.append_both_kept.new.second (ap is_ok c.in_ok-two.was))

pub returns-clause-first_kept : goal.returns-clause-first_kept
returns-clause-first_kept g c =
    let own = ⊎_elim (λ x. x) (λ x. x) (rw c.in_ok-one.was at c.make_mut.ensures.value) in
    kept_after c.first.inside.shape c.append_both_kept.result c.args.first_kept.now c.args.first_msgs.items c.args.first.now c.first.inside.root.value c.in_ok-one.one.now c.append_both_kept.new.first _ c.first.view_is own c.append_both_kept.ensures.first_kept (c.make_mut.follows.holds c.append_both_kept.new.first (ap is_ok c.in_ok-one.was))

pub returns-clause-second_kept : goal.returns-clause-second_kept
returns-clause-second_kept g c =
    let own = ⊎_elim (λ x. x) (λ x. x) (rw c.in_ok-two.was at c.make_mut-2.ensures.value) in
    kept_after c.second.inside.shape c.append_both_kept.result c.args.second_kept.now c.args.second_msgs.items c.args.second.now c.second.inside.root.value c.in_ok-two.two.now c.append_both_kept.new.second _ c.second.view_is own c.append_both_kept.ensures.second_kept (c.make_mut-2.follows.holds c.append_both_kept.new.second (ap is_ok c.in_ok-two.was))
