use Rattle.std.proofs.Common.{rules, ◌≡◌, ◌∙◌, ◌∷◌, ◌++◌, [], None, ap, sym, subst}
use Rattle.std.proofs.lemmas.List.{append_assoc}
use Rattle.pathkey.specs.Order.{by_bytes}
use Rattle.node.specs.Lawful.{Rises}
use Rattle.flush.proofs.Merging.{come_stopped, come_moved, same_first}
use Rattle.flush.proofs.apply_pass.move_up_to.Goals as goal

pub returns-then-is_gt-clause-come : goal.returns-then-is_gt-clause-come
returns-then-is_gt-clause-come g c = come_stopped c.args.key.now c.in-Some.entry.now c.args.done.now.items c.args.left.now.items c.cmp-order.result c.cmp-order.ensures (sym c.is_gt.ensures ∙ c.if-is_gt.true) c.in-Some.ensures.lookup c.requires.ahead

pub returns-clause-come : goal.returns-clause-come
returns-clause-come g c =
    let k = c.args.key.now in
    let e = c.in-Some-pop_front.entry in
    let old = c.args.done.now.items in
    let done = c.push_reserved.new.self.items in
    let left = c.pop_front.new.self.items in
    let parts : c.args.left.now.items ≡ e ∷ left = search rules in
    let all : done ++ left ≡ old ++ c.args.left.now.items = ap (λ zs. zs ++ left) c.push_reserved.ensures.items ∙ append_assoc old (e ∷ []) left ∙ ap (λ zs. old ++ zs) (sym parts) in
    let same = same_first c.in-Some.entry.now e c.args.left.now.items left c.in-Some.ensures.lookup parts in
    come_moved k e old done left c.cmp-order.result (c.cmp-order.ensures ∙ ap (λ x. by_bytes x.0 k) same) (sym c.is_gt.ensures ∙ c.if-is_gt.false) c.push_reserved.ensures.items (subst (λ zs. Rises [] None zs) (sym all) c.requires.rising)
