use Rattle.std.proofs.Common.{ap, sym, ◌∙◌, ◌≡◌, ⊎_elim, is_ok}
use Rattle.node.specs.See.{see, seen_slots}
use Rattle.node.specs.Pure.{inner, leaf}
use Rattle.split_merge.specs.Merged.{both}
use Rattle.split_merge.proofs.Mergeable.{both_inner}
use Rattle.split_merge.proofs.merge.merge_nodes.Goals as goal
use Rattle.split_merge.proofs.merge.merge_nodes.Goals.{in-Leaf-Leaf+in_ok-append-in-Leaf-Leaf, in-Inner-Inner+in_ok-append-in-Inner-Inner}

pub returns-clause-ok : goal.returns-clause-ok
returns-clause-ok g c =
    let own_left = ⊎_elim (λ x. x) (λ x. x) (rw c.in_ok-left.was at c.make_mut.ensures.value) in
    let own_right = ⊎_elim (λ x. x) (λ x. x) (rw c.in_ok-right.was at c.make_mut-2.ensures.value) in
    let joined : c.match-body_mut.left ≡ both c.args.left.now.value c.args.right.now.value = elim c.match-body_mut.branch [
      | in-Leaf-Leaf+in_ok-append-in-Leaf-Leaf w ↦
          let b = w.in-Leaf-Leaf in
          let l : leaf b.entries.items ≡ c.args.left.now.value = ap see (sym b.is-0) ∙ c.body_mut.ensures.value ∙ own_left in
          let r : leaf b.later.items ≡ c.args.right.now.value = ap see (sym b.is-1) ∙ c.body_mut-2.ensures.value ∙ own_right in
          w.left-is ∙ ap leaf w.in_ok-append-in-Leaf-Leaf.ensures.items ∙ (λ j. both (l j) (r j))
      | in-Inner-Inner+in_ok-append-in-Inner-Inner w ↦
          let b = w.in-Inner-Inner in
          let l : inner (seen_slots b.slots.items) ≡ c.args.left.now.value = ap see (sym b.is-0) ∙ c.body_mut.ensures.value ∙ own_left in
          let r : inner (seen_slots b.later.items) ≡ c.args.right.now.value = ap see (sym b.is-1) ∙ c.body_mut-2.ensures.value ∙ own_right in
          w.left-is ∙ ap (λ z. inner (seen_slots z)) w.in_ok-append-in-Inner-Inner.ensures.items ∙ both_inner b.slots.items b.later.items c.args.left.now.value c.args.right.now.value l r
    ] in
    c.make_mut.follows.holds _ (ap is_ok c.in_ok-left.was) ∙ c.update_weight.ensures ∙ joined
