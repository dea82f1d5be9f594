-- The child of a slot is less deep than the node that has the slot.
use Rattle.std.proofs.Common.{◌≡◌, ℕ, ◌<◌, List, length, get_or, ap, sym, ◌∙◌, subst}
use Rattle.node.specs.declared.node.Slot.{Slot}
use Rattle.node.specs.Pure.{PNode, inner, depth}
use Rattle.node.specs.See.{seen_slots}
use Rattle.node.proofs.Placing.{depth_child}

-- the child of a slot among the slots `ys`, which are those of the node
pub child_falls : {U V : Type 0} (xs ys : List (Slot U V)) (i : ℕ) (slot : Slot U V) (n child : PNode U V) → inner (seen_slots xs) ≡ n → ys ≡ xs → i < length ys → slot ≡ get_or ys i slot → child ≡ slot.child.value → depth child < depth n
child_falls xs ys i slot n child is same bound at child_is =
    let one : child ≡ (get_or ys i slot).child.value = child_is ∙ ap (λ s. s.child.value) at in
    let here : depth child < depth (inner (seen_slots ys)) = subst (λ m. depth m < depth (inner (seen_slots ys))) (sym one) (depth_child ys i slot bound) in
    subst (λ m. depth child < depth m) is (subst (λ zs. depth child < depth (inner (seen_slots zs))) same here)
