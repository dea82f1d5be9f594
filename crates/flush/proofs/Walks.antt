-- Which nodes can be walked by numbers of slots, and how far down.
use Rattle.std.proofs.Common.{◌≡◌, ℕ, zero, suc, pred, ◌-◌, ◌^◌, ◌<◌, ◌≤◌, List, [], ◌∷◌, length, get_or, ap, sym, ◌∙◌, subst, Option, None, arith}
use Rattle.flush.specs.Heaviest.{flush_into, IsWalkable, AreWalkable}
use Rattle.node.specs.declared.node.Slot.{Slot}
use Rattle.node.specs.declared.shape.Shape.{Shape}
use Rattle.node.specs.declared.step.StepKind.{StepKind}
use Rattle.node.specs.declared.step.StepKind.TheVariants.{FlushInner, FlushLeaf}
use Rattle.node.specs.Lawful.{IsLawfulNode, AreLawfulSlots, IsLawfulRoot, IsLawful, next_lo}
use Rattle.node.specs.Pure.{PNode, leaf, inner, PSlots, none, more, PTree}
use Rattle.node.specs.RootSteps.{levels}
use Rattle.node.specs.See.{seen_slots}
use Rattle.node.specs.Weights.{longest}
use Rattle.node.proofs.Roots.{small_shape}
use Rattle.node.proofs.Sizes.{exact_levels, low_root, root_levels}

module _ {U V : Type 0} where
  -- the child of the slot that the code reads
  pub walkable_child : (h : ℕ) (xs : List (Slot U V)) (i : ℕ) (d : Slot U V) → i < length xs → AreWalkable h (seen_slots xs) → IsWalkable (pred h) (get_or xs i d).child.value
  walkable_child h [] i d l w = absurd (omega arith)
  walkable_child h (x ∷ xs) zero d l w = w.0
  walkable_child h (x ∷ xs) (suc i) d l w = walkable_child h xs i d (omega arith) w.1

  -- likewise for the child as the code names it
  pub walkable_below : (h : ℕ) (xs : List (Slot U V)) (i : ℕ) (s : Slot U V) (child : PNode U V) → i < length xs → s ≡ get_or xs i s → child ≡ s.child.value → AreWalkable h (seen_slots xs) → IsWalkable (h - 1) child
  walkable_below h xs i s child l es ec w =
      let e : pred h ≡ h - 1 = omega arith in
      let at : child ≡ (get_or xs i s).child.value = ec ∙ ap (λ (x : Slot U V). x.child.value) es in
      subst (λ n. IsWalkable (h - 1) n) (sym at) (subst (λ k. IsWalkable k (get_or xs i s).child.value) e (walkable_child h xs i s l w))

  -- the level tells the flush into a child
  pub flush_into-is : (h : ℕ) (n : PNode U V) (k : StepKind) → (h ≤ 1 → k ≡ FlushLeaf) → (1 < h → k ≡ FlushInner) → 0 < h → IsWalkable (pred h) n → k ≡ flush_into n
  flush_into-is h (leaf es) k low high some w = low (omega (arith, w))
  flush_into-is h (inner ss) k low high some w = high (omega (arith, w.0))

  -- a node with messages stands above the leaves
  pub above_leaves : (h : ℕ) (n : PNode U V) → 0 < longest n → IsWalkable h n → 0 < h
  above_leaves h (leaf es) some w = absurd (omega (arith, some))
  above_leaves h (inner ss) some w = w.0

  module _ (S : Shape) (few : S.fanout ≤ 64) where
    -- a lawful node is walked down to its leaves
    mutual
      walkable_node : (h : ℕ) (n : PNode U V) (lo : List ℕ) (hi : Option (List ℕ)) → IsLawfulNode S n h lo hi → IsWalkable h n
      walkable_node h (leaf es) lo hi l = l.0
      walkable_node h (inner ss) lo hi l = (l.0, omega (arith, l.1, few), walkable_slots h ss hi l.4)

      walkable_slots : (h : ℕ) (ss : PSlots U V) (hi : Option (List ℕ)) → AreLawfulSlots S ss h hi → AreWalkable h ss
      walkable_slots h none hi l = tt
      walkable_slots h (more lo ms n ss) hi l = (walkable_node (pred h) n lo (next_lo hi ss) l.2, walkable_slots h ss hi l.3)

    -- so is a lawful root
    pub walkable_root : (h : ℕ) (n : PNode U V) → IsLawfulRoot S n h → IsWalkable h n
    walkable_root h (leaf es) l = absurd l
    walkable_root h (inner ss) l = (l.0, omega (arith, l.2, few), walkable_slots h ss None l.4)

  -- the height that was counted is that of the lawful tree
  height_is : (t : PTree U V) (x : ℕ) (n : PNode U V) (l : IsLawful t) → n ≡ t.root → x ≤ levels n → (x < 2 ^ 127 → x ≡ levels n) → x ≡ l.levels
  height_is t x n l e low exact = exact_levels t x n e l low exact ∙ root_levels t.shape l.levels t.root l.root

  -- it is at most 16
  pub height_low : (t : PTree U V) (x : ℕ) (n : PNode U V) → IsLawful t → n ≡ t.root → x ≤ levels n → (x < 2 ^ 127 → x ≡ levels n) → x ≤ 16
  height_low t x n l e low exact = omega (arith, height_is t x n l e low exact, low_root t.shape t.root l.levels l.root)

  -- and a walk goes so far down
  pub walkable_tree : (t : PTree U V) (x : ℕ) (n : PNode U V) → IsLawful t → n ≡ t.root → x ≤ levels n → (x < 2 ^ 127 → x ≡ levels n) → IsWalkable x n
  walkable_tree t x n l e low exact =
      let few = (small_shape t.shape l.shape).0 in
      let whole : IsWalkable l.levels t.root = walkable_root t.shape few l.levels t.root l.root in
      subst (λ m. IsWalkable x m) (sym e) (subst (λ h. IsWalkable h t.root) (sym (height_is t x n l e low exact)) whole)
