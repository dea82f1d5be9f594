-- Each child is less deep than its node.
use Rattle.std.specs.Prelude.{◌+◌, ◌≤◌, max, List, [], ◌∷◌}
use Rattle.std.proofs.Common.{arith}
use denote.Param.Weighed.{most, w_this}
use Rattle.node.specs.declared.node.Body.{Body}
use Rattle.node.specs.declared.node.Body.TheVariants.{Leaf, Inner}
use Rattle.node.specs.declared.node.Slot.{Slot}
use Rattle.node.specs.declared.node.Node.TheDeep.{deep-Body, deep-Slot}
use Rattle.node.specs.Pure.{depth, depths}
use Rattle.node.specs.See.{see, seen_slots}

module _ {U V : Type 0} where
  most_falls : (ss : List (Slot U V)) → most (w_this.weight (Slot U V) (deep-Slot U V)) ss ≤ depths (seen_slots ss) + 1
  most_falls [] = omega arith
  most_falls (s ∷ ss) = omega (arith, most_falls ss)

  pub see_falls : (b : Body U V) → max (deep-Body U V b) 0 ≤ depth (see b)
  see_falls (Leaf es) = omega arith
  see_falls (Inner ss) = omega (arith, most_falls ss.items)
