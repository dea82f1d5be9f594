-- What a step leaves of a subtree that is not a whole tree.
use Rattle.std.specs.Prelude.{◌≡◌, ℕ, true, List, Option}
use Rattle.message.specs.Ranges.{within}
use Rattle.node.specs.declared.shape.Shape.{Shape}
use Rattle.node.specs.Lawful.{IsLawfulNode}
use Rattle.node.specs.Meaning.{value}
use Rattle.node.specs.Pure.{PNode}

-- b is lawful as a is, h levels above the leaves for keys from lo up to and without hi, and means at each what a means
pub record IsSameSubtree {U V : Type 0} (means : U → Option V → Option V) (shape : Shape) (h : ℕ) (lo : List ℕ) (hi : Option (List ℕ)) (a b : PNode U V) : Type 0 where
  pub lawful : IsLawfulNode shape b h lo hi
  pub same : (k : List ℕ) → within lo hi k ≡ true → value means b k ≡ value means a k

-- the same wherever a is lawful and ends at hi
abbrev pub StaysSubtree : {U V : Type 0} → (U → Option V → Option V) → Shape → Option (List ℕ) → PNode U V → PNode U V → Type 0
StaysSubtree means shape hi a b = (h : ℕ) (lo : List ℕ) → IsLawfulNode shape a h lo hi → IsSameSubtree means shape h lo hi a b
