-- What a node keeps of the messages that wait at or below it.
use Rattle.std.specs.Prelude.{◌≡◌, ℕ, ◌≤◌, ◌<◌, ◌+◌, ◌*◌, ◌^◌, max, length, Option, ⊤, MatchOption}
use Rattle.node.specs.declared.node.pending_weight.PendingWeight.{PendingWeight}
use Rattle.node.specs.declared.report.Quantity.TheVariants.{Pending}
use Rattle.node.specs.Pure.{PNode, leaf, inner, PSlots, none, more}
use Rattle.node.specs.Report.{own, total, width}

module _ {U V : Type 0} where
  -- how many messages wait in the longest pending list at or below the node
  abbrev mutual
    pub longest : PNode U V → ℕ
    longest (leaf es) = 0
    longest (inner ss) = longest_in ss

    pub longest_in : PSlots U V → ℕ
    longest_in none = 0
    longest_in (more lo ms n ss) = max (max (length ms) (longest n)) (longest_in ss)

  -- the weight is that of the node: the longest list, and how many pieces wait at or below it, exactly where that is
  -- small; and the node's own lists have been counted
  pub record IsWeight (w : PendingWeight) (n : PNode U V) : Type 0 where
    pub longest_is : w.longest ≡ longest n
    pub at_most : w.pending ≤ total Pending n
    pub exact : w.pending < 2 ^ 127 → w.pending ≡ total Pending n
    pub bound : own Pending n ≤ 18446744073709551615 * width n + 18446744073709551615

  -- the weight that is kept, if one is, is that of the node
  abbrev pub IsKept : Option PendingWeight → PNode U V → Type 0
  IsKept kept n = MatchOption kept ⊤ (λ w. IsWeight w n)
