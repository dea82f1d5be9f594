-- How a weight grows with each slot.
use Rattle.std.proofs.Common.{◌≡◌, ℕ, zero, suc, ◌+◌, ◌<◌, ◌≤◌, ◌^◌, max, List, [], ◌∷◌, length, get_or, take, ap, arith, add-one}
use Rattle.node.specs.declared.node.Slot.{Slot}
use Rattle.node.specs.declared.node.pending_weight.PendingWeight.{PendingWeight}
use Rattle.node.specs.declared.report.Quantity.TheVariants.{Pending}
use Rattle.node.specs.Lawful.{pending, slot_count}
use Rattle.node.specs.Pure.{inner}
use Rattle.node.specs.Report.{total}
use Rattle.node.specs.See.{seen_slots}
use Rattle.node.specs.Weights.{longest, longest_in, IsWeight}
use Rattle.node.proofs.Sizes.{total_below-take}

module _ {U V : Type 0} where
  -- what waits in one slot more, by successors
  pending-one_more : (xs : List (Slot U V)) (i : ℕ) (d : Slot U V) → i < length xs → pending (seen_slots (take (suc i) xs)) ≡ pending (seen_slots (take i xs)) + length (get_or xs i d).pending.0
  pending-one_more [] i d h = absurd (omega arith)
  pending-one_more (x ∷ xs) zero d h = omega arith
  pending-one_more (x ∷ xs) (suc i) d h = omega (arith, pending-one_more xs i d (omega arith))

  -- likewise how many slots there are
  slots-one_more : (xs : List (Slot U V)) (i : ℕ) → i < length xs → slot_count (seen_slots (take (suc i) xs)) ≡ 1 + slot_count (seen_slots (take i xs))
  slots-one_more [] i h = absurd (omega arith)
  slots-one_more (x ∷ xs) zero h = omega arith
  slots-one_more (x ∷ xs) (suc i) h = omega (arith, slots-one_more xs i (omega arith))

  -- likewise the longest list
  longest-one_more : (xs : List (Slot U V)) (i : ℕ) (d : Slot U V) → i < length xs → longest_in (seen_slots (take (suc i) xs)) ≡ max (longest_in (seen_slots (take i xs))) (max (length (get_or xs i d).pending.0) (longest (get_or xs i d).child.value))
  longest-one_more [] i d h = absurd (omega arith)
  longest-one_more (x ∷ xs) zero d h = omega arith
  longest-one_more (x ∷ xs) (suc i) d h = omega (arith, longest-one_more xs i d (omega arith))

  -- the weight of the first slots and of the child below the next make that of one slot more
  pub weight-more : (xs : List (Slot U V)) (i : ℕ) (s : Slot U V) (count : ℕ) (w v r : PendingWeight) → i < length xs → s ≡ get_or xs i s → count ≡ length s.pending.0 → count ≤ 18446744073709551615 → IsWeight w (inner (seen_slots (take i xs))) → IsWeight v s.child.value → r.longest ≡ max (max count v.longest) w.longest → r.pending ≤ w.pending + count + v.pending → (r.pending < 2 ^ 127 → r.pending ≡ w.pending + count + v.pending) → IsWeight r (inner (seen_slots (take (i + 1) xs)))
  weight-more xs i s count w v r h at here small_count before below long most exact =
      let total_more = total_below-take Pending xs i s h in
      let pending_more : pending (seen_slots (take (i + 1) xs)) ≡ pending (seen_slots (take i xs)) + length (get_or xs i s).pending.0 = rw add-one (pending-one_more xs i s h) in
      let slots_more : slot_count (seen_slots (take (i + 1) xs)) ≡ 1 + slot_count (seen_slots (take i xs)) = rw add-one (slots-one_more xs i h) in
      let longest_more : longest_in (seen_slots (take (i + 1) xs)) ≡ max (longest_in (seen_slots (take i xs))) (max (length (get_or xs i s).pending.0) (longest (get_or xs i s).child.value)) = rw add-one (longest-one_more xs i s h) in
      let own = ap (λ z. length z.pending.0) at in
      let under = ap (λ z. total Pending z.child.value) at in
      let longest_under = ap (λ z. longest z.child.value) at in
      record {
        longest_is = omega (arith, longest_more, long, here, own, longest_under, before.longest_is, below.longest_is);
        at_most = omega (arith, total_more, pending_more, most, here, own, under, before.at_most, below.at_most);
        exact = λ small.
            let sum = exact small in
            let first = before.exact (omega (arith, sum, small)) in
            let second = below.exact (omega (arith, sum, small)) in
            omega (arith, total_more, pending_more, here, own, under, sum, first, second);
        bound = omega (arith, pending_more, slots_more, here, own, small_count, before.bound);
      }
