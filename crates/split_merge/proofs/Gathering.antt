-- Slots from a number on, one by one, with what waits in them.
use Rattle.std.proofs.Common.{◌≡◌, ℕ, suc, ◌+◌, ◌<◌, ◌≤◌, ◌++◌, List, [], length, get_or, drop, ap, sym, ◌∙◌, arith, drop-cons}
use Rattle.std.proofs.lemmas.List.{drop_all}
use Rattle.node.specs.declared.node.Slot.{Slot}
use Rattle.node.specs.See.{seen_slots}
use Rattle.split_merge.specs.Raised.{all_msgs}

module _ {U V : Type 0} where
  -- the messages of one slot, and then those of the later ones
  pub gathered_next : (xs : List (Slot U V)) (i : ℕ) (s : Slot U V) → i < length xs → s ≡ get_or xs i s → all_msgs (seen_slots (drop i xs)) ≡ s.pending.0 ++ all_msgs (seen_slots (drop (i + 1) xs))
  gathered_next xs i s h at =
      let n : suc i ≡ i + 1 = omega arith in
      ap (λ (ys : List (Slot U V)). all_msgs (seen_slots ys)) (drop-cons xs i s h)
      ∙ ap (λ (x : Slot U V). x.pending.0 ++ all_msgs (seen_slots (drop (suc i) xs))) (sym at)
      ∙ ap (λ (j : ℕ). s.pending.0 ++ all_msgs (seen_slots (drop j xs))) n

  -- behind the last slot there are none
  pub gathered_end : (xs : List (Slot U V)) (i : ℕ) → length xs ≤ i → all_msgs (seen_slots (drop i xs)) ≡ []
  gathered_end xs i h = ap (λ (ys : List (Slot U V)). all_msgs (seen_slots ys)) (drop_all i xs h)
