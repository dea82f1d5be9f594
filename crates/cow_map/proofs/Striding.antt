-- The steps of a search.
use Rattle.std.proofs.Common.{◌≡◌, ℕ, ◌+◌, ◌<◌, Bool, true, false, List, length, sym, ◌∙◌, arith}
use Rattle.std.proofs.lemmas.Bool.{false_from_ne_true, false≢true}
use Rattle.std.specs.List.{HoldsAt}
use Rattle.std.specs.List.Sorted.{IsPartitionedBy, IsPartitionPoint}
use Rattle.cow_map.specs.Striding.{IsBetween}
use Rattle.std.specs.Fn.{AlwaysReturns, Called}
use Rattle.std.proofs.Common.{[], ◌∷◌}
use denote.Param.Members.{Mut}

module _ {X : Type 0} (p : X → Bool) (xs : List X) where
  pub unsearched : IsBetween p xs 0 (length xs)
  unsearched = record { below = λ first k d a b. absurd (omega arith); above = λ first k d a b. absurd (omega arith) }

  pub risen : (low high m : ℕ) → m < length xs → HoldsAt (λ y. p y ≡ true) xs m → IsBetween p xs low high → IsBetween p xs (m + 1) high
  risen low high m in' q n = record { below = λ first k d a b. first k m d (omega arith) in' (q d); above = n.above }

  pub fallen : (low high m : ℕ) → HoldsAt (λ y. p y ≡ false) xs m → IsBetween p xs low high → IsBetween p xs low m
  fallen low high m q n = record { below = n.below; above = λ first k d a b. false_from_ne_true _ (λ t. false≢true (sym (q d) ∙ first m k d a b t)) }

  pub found : (low : ℕ) → IsBetween p xs low low → IsPartitionedBy p xs → IsPartitionPoint (λ y. p y ≡ true) (λ y. p y ≡ false) xs low
  found low n first = (n.below first, n.above first)

-- a test that always answers by P does so now and still does afterwards
pub answers_next : {F X R : Type 0} (g : Mut F X R) (P : X → R → Type 0) (f : F) (a : X) (r : R) (f' : F) → Called g f a r f' → AlwaysReturns g P f → P a r × AlwaysReturns g P f'
answers_next g P f a r f' c h = ((h.at (a ∷ []) r f' c).0, record { at = λ xs. (h.at (a ∷ xs) r f' c).1 })
