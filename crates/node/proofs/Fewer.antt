-- How many entries there are, by the keys that have a value.
use Rattle.std.proofs.Common.{◌≡◌, ℕ, ◌≤◌, true, false, List, [], ◌∷◌, length, refl, ap, sym, ◌∙◌, subst, Option, Some, None, cond, arith}
use Rattle.std.specs.Prelude.{◌&&◌}
use Rattle.pathkey.specs.Order.{same}
use Rattle.pathkey.specs.Keys.{is_below}
use Rattle.pathkey.proofs.OrderFacts.{same_true, same_itself}
use Rattle.pathkey.proofs.KeyOrder.{not_reaches_from_before, reaches-refl}
use Rattle.message.specs.Ranges.{before}
use Rattle.message.proofs.KeyOrder.{beyond}
use Rattle.node.specs.Lawful.{Rises}
use Rattle.node.specs.Meaning.{lookup}
use Rattle.node.proofs.EntryFacts.{lookup_outside}

module _ {V : Type 0} where
  -- no key before that of the first entry has a value
  before_first : (lo : List ℕ) (hi : Option (List ℕ)) (x : List ℕ × V) (xs : List (List ℕ × V)) (k : List ℕ) → Rises lo hi (x ∷ xs) → before k x.0 ≡ true → lookup (x ∷ xs) k ≡ None
  before_first lo hi x xs k r h = lookup_outside x.0 hi (x ∷ xs) k (reaches-refl x.0, r.1, r.2) (ap (λ b. b && is_below k hi) (not_reaches_from_before k x.0 h))

  -- the key of the first entry has no other
  pub only_first : (lo : List ℕ) (hi : Option (List ℕ)) (x : List ℕ × V) (xs : List (List ℕ × V)) → Rises lo hi (x ∷ xs) → lookup xs x.0 ≡ None
  only_first lo hi x [] r = refl
  only_first lo hi x (z ∷ zs) r = before_first x.0 hi z zs x.0 r.2 r.1

  -- the key of the first entry has a value
  has_first : (x : List ℕ × V) (xs : List (List ℕ × V)) → lookup (x ∷ xs) x.0 ≡ None → ⊥
  has_first x xs h = let s = same_itself x.0 in let e : Some x.1 ≡ None = sym (ap (λ b. cond b (Some x.1) (lookup xs x.0)) s) ∙ h in (cc)

  -- entries whose keys all stand among others are no more than those
  pub no_more : (lo lp : List ℕ) (hi hp : Option (List ℕ)) (xs ys : List (List ℕ × V)) → Rises lo hi xs → Rises lp hp ys → ((k : List ℕ) → lookup ys k ≡ None → lookup xs k ≡ None) → length xs ≤ length ys
  no_more lo lp hi hp [] ys r q h = omega arith
  no_more lo lp hi hp (x ∷ xs) [] r q h = absurd (has_first x xs (h x.0 refl))
  no_more lo lp hi hp (x ∷ xs) (y ∷ ys) r q h =
      elim (same y.0 x.0) as (λ b. same y.0 x.0 ≡ b → length (x ∷ xs) ≤ length (y ∷ ys)) [
        | true ↦ λ s. omega (arith, no_more x.0 y.0 hi hp xs ys r.2 q.2 (λ k n. both_tails (same_true y.0 x.0 s) k n))
        | false ↦ λ s. omega (arith, no_more lo y.0 hi hp (x ∷ xs) ys r q.2 (λ k n. second_tail s k n))
      ] refl
    where
      -- where both begin with one key, the rests have no other keys
      both_tails : y.0 ≡ x.0 → (k : List ℕ) → lookup ys k ≡ None → lookup xs k ≡ None
      both_tails e k n = elim (same x.0 k) as (λ b. same x.0 k ≡ b → lookup xs k ≡ None) [
        | true ↦ λ s. subst (λ z. lookup xs z ≡ None) (same_true x.0 k s) (only_first lo hi x xs r)
        | false ↦ λ s.
            let other : lookup (y ∷ ys) k ≡ None = ap (λ b. cond b (Some y.1) (lookup ys k)) (ap (λ z. same z k) e ∙ s) ∙ n in
            sym (ap (λ b. cond b (Some x.1) (lookup xs k)) s) ∙ h k other
      ] refl

      -- where they begin with two, the second's first key is not among the first
      second_tail : same y.0 x.0 ≡ false → (k : List ℕ) → lookup ys k ≡ None → lookup (x ∷ xs) k ≡ None
      second_tail t k n = elim (same y.0 k) as (λ b. same y.0 k ≡ b → lookup (x ∷ xs) k ≡ None) [
        | true ↦ λ s. subst (λ z. lookup (x ∷ xs) z ≡ None) (same_true y.0 k s) (elim (before y.0 x.0) as (λ b. before y.0 x.0 ≡ b → lookup (x ∷ xs) y.0 ≡ None) [
          | true ↦ λ f. before_first lo hi x xs y.0 r f
          | false ↦ λ f. absurd (has_first x xs (h x.0 (before_first lp hp y ys x.0 q (beyond y.0 x.0 f t))))
        ] refl)
        | false ↦ λ s. h k (ap (λ b. cond b (Some y.1) (lookup ys k)) s ∙ n)
      ] refl
