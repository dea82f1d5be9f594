-- A message adds at most one entry.
use Rattle.std.proofs.Common.{◌≡◌, ℕ, ◌+◌, ◌≤◌, true, false, List, [], ◌∷◌, length, refl, ap, sym, ◌∙◌, subst, Option, Some, None, cond, arith}
use Rattle.pathkey.specs.Order.{same}
use Rattle.pathkey.specs.Keys.{is_below}
use Rattle.pathkey.proofs.OrderFacts.{same_true}
use Rattle.message.specs.declared.msg.Msg.{Msg}
use Rattle.message.specs.declared.msg.Msg.TheVariants.{Put, Del, DelRange, Edit}
use Rattle.message.specs.Effects.{effect, made_of, touches}
use Rattle.node.specs.Lawful.{Rises, first_key}
use Rattle.node.specs.Meaning.{lookup}
use Rattle.message.proofs.KeyOrder.{below_next}
use Rattle.node.proofs.EntryFacts.{rises-without}
use Rattle.node.proofs.Fewer.{no_more, only_first}

module _ {V : Type 0} (q : List ℕ) where
  -- the entries but for that of the key
  abbrev without : List (List ℕ × V) → List (List ℕ × V)
  without [] = []
  without (x ∷ xs) = cond (same x.0 q) xs (x ∷ without xs)

  -- at most one goes
  length-without : (xs : List (List ℕ × V)) → length xs ≤ length (without xs) + 1
  length-without [] = omega arith
  length-without (x ∷ xs) = elim (same x.0 q) as (λ b. length (x ∷ xs) ≤ length (cond b xs (x ∷ without xs)) + 1) [
    | true ↦ omega arith
    | false ↦ omega (arith, length-without xs)
  ]

  -- what stands below the first stands below that of the others
  first-without : (hi : Option (List ℕ)) (k : List ℕ) (xs : List (List ℕ × V)) → Rises k hi xs → is_below k (first_key hi xs) ≡ true → is_below k (first_key hi (without xs)) ≡ true
  first-without hi k [] r l = l
  first-without hi k (x ∷ xs) r l = elim (same x.0 q) as (λ b. is_below k (first_key hi (cond b xs (x ∷ without xs))) ≡ true) [
    | true ↦ below_next k x.0 (first_key hi xs) l r.1
    | false ↦ l
  ]

  -- the others rise
  rises-others : (lo : List ℕ) (hi : Option (List ℕ)) (xs : List (List ℕ × V)) → Rises lo hi xs → Rises lo hi (without xs)
  rises-others lo hi [] r = r
  rises-others lo hi (x ∷ xs) r = elim (same x.0 q) as (λ b. Rises lo hi (cond b xs (x ∷ without xs))) [
    | true ↦ rises-without lo hi (x ∷ xs) 0 1 (omega arith) r
    | false ↦ (r.0, first-without hi x.0 xs r.2 r.1, rises-others x.0 hi xs r.2)
  ]

  -- the key has no value there
  lookup-removed : (lo : List ℕ) (hi : Option (List ℕ)) (xs : List (List ℕ × V)) → Rises lo hi xs → lookup (without xs) q ≡ None
  lookup-removed lo hi [] r = refl
  lookup-removed lo hi (x ∷ xs) r = elim (same x.0 q) as (λ b. same x.0 q ≡ b → lookup (cond b xs (x ∷ without xs)) q ≡ None) [
    | true ↦ λ s. subst (λ z. lookup xs z ≡ None) (same_true x.0 q s) (only_first lo hi x xs r)
    | false ↦ λ s. ap (λ b. cond b (Some x.1) (lookup (without xs) q)) s ∙ lookup-removed x.0 hi xs r.2
  ] refl

  -- every other key has its own
  lookup-kept : (xs : List (List ℕ × V)) (k : List ℕ) → same q k ≡ false → lookup (without xs) k ≡ lookup xs k
  lookup-kept [] k n = refl
  lookup-kept (x ∷ xs) k n = elim (same x.0 q) as (λ b. same x.0 q ≡ b → lookup (cond b xs (x ∷ without xs)) k ≡ cond (same x.0 k) (Some x.1) (lookup xs k)) [
    | true ↦ λ s. sym (ap (λ b. cond b (Some x.1) (lookup xs k)) (ap (λ z. same z k) (same_true x.0 q s) ∙ n))
    | false ↦ λ s. ap (cond (same x.0 k) (Some x.1)) (lookup-kept xs k n)
  ] refl

  -- entries whose keys but for one all stand among others are at most one more
  one_more : (xs ys : List (List ℕ × V)) → Rises [] None xs → Rises [] None ys → ((k : List ℕ) → same q k ≡ false → lookup ys k ≡ None → lookup xs k ≡ None) → length xs ≤ length ys + 1
  one_more xs ys r s h =
      let few = no_more [] [] None None (without xs) ys (rises-others [] None xs r) s (λ k n. elim (same q k) as (λ b. same q k ≡ b → lookup (without xs) k ≡ None) [
        | true ↦ λ e. subst (λ z. lookup (without xs) z ≡ None) (same_true q k e) (lookup-removed [] None xs r)
        | false ↦ λ e. lookup-kept xs k e ∙ h k e n
      ] refl) in
      omega (arith, few, length-without xs)

module _ {U V : Type 0} (means : U → Option V → Option V) where
  -- a message of one key
  by_key : (m : Msg U V) (q : List ℕ) (es new : List (List ℕ × V)) → ((k : List ℕ) → touches m k ≡ same q k) → Rises [] None es → Rises [] None new → ((k : List ℕ) → lookup new k ≡ effect means m k (lookup es k)) → length new ≤ length es + 1
  by_key m q es new t r s h = one_more q new es s r (λ k e n. h k ∙ ap (λ b. cond b (made_of means m (lookup es k)) (lookup es k)) (t k ∙ e) ∙ n)

  -- a message that gives no value
  by_range : (m : Msg U V) (es new : List (List ℕ × V)) → ((o : Option V) → made_of means m o ≡ None) → Rises [] None es → Rises [] None new → ((k : List ℕ) → lookup new k ≡ effect means m k (lookup es k)) → length new ≤ length es + 1
  by_range m es new g r s h =
      let few = no_more [] [] None None new es s r (λ k n. h k ∙ (elim (touches m k) as (λ b. cond b (made_of means m (lookup es k)) (lookup es k) ≡ None) [ true ↦ g (lookup es k) | false ↦ n ])) in
      omega (arith, few)

  -- any message
  pub grows_by_one : (m : Msg U V) (es new : List (List ℕ × V)) → Rises [] None es → Rises [] None new → ((k : List ℕ) → lookup new k ≡ effect means m k (lookup es k)) → length new ≤ length es + 1
  grows_by_one (Put q v) es new = by_key (Put q v) q es new (λ k. refl)
  grows_by_one (Del q) es new = by_key (Del q) q es new (λ k. refl)
  grows_by_one (DelRange d) es new = by_range (DelRange d) es new (λ o. refl)
  grows_by_one (Edit q u) es new = by_key (Edit q u) q es new (λ k. refl)
