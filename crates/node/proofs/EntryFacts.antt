-- Entries that rise by key: their parts, and where a key is found.
use Rattle.std.proofs.Common.{◌≡◌, ℕ, zero, suc, ◌<◌, ◌≤◌, Bool, true, false, List, [], ◌∷◌, ◌++◌, length, get_or, take, drop, refl, ap, sym, ◌∙◌, subst, Option, Some, None, cond, arith}
use Rattle.std.specs.Prelude.{◌&&◌}
use Rattle.std.specs.Option.{option_or}
use Rattle.std.proofs.lemmas.Bool.{false_from_ne_true}
use Rattle.pathkey.specs.Order.{same}
use Rattle.pathkey.specs.Keys.{is_below}
use Rattle.pathkey.proofs.OrderFacts.{same_true}
use Rattle.pathkey.proofs.KeyOrder.{le_le, lt_le, reaches-from_before, reaches-from_not_before, not_before_from_reaches, from_start}
use Rattle.message.specs.Ranges.{reaches, before, within}
use Rattle.message.proofs.KeyOrder.{both, below_next}
use Rattle.node.specs.Lawful.{first_key, Rises}
use Rattle.node.specs.Meaning.{lookup}

-- a key outside a range is outside one that begins later
narrower : (lo p : List ℕ) (hi : Option (List ℕ)) (k : List ℕ) → reaches lo p ≡ true → within lo hi k ≡ false → within p hi k ≡ false
narrower lo p hi k r out = false_from_ne_true (within p hi k) (λ e.
    let q = both (reaches p k) (is_below k hi) e in
    let inside : within lo hi k ≡ true = ap (λ b. b && is_below k hi) (le_le lo p k r q.0) ∙ q.1 in
    (cc))

module _ {V : Type 0} where
  -- entries rise also from an earlier beginning
  pub rises_from : (p lo : List ℕ) (hi : Option (List ℕ)) (es : List (List ℕ × V)) → reaches p lo ≡ true → Rises lo hi es → Rises p hi es
  rises_from p lo hi [] h r = tt
  rises_from p lo hi (e ∷ es) h r = (le_le p lo e.0 h r.0, r.1, r.2)

  -- and without ends
  pub rises_all : (lo : List ℕ) (hi : Option (List ℕ)) (es : List (List ℕ × V)) → Rises lo hi es → Rises [] None es
  rises_all lo hi es r = rises_from [] lo None es (from_start lo) (unended lo hi es r)
    where
      unended : (lo : List ℕ) (hi : Option (List ℕ)) (es : List (List ℕ × V)) → Rises lo hi es → Rises lo None es
      unended lo hi [] r = tt
      unended lo hi (e ∷ []) r = (r.0, refl, tt)
      unended lo hi (e ∷ (f ∷ es)) r = (r.0, r.1, unended e.0 hi (f ∷ es) r.2)

  -- the first of them stands below their end
  pub first_below : (lo : List ℕ) (hi : Option (List ℕ)) (e : List ℕ × V) (es : List (List ℕ × V)) → Rises lo hi (e ∷ es) → is_below e.0 hi ≡ true
  first_below lo hi e [] r = r.1
  first_below lo hi e (f ∷ es) r = below_next e.0 f.0 hi r.1 (first_below e.0 hi f es r.2)

  -- no entry is found outside their range
  pub lookup_outside : (lo : List ℕ) (hi : Option (List ℕ)) (es : List (List ℕ × V)) (k : List ℕ) → Rises lo hi es → within lo hi k ≡ false → lookup es k ≡ None
  lookup_outside lo hi [] k r out = refl
  lookup_outside lo hi (e ∷ es) k r out =
      let here : within lo hi e.0 ≡ true = ap (λ b. b && is_below e.0 hi) r.0 ∙ first_below lo hi e es r in
      elim (same e.0 k) as (λ b. same e.0 k ≡ b → cond b (Some e.1) (lookup es k) ≡ None) [
        | true ↦ λ s. absurd (let t : within lo hi k ≡ true = subst (λ (q : List ℕ). within lo hi q ≡ true) (same_true e.0 k s) here in cc)
        | false ↦ λ s. lookup_outside e.0 hi es k r.2 (narrower lo e.0 hi k r.0 out)
      ] refl

  -- a look-up in two lists end to end
  pub lookup-append : (xs ys : List (List ℕ × V)) (k : List ℕ) → lookup (xs ++ ys) k ≡ option_or (lookup xs k) (lookup ys k)
  lookup-append [] ys k = refl
  lookup-append (x ∷ xs) ys k = elim (same x.0 k) as (λ b. cond b (Some x.1) (lookup (xs ++ ys) k) ≡ option_or (cond b (Some x.1) (lookup xs k)) (lookup ys k)) [ true ↦ refl | false ↦ lookup-append xs ys k ]

  -- what is left without the first entries rises
  pub rises-drop : (lo : List ℕ) (hi : Option (List ℕ)) (es : List (List ℕ × V)) (j : ℕ) → Rises lo hi es → Rises lo hi (drop j es)
  rises-drop lo hi [] zero r = tt
  rises-drop lo hi [] (suc j) r = tt
  rises-drop lo hi (e ∷ es) zero r = r
  rises-drop lo hi (e ∷ es) (suc j) r = rises_from lo e.0 hi (drop j es) r.0 (rises-drop e.0 hi es j r.2)

  -- what stands before the first of all stands before the first of what is left
  below-drop : (p lo : List ℕ) (hi : Option (List ℕ)) (es : List (List ℕ × V)) (j : ℕ) → Rises lo hi es → is_below p (first_key hi es) ≡ true → is_below p (first_key hi (drop j es)) ≡ true
  below-drop p lo hi [] zero r h = h
  below-drop p lo hi [] (suc j) r h = h
  below-drop p lo hi (e ∷ es) zero r h = h
  below-drop p lo hi (e ∷ es) (suc j) r h = below-drop p e.0 hi es j r.2 (below_next p e.0 (first_key hi es) h r.1)

  -- and what is left without a run of entries
  pub rises-without : (lo : List ℕ) (hi : Option (List ℕ)) (es : List (List ℕ × V)) (i j : ℕ) → i ≤ j → Rises lo hi es → Rises lo hi (take i es ++ drop j es)
  rises-without lo hi [] zero j h r = rises-drop lo hi [] j r
  rises-without lo hi [] (suc i) j h r = rises-drop lo hi [] j r
  rises-without lo hi (e ∷ es) zero j h r = rises-drop lo hi (e ∷ es) j r
  rises-without lo hi (e ∷ es) (suc i) zero h r = absurd (omega arith)
  rises-without lo hi (e ∷ es) (suc zero) (suc j) h r = (r.0, below-drop e.0 e.0 hi es j r.2 r.1, rises-without e.0 hi es zero j (omega arith) r.2)
  rises-without lo hi (e ∷ []) (suc (suc i)) (suc j) h r = (r.0, below-drop e.0 e.0 hi [] j tt r.1, rises-drop e.0 hi [] j tt)
  rises-without lo hi (e ∷ (f ∷ es)) (suc (suc i)) (suc j) h r = (r.0, r.1, rises-without e.0 hi (f ∷ es) (suc i) j (omega arith) r.2)

  -- ---- cut at a key

  -- the entries before a key
  pub rises-before : (lo k : List ℕ) (hi : Option (List ℕ)) (es : List (List ℕ × V)) (i : ℕ) → ((j : ℕ) (d : List ℕ × V) → j < i → before (get_or es j d).0 k ≡ true) → i ≤ length es → Rises lo hi es → Rises lo (Some k) (take i es)
  rises-before lo k hi [] zero low b r = tt
  rises-before lo k hi [] (suc i) low b r = tt
  rises-before lo k hi (e ∷ es) zero low b r = tt
  rises-before lo k hi (e ∷ es) (suc zero) low b r = (r.0, low 0 e (omega arith), tt)
  rises-before lo k hi (e ∷ []) (suc (suc i)) low b r = absurd (omega arith)
  rises-before lo k hi (e ∷ (f ∷ es)) (suc (suc i)) low b r = (r.0, r.1, rises-before e.0 k hi (f ∷ es) (suc i) (λ j d h. low (suc j) d (omega arith)) (omega arith) r.2)

  -- the others
  pub rises-others : (lo k : List ℕ) (hi : Option (List ℕ)) (es : List (List ℕ × V)) (i : ℕ) → ((j : ℕ) (d : List ℕ × V) → i ≤ j → j < length es → before (get_or es j d).0 k ≡ false) → Rises lo hi es → Rises k hi (drop i es)
  rises-others lo k hi [] zero high r = tt
  rises-others lo k hi [] (suc i) high r = tt
  rises-others lo k hi (e ∷ es) zero high r = (reaches-from_not_before e.0 k (high 0 e (omega arith) (omega arith)), r.1, r.2)
  rises-others lo k hi (e ∷ es) (suc i) high r = rises-others e.0 k hi es i (λ j d h b. high (suc j) d (omega arith) (omega arith)) r.2

  -- entries up to a key, and entries from it on
  pub rises-append : (lo k : List ℕ) (hi : Option (List ℕ)) (xs ys : List (List ℕ × V)) → reaches lo k ≡ true → is_below k hi ≡ true → Rises lo (Some k) xs → Rises k hi ys → Rises lo hi (xs ++ ys)
  rises-append lo k hi [] ys h l r s = rises_from lo k hi ys h s
  rises-append lo k hi (x ∷ []) [] h l r s = (r.0, below_next x.0 k hi r.1 l, tt)
  rises-append lo k hi (x ∷ []) (y ∷ ys) h l r s = (r.0, lt_le x.0 k y.0 r.1 s.0, rises_from x.0 k hi (y ∷ ys) (reaches-from_before x.0 k r.1) s)
  rises-append lo k hi (x ∷ (y ∷ xs)) ys h l r s = (r.0, r.1, rises-append x.0 k hi (y ∷ xs) ys (reaches-from_before x.0 k (first_below lo (Some k) x (y ∷ xs) r)) l r.2 s)

  -- the first entry stands at or before each
  pub first_reaches : (lo : List ℕ) (hi : Option (List ℕ)) (e : List ℕ × V) (es : List (List ℕ × V)) (j : ℕ) (d : List ℕ × V) → Rises lo hi (e ∷ es) → j < length es → reaches e.0 (get_or es j d).0 ≡ true
  first_reaches lo hi e [] j d r h = absurd (omega arith)
  first_reaches lo hi e (f ∷ es) zero d r h = r.2.0
  first_reaches lo hi e (f ∷ es) (suc j) d r h = le_le e.0 f.0 (get_or es j d).0 r.2.0 (first_reaches e.0 hi f es j d r.2 (omega arith))

  -- ---- look-ups where a run of entries is left out

  -- a run of other keys does not matter
  pub lookup-without : (k : List ℕ) (es : List (List ℕ × V)) (i e : ℕ) → i ≤ e → ((j : ℕ) (d : List ℕ × V) → i ≤ j → j < e → j < length es → same (get_or es j d).0 k ≡ false) → lookup (take i es ++ drop e es) k ≡ lookup es k
  lookup-without k [] zero zero h other = refl
  lookup-without k [] zero (suc e) h other = refl
  lookup-without k [] (suc i) zero h other = refl
  lookup-without k [] (suc i) (suc e) h other = refl
  lookup-without k (x ∷ es) zero zero h other = refl
  lookup-without k (x ∷ es) zero (suc e) h other =
      lookup-without k es zero e (omega arith) (λ j d l b c. other (suc j) d (omega arith) (omega arith) (omega arith))
      ∙ sym (ap (λ (t : Bool). cond t (Some x.1) (lookup es k)) (other 0 x (omega arith) (omega arith) (omega arith)))
  lookup-without k (x ∷ es) (suc i) zero h other = absurd (omega arith)
  lookup-without k (x ∷ es) (suc i) (suc e) h other = ap (cond (same x.0 k) (Some x.1)) (lookup-without k es i e (omega arith) (λ j d l b c. other (suc j) d (omega arith) (omega arith) (omega arith)))

  -- nothing is found before a key's place
  pub lookup-take : (k : List ℕ) (es : List (List ℕ × V)) (i : ℕ) → ((j : ℕ) (d : List ℕ × V) → j < i → j < length es → same (get_or es j d).0 k ≡ false) → lookup (take i es) k ≡ None
  lookup-take k [] zero other = refl
  lookup-take k [] (suc i) other = refl
  lookup-take k (x ∷ es) zero other = refl
  lookup-take k (x ∷ es) (suc i) other =
      ap (λ (t : Bool). cond t (Some x.1) (lookup (take i es) k)) (other 0 x (omega arith) (omega arith))
      ∙ lookup-take k es i (λ j d l b. other (suc j) d (omega arith) (omega arith))

  -- nor behind it
  pub lookup-drop : (k : List ℕ) (es : List (List ℕ × V)) (e : ℕ) → ((j : ℕ) (d : List ℕ × V) → e ≤ j → j < length es → same (get_or es j d).0 k ≡ false) → lookup (drop e es) k ≡ None
  lookup-drop k [] zero other = refl
  lookup-drop k [] (suc e) other = refl
  lookup-drop k (x ∷ es) zero other =
      ap (λ (t : Bool). cond t (Some x.1) (lookup es k)) (other 0 x (omega arith) (omega arith))
      ∙ lookup-drop k es zero (λ j d l b. other (suc j) d (omega arith) (omega arith))
  lookup-drop k (x ∷ es) (suc e) other = lookup-drop k es e (λ j d l b. other (suc j) d (omega arith) (omega arith))

  -- nothing is found beside a run of entries
  pub lookup-beside : (k : List ℕ) (es : List (List ℕ × V)) (i e : ℕ) → ((j : ℕ) (d : List ℕ × V) → j < i → j < length es → same (get_or es j d).0 k ≡ false) → ((j : ℕ) (d : List ℕ × V) → e ≤ j → j < length es → same (get_or es j d).0 k ≡ false) → lookup (take i es ++ drop e es) k ≡ None
  lookup-beside k es i e low high = lookup-append (take i es) (drop e es) k ∙ ap (λ (o : Option V). option_or o (lookup (drop e es) k)) (lookup-take k es i low) ∙ lookup-drop k es e high

  -- ---- two lists of entries end to end

  -- a look-up that finds nothing more
  pub or_none : (o : Option V) → option_or o None ≡ o
  or_none None = refl
  or_none (Some v) = refl

  -- entries up to a pivot and entries from it on: a key before the pivot is found among the first
  pub lookup-front : (p k : List ℕ) (hi : Option (List ℕ)) (xs ys : List (List ℕ × V)) → Rises p hi ys → before k p ≡ true → lookup (xs ++ ys) k ≡ lookup xs k
  lookup-front p k hi xs ys r h =
      let out : within p hi k ≡ false = ap (λ (b : Bool). b && is_below k hi) (behind p k h) in
      lookup-append xs ys k ∙ ap (λ (o : Option V). option_or (lookup xs k) o) (lookup_outside p hi ys k r out) ∙ or_none (lookup xs k)
    where
      behind : (p k : List ℕ) → before k p ≡ true → reaches p k ≡ false
      behind p k h = false_from_ne_true (reaches p k) (λ e. let f : before k p ≡ false = not_before_from_reaches p k e in cc)

  -- and any other among the second
  pub lookup-back : (lo p k : List ℕ) (xs ys : List (List ℕ × V)) → Rises lo (Some p) xs → before k p ≡ false → lookup (xs ++ ys) k ≡ lookup ys k
  lookup-back lo p k xs ys r h =
      let out : within lo (Some p) k ≡ false = elim (reaches lo k) as (λ b. (b && before k p) ≡ false) [ true ↦ h | false ↦ refl ] in
      lookup-append xs ys k ∙ ap (λ (o : Option V). option_or o (lookup ys k)) (lookup_outside lo (Some p) xs k r out)
