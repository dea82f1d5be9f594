-- A scan up to its current position.
use Rattle.std.proofs.Common.{◌≡◌, ℕ, ◌≤◌, ◌++◌, true, false, List, [], ◌∷◌, length, get_or, ap, sym, ◌∙◌, subst, Option, Some, arith, ◌⊎◌, inl, inr}
use Rattle.std.specs.Prelude.{All, Contains}
use Rattle.std.proofs.lemmas.Option.{none-some, same_Some}
use Rattle.std.proofs.lemmas.List.Elements.{All-push, All-weaker, All-nil, Contains-append_left, Contains-push}
use Rattle.std.proofs.lemmas.List.Quantifiers.{all_pairs_push}
use Rattle.pathkey.specs.Keys.{is_below, next_key}
use Rattle.pathkey.proofs.KeyOrder.{le_le, lt_le, reaches-refl, reaches-from_before, reaches-from_not_before, not_before_from_reaches}
use Rattle.message.specs.Ranges.{reaches, before, within}
use Rattle.message.proofs.KeyOrder.{both}
use Rattle.scan.specs.Pairs.{HasNone, IsFirst, IsRising, IsScan}
use Rattle.message.proofs.NextKey.{by_bool, in_range, one_key, before-next, reaches-from_before_next}

module _ {V : Type 0} (f : List ℕ → Option V) (lo : List ℕ) (hi : Option (List ℕ)) where
  -- these are the pairs of the range before `from`
  pub record IsPart (from : List ℕ) (ps : List (List ℕ × V)) : Type 0 where
    pub reached : reaches lo from ≡ true
    pub sound : All (λ p. (within lo hi p.0 ≡ true) × (f p.0 ≡ Some p.1)) ps
    pub behind : All (λ p. before p.0 from ≡ true) ps
    pub rising : IsRising ps
    pub complete : (k : List ℕ) (v : V) → within lo hi k ≡ true → before k from ≡ true → f k ≡ Some v → Contains ps (k, v)

  -- no pair yet
  part_none : IsPart lo []
  part_none = record {
    reached = reaches-refl lo;
    sound = All-nil _;
    behind = All-nil _;
    rising = λ i j d p q. absurd (omega arith);
    complete = λ k v w b e. absurd (
        let q = both (reaches lo k) (is_below k hi) w in
        let n : before k lo ≡ false = not_before_from_reaches lo k q.0 in
        cc);
  }

  -- the same in the words of the code
  pub part_start : (from : List ℕ) (ps : List (List ℕ × V)) → from ≡ lo → ps ≡ [] → IsPart from ps
  part_start from ps e n = subst (λ (k : List ℕ). IsPart k ps) (sym e) (subst (λ (qs : List (List ℕ × V)). IsPart lo qs) (sym n) part_none)

  module _ (from : List ℕ) (ps : List (List ℕ × V)) (x : IsPart from ps) where
    -- the pairs of the range up to the next one
    more_complete : (p : List ℕ × V) → IsFirst f from hi (Some p) → (k : List ℕ) (v : V) → within lo hi k ≡ true → before k (next_key p.0) ≡ true → f k ≡ Some v → Contains (ps ++ p ∷ []) (k, v)
    more_complete p h k v w b e = by_bool (before k from) (Contains (ps ++ p ∷ []) (k, v))
        (λ t. Contains-append_left ps (p ∷ []) (k, v) (x.complete k v w t e))
        (λ t. by_bool (before k p.0) (Contains (ps ++ p ∷ []) (k, v))
        (λ u. absurd (none-some v (sym (h.2 k (in_range from k (Some p.0) (reaches-from_not_before k from t) u)) ∙ e)))
        (λ u.
        let key : k ≡ p.0 = one_key k p.0 (reaches-from_before_next k p.0 b) (reaches-from_not_before k p.0 u) in
        let value : v ≡ p.1 = same_Some v p.1 (sym e ∙ ap f key ∙ h.1) in
        subst (λ (r : List ℕ × V). Contains (ps ++ p ∷ []) r) (λ i. (sym key i, sym value i)) (Contains-push ps p)))

    -- one pair more
    part_push : (p : List ℕ × V) → IsFirst f from hi (Some p) → IsPart (next_key p.0) (ps ++ p ∷ [])
    part_push p h =
        let q = both (reaches from p.0) (is_below p.0 hi) h.0 in
        let low : reaches lo p.0 ≡ true = le_le lo from p.0 x.reached q.0 in
        record {
          reached = le_le lo p.0 (next_key p.0) low (reaches-from_before p.0 (next_key p.0) (before-next p.0));
          sound = All-push (λ r. (within lo hi r.0 ≡ true) × (f r.0 ≡ Some r.1)) ps p x.sound (in_range lo p.0 hi low q.1, h.1);
          behind = All-push (λ r. before r.0 (next_key p.0) ≡ true) ps p (All-weaker (λ r. before r.0 from ≡ true) (λ r. before r.0 (next_key p.0) ≡ true) (λ r b. lt_le r.0 p.0 (next_key p.0) (lt_le r.0 from p.0 b q.0) (reaches-from_before p.0 (next_key p.0) (before-next p.0))) ps x.behind) (before-next p.0);
          rising = all_pairs_push (λ a b. before a.0 b.0 ≡ true) ps p x.rising (λ k d l. lt_le (get_or ps k d).0 from p.0 (x.behind k d l) q.0);
          complete = more_complete p h;
        }

    pub part_more : (p : List ℕ × V) (next : List ℕ) (new : List (List ℕ × V)) → IsFirst f from hi (Some p) → next ≡ next_key p.0 → new ≡ ps ++ p ∷ [] → IsPart next new
    part_more p next new h e n = subst (λ (k : List ℕ). IsPart k new) (sym e) (subst (λ (qs : List (List ℕ × V)). IsPart (next_key p.0) qs) (sym n) (part_push p h))

    -- no pair is left
    pub scan_all : (limit : ℕ) → length ps ≤ limit → HasNone f from hi → IsScan f lo hi limit ps
    scan_all limit l h = record {
      few = l;
      sound = x.sound;
      rising = x.rising;
      complete = λ k v w e. by_bool (before k from) (Contains ps (k, v) ⊎ ((length ps ≡ limit) × All (λ p. before p.0 k ≡ true) ps))
          (λ t. inl (x.complete k v w t e))
          (λ t. absurd (none-some v (sym (h k (in_range from k hi (reaches-from_not_before k from t) (both (reaches lo k) (is_below k hi) w).1)) ∙ e)));
    }

    -- the list has reached its limit
    pub scan_full : (limit : ℕ) → length ps ≡ limit → IsScan f lo hi limit ps
    scan_full limit l = record {
      few = omega (arith, l);
      sound = x.sound;
      rising = x.rising;
      complete = λ k v w e. by_bool (before k from) (Contains ps (k, v) ⊎ ((length ps ≡ limit) × All (λ p. before p.0 k ≡ true) ps))
          (λ t. inl (x.complete k v w t e))
          (λ t. inr (l, All-weaker (λ p. before p.0 from ≡ true) (λ p. before p.0 k ≡ true) (λ p b. lt_le p.0 from k b (reaches-from_not_before k from t)) ps x.behind));
    }
