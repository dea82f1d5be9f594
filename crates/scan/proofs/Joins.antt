-- Scans of two parts of a range that meet, and what a list has grown by.
use Rattle.std.proofs.Common.{◌≡◌, ℕ, ◌+◌, ◌-◌, ◌<◌, ◌≤◌, ◌++◌, true, false, List, [], ◌∷◌, length, length-append, append_assoc, append-nil, refl, ap, sym, ◌∙◌, subst, Option, Some, arith, ◌⊎◌, inl, inr}
use Rattle.std.specs.Prelude.{All, Contains}
use Rattle.std.proofs.lemmas.Option.{none-some, same_Some}
use Rattle.std.proofs.lemmas.List.Elements.{All-append, All-push, All-weaker, All-nil, Contains-append_left, Contains-append_right, Contains-push}
use Rattle.pathkey.specs.Keys.{is_below, next_key}
use Rattle.pathkey.proofs.KeyOrder.{le_le, lt_le, reaches-refl, reaches-from_before, reaches-from_not_before, not_before_from_reaches}
use Rattle.message.specs.Ranges.{reaches, before, within}
use Rattle.message.proofs.KeyOrder.{both, begins_before_end}
use Rattle.message.proofs.NextKey.{by_bool, in_range, one_key, before-next, reaches-from_before_next}
use Rattle.scan.specs.Pairs.{HasNone, IsFirst, IsScan, AddsScan}
use Rattle.scan.proofs.Firsts.{none_start}
use Rattle.scan.proofs.ReadaheadFacts.{pairs_append}

module _ {V : Type 0} where
  -- a scan of one function is one of another that agrees with it on the range, up to an end with the same keys before it
  pub scan_moved : (f g : List ℕ → Option V) (lo : List ℕ) (hi end : Option (List ℕ)) (n : ℕ) (ps : List (List ℕ × V)) → ((k : List ℕ) → within lo hi k ≡ true → within lo end k ≡ true) → ((k : List ℕ) → within lo end k ≡ true → within lo hi k ≡ true) → ((k : List ℕ) → within lo hi k ≡ true → f k ≡ g k) → IsScan g lo hi n ps → IsScan f lo end n ps
  scan_moved f g lo hi end n ps there back agree s = record {
    few = s.few;
    sound = All-weaker (λ p. (within lo hi p.0 ≡ true) × (g p.0 ≡ Some p.1)) (λ p. (within lo end p.0 ≡ true) × (f p.0 ≡ Some p.1)) (λ p h. (there p.0 h.0, agree p.0 h.0 ∙ h.1)) ps s.sound;
    rising = s.rising;
    complete = λ k v w e. s.complete k v (back k w) (sym (agree k (back k w)) ∙ e);
  }

module _ {V : Type 0} (f : List ℕ → Option V) where
  -- if there is no value
  pub scan_none : (lo : List ℕ) (hi : Option (List ℕ)) (n : ℕ) → HasNone f lo hi → IsScan f lo hi n []
  scan_none lo hi n h = record {
    few = omega arith;
    sound = All-nil _;
    rising = λ i j d a b. absurd (omega arith);
    complete = λ k v w e. absurd (none-some v (sym (h k w) ∙ e));
  }

  -- if no pair is requested
  pub scan_zero : (lo : List ℕ) (hi : Option (List ℕ)) → IsScan f lo hi 0 []
  scan_zero lo hi = record {
    few = omega arith;
    sound = All-nil _;
    rising = λ i j d a b. absurd (omega arith);
    complete = λ k v w e. inr (refl, All-nil _);
  }

  module _ (from : List ℕ) (hi : Option (List ℕ)) (p : List ℕ × V) (h : IsFirst f from hi (Some p)) where
    -- the first pair is the only one before the next key
    one_complete : (k : List ℕ) (v : V) → within from (Some (next_key p.0)) k ≡ true → f k ≡ Some v → Contains (p ∷ []) (k, v)
    one_complete k v w e =
        let q = both (reaches from k) (before k (next_key p.0)) w in
        by_bool (before k p.0) (Contains (p ∷ []) (k, v))
        (λ u. absurd (none-some v (sym (h.2 k (in_range from k (Some p.0) q.0 u)) ∙ e)))
        (λ u.
        let key : k ≡ p.0 = one_key k p.0 (reaches-from_before_next k p.0 q.1) (reaches-from_not_before k p.0 u) in
        let value : v ≡ p.1 = same_Some v p.1 (sym e ∙ ap f key ∙ h.1) in
        subst (λ (r : List ℕ × V). Contains (p ∷ []) r) (λ i. (sym key i, sym value i)) (Contains-push [] p))

    scan_one : (n : ℕ) → 0 < n → IsScan f from (Some (next_key p.0)) n (p ∷ [])
    scan_one n some = record {
      few = omega (arith, some);
      sound = All-push (λ r. (within from (Some (next_key p.0)) r.0 ≡ true) × (f r.0 ≡ Some r.1)) [] p (All-nil _) (in_range from p.0 (Some (next_key p.0)) (both (reaches from p.0) (is_below p.0 hi) h.0).0 (before-next p.0), h.1);
      rising = λ i j d a b. absurd (omega (arith, a, b));
      complete = λ k v w e. inl (one_complete k v w e);
    }

    -- no key before the next is past the end of the range
    pub next_inside : (k : List ℕ) → within from (Some (next_key p.0)) k ≡ true → is_below k hi ≡ true
    next_inside k w = begins_before_end k p.0 hi (reaches-from_before_next k p.0 (both (reaches from k) (before k (next_key p.0)) w).1) (both (reaches from p.0) (is_below p.0 hi) h.0).1

    -- and the next is after the beginning
    pub next_reached : reaches from (next_key p.0) ≡ true
    next_reached = le_le from p.0 (next_key p.0) (both (reaches from p.0) (is_below p.0 hi) h.0).0 (reaches-from_before p.0 (next_key p.0) (before-next p.0))

  module _ (lo mid : List ℕ) (hi : Option (List ℕ)) (n : ℕ) (ps qs : List (List ℕ × V)) (low : reaches lo mid ≡ true) (inside : (k : List ℕ) → within lo (Some mid) k ≡ true → is_below k hi ≡ true) (s : IsScan f lo (Some mid) n ps) (t : IsScan f mid hi (n - length ps) qs) where
    -- the pairs of the first part are before the keys of the second
    front_before : (k : List ℕ) → reaches mid k ≡ true → All (λ p. before p.0 k ≡ true) ps
    front_before k r = All-weaker (λ p. (within lo (Some mid) p.0 ≡ true) × (f p.0 ≡ Some p.1)) (λ p. before p.0 k ≡ true) (λ p h. lt_le p.0 mid k (both (reaches lo p.0) (before p.0 mid) h.0).1 r) ps s.sound

    -- what is missing is after as many pairs as the limit
    join_complete : (k : List ℕ) (v : V) → within lo hi k ≡ true → f k ≡ Some v → Contains (ps ++ qs) (k, v) ⊎ ((length (ps ++ qs) ≡ n) × All (λ p. before p.0 k ≡ true) (ps ++ qs))
    join_complete k v w e =
        let q = both (reaches lo k) (is_below k hi) w in
        by_bool (before k mid) (Contains (ps ++ qs) (k, v) ⊎ ((length (ps ++ qs) ≡ n) × All (λ p. before p.0 k ≡ true) (ps ++ qs)))
        (λ b. elim (s.complete k v (in_range lo k (Some mid) q.0 b) e) [
          | inl c ↦ inl (Contains-append_left ps qs (k, v) c)
          | inr x ↦ inr (omega (arith, length-append ps qs, t.few, x.0), All-append (λ p. before p.0 k ≡ true) ps qs x.1 (λ j d l. absurd (omega (arith, l, t.few, x.0))))
        ])
        (λ b.
        let r : reaches mid k ≡ true = reaches-from_not_before k mid b in
        elim (t.complete k v (in_range mid k hi r q.1) e) [
          | inl c ↦ inl (Contains-append_right ps qs (k, v) c)
          | inr y ↦ inr (omega (arith, length-append ps qs, s.few, y.0), All-append (λ p. before p.0 k ≡ true) ps qs (front_before k r) y.1)
        ])

    -- two scans that meet are one
    pub scan_join : IsScan f lo hi n (ps ++ qs)
    scan_join = record {
      few = omega (arith, length-append ps qs, s.few, t.few);
      sound = All-append (λ p. (within lo hi p.0 ≡ true) × (f p.0 ≡ Some p.1)) ps qs
          (All-weaker (λ p. (within lo (Some mid) p.0 ≡ true) × (f p.0 ≡ Some p.1)) (λ p. (within lo hi p.0 ≡ true) × (f p.0 ≡ Some p.1)) (λ p h. (in_range lo p.0 hi (both (reaches lo p.0) (before p.0 mid) h.0).0 (inside p.0 h.0), h.1)) ps s.sound)
          (All-weaker (λ p. (within mid hi p.0 ≡ true) × (f p.0 ≡ Some p.1)) (λ p. (within lo hi p.0 ≡ true) × (f p.0 ≡ Some p.1)) (λ p h. let q = both (reaches mid p.0) (is_below p.0 hi) h.0 in (in_range lo p.0 hi (le_le lo mid p.0 low q.0) q.1, h.1)) qs t.sound);
      rising = pairs_append (λ p q. before p.0 q.0 ≡ true) ps qs s.rising t.rising
          (All-weaker (λ p. (within lo (Some mid) p.0 ≡ true) × (f p.0 ≡ Some p.1)) (λ p. All (λ q. before p.0 q.0 ≡ true) qs)
          (λ p h. All-weaker (λ q. (within mid hi q.0 ≡ true) × (f q.0 ≡ Some q.1)) (λ q. before p.0 q.0 ≡ true) (λ q g. lt_le p.0 mid q.0 (both (reaches lo p.0) (before p.0 mid) h.0).1 (both (reaches mid q.0) (is_below q.0 hi) g.0).0) qs t.sound)
          ps s.sound);
      complete = join_complete;
    }

  -- a list that is unchanged, if there is no value
  pub adds_none : (lo : List ℕ) (hi : Option (List ℕ)) (limit : ℕ) (old new : List (List ℕ × V)) → new ≡ old → HasNone f lo hi → AddsScan f lo hi limit old new
  adds_none lo hi limit old new e h = ([], e ∙ sym (append-nil old), scan_none lo hi (limit - length old) h)

  -- and one that has enough
  pub adds_zero : (lo : List ℕ) (hi : Option (List ℕ)) (limit : ℕ) (old : List (List ℕ × V)) → limit ≤ length old → AddsScan f lo hi limit old old
  adds_zero lo hi limit old l =
      let none : 0 ≡ limit - length old = omega (arith, l) in
      ([], sym (append-nil old), subst (λ m. IsScan f lo hi m []) none (scan_zero lo hi))

  -- a list with the first pair more
  pub adds_one : (from : List ℕ) (hi : Option (List ℕ)) (limit : ℕ) (old new : List (List ℕ × V)) (p : List ℕ × V) → IsFirst f from hi (Some p) → length old < limit → new ≡ old ++ p ∷ [] → AddsScan f from (Some (next_key p.0)) limit old new
  adds_one from hi limit old new p h l e = (p ∷ [], e, scan_one from hi p h (limit - length old) (omega (arith, l)))

  -- what is added twice, in parts that meet
  pub adds_join : (lo mid : List ℕ) (hi : Option (List ℕ)) (limit : ℕ) (old new newer : List (List ℕ × V)) → reaches lo mid ≡ true → ((k : List ℕ) → within lo (Some mid) k ≡ true → is_below k hi ≡ true) → AddsScan f lo (Some mid) limit old new → AddsScan f mid hi limit new newer → AddsScan f lo hi limit old newer
  adds_join lo mid hi limit old new newer low inside a b =
      let more : length new ≡ length old + length a.0 = ap length a.1 ∙ length-append old a.0 in
      let left : limit - length new ≡ limit - length old - length a.0 = omega (arith, more) in
      (a.0 ++ b.0, b.1 ∙ ap (λ (xs : List (List ℕ × V)). xs ++ b.0) a.1 ∙ append_assoc old a.0 b.0, scan_join lo mid hi (limit - length old) a.0 b.0 low inside a.2 (subst (λ m. IsScan f mid hi m b.0) left b.2))

-- what is added for one function, for another that agrees with it there
pub adds_moved : {V : Type 0} (f g : List ℕ → Option V) (lo : List ℕ) (hi end : Option (List ℕ)) (limit : ℕ) (old new : List (List ℕ × V)) → ((k : List ℕ) → within lo hi k ≡ true → within lo end k ≡ true) → ((k : List ℕ) → within lo end k ≡ true → within lo hi k ≡ true) → ((k : List ℕ) → within lo hi k ≡ true → f k ≡ g k) → AddsScan g lo hi limit old new → AddsScan f lo end limit old new
adds_moved f g lo hi end limit old new there back agree a = (a.0, a.1, scan_moved f g lo hi end (limit - length old) a.0 there back agree a.2)

module _ {V : Type 0} (f : List ℕ → Option V) (lo : List ℕ) (hi : Option (List ℕ)) (limit : ℕ) where
  -- a walk is at `from`: the list has grown by the pairs up to there
  pub record HasWalked (from : List ℕ) (old new : List (List ℕ × V)) : Type 0 where
    pub reached : reaches lo from ≡ true
    pub inside : (k : List ℕ) → within lo (Some from) k ≡ true → is_below k hi ≡ true
    pub added : AddsScan f lo (Some from) limit old new

  -- the start of a walk
  pub walk_start : (from : List ℕ) (old new : List (List ℕ × V)) → from ≡ lo → new ≡ old → HasWalked from old new
  walk_start from old new e n = subst (λ (k : List ℕ). HasWalked k old new) (sym e) (record {
    reached = reaches-refl lo;
    inside = λ k w. absurd (
        let q = both (reaches lo k) (before k lo) w in
        let n : before k lo ≡ false = not_before_from_reaches lo k q.0 in
        cc);
    added = adds_none f lo (Some lo) limit old new n (none_start f lo);
  })

  module _ (from : List ℕ) (old new : List (List ℕ × V)) (x : HasWalked from old new) where
    -- it advances to a later key
    pub walk_on : (next : List ℕ) (newer : List (List ℕ × V)) → reaches from next ≡ true → ((k : List ℕ) → within from (Some next) k ≡ true → is_below k hi ≡ true) → AddsScan f from (Some next) limit new newer → HasWalked next old newer
    walk_on next newer r inside a = record {
      reached = le_le lo from next x.reached r;
      inside = λ k w. let q = both (reaches lo k) (before k next) w in by_bool (before k from) (is_below k hi ≡ true) (λ b. x.inside k (in_range lo k (Some from) q.0 b)) (λ b. inside k (in_range from k (Some next) (reaches-from_not_before k from b) q.1));
      added = adds_join f lo from (Some next) limit old new newer x.reached (λ k w. lt_le k from next (both (reaches lo k) (before k from) w).1 r) x.added a;
    }

    -- it ends with the rest of the range
    pub walk_end : (newer : List (List ℕ × V)) → AddsScan f from hi limit new newer → AddsScan f lo hi limit old newer
    walk_end newer a = adds_join f lo from hi limit old new newer x.reached x.inside x.added a

    -- or with enough pairs
    pub walk_full : limit ≤ length new → AddsScan f lo hi limit old new
    walk_full l = walk_end new (adds_zero f from hi limit new l)

    -- or if there is no value left
    pub walk_over : HasNone f from hi → AddsScan f lo hi limit old new
    walk_over h = walk_end new (adds_none f from hi limit new new refl h)

    -- or past the end
    pub walk_past : is_below from hi ≡ false → AddsScan f lo hi limit old new
    walk_past e = walk_over (λ k w. absurd (
        let q = both (reaches from k) (is_below k hi) w in
        let t : is_below from hi ≡ true = begins_before_end from k hi q.0 q.1 in
        cc))

-- what a list without pairs has grown by is all that it has
pub scan_added : {V : Type 0} (f : List ℕ → Option V) (lo : List ℕ) (hi : Option (List ℕ)) (limit : ℕ) (old new : List (List ℕ × V)) → old ≡ [] → AddsScan f lo hi limit old new → IsScan f lo hi limit new
scan_added f lo hi limit old new e a =
    let none : length old ≡ 0 = ap length e in
    let all : limit - length old ≡ limit = omega (arith, none) in
    let same : a.0 ≡ new = sym (a.1 ∙ ap (λ xs. xs ++ a.0) e) in
    subst (λ (m : ℕ). IsScan f lo hi m new) all (subst (λ xs. IsScan f lo hi (limit - length old) xs) same a.2)
