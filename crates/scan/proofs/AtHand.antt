-- The pairs of a scan, one after the other.
use Rattle.std.proofs.Common.{◌≡◌, ℕ, zero, suc, ◌+◌, ◌-◌, ◌<◌, true, false, cond, eqb, List, [], ◌∷◌, ◌++◌, length, drop, get_or, refl, ap, sym, ◌∙◌, subst, Bool, Option, Some, None, arith, ◌⊎◌, inl, inr, append-nil}
use denote.Ref.{Bor}
use denote.Param.Members.{Mut}
use Rattle.std.specs.Prelude.{All, Contains, MatchOption}
use Rattle.std.specs.Fn.{Called, ComputesKey}
use Rattle.std.specs.List.{starts_with, prefix_len}
use Rattle.std.specs.Option.{option_to_list}
use Rattle.std.proofs.lemmas.Map.Made.{Contains-tail}
use Rattle.std.proofs.lemmas.List.Elements.{All-contains}
use Rattle.std.proofs.lemmas.Bool.Decides.{Decides-eqb}
use Rattle.std.proofs.lemmas.Fn.{always_returns_same}
use Rattle.std.proofs.lemmas.List.Elements.{All-weaker}
use Rattle.std.proofs.lemmas.Slice.Eq.{starts_is}
use Rattle.pathkey.specs.Keys.{is_below, next_key}
use Rattle.pathkey.proofs.KeyOrder.{le_le, reaches-refl, reaches-from_before, reaches-from_not_before, not_before_from_reaches}
use Rattle.message.specs.Ranges.{reaches, before, within}
use Rattle.message.proofs.KeyOrder.{both, below_next}
use Rattle.message.proofs.NextKey.{by_bool, in_range, reaches-next}
use Rattle.scan.specs.Pairs.{HasNone, IsFirst, IsScan, AreFrom, AreAhead, IsGiven, from_unpassed, IsTaken, IsEndOf}
use Rattle.scan.proofs.Joins.{scan_zero}

-- no value can be the one
none_of : {V : Type 0} (o : Option V) → ((v : V) → o ≡ Some v → ⊥) → o ≡ None
none_of None h = refl
none_of (Some v) h = absurd (h v refl)

module _ {V : Type 0} (f : List ℕ → Option V) where
  module _ (from : List ℕ) (hi : Option (List ℕ)) (n : ℕ) (p : List ℕ × V) (ps : List (List ℕ × V)) (s : IsScan f from hi n (p ∷ ps)) where
    head_there : (within from hi p.0 ≡ true) × (f p.0 ≡ Some p.1)
    head_there = s.sound 0 p (omega arith)

    tail_behind : All (λ q. before p.0 q.0 ≡ true) ps
    tail_behind = λ j d l. s.rising 0 (suc j) d (omega arith) (omega (arith, l))

    -- no pair is before the first
    pub all_from : (j : ℕ) (d : List ℕ × V) → j < length (p ∷ ps) → reaches p.0 (get_or (p ∷ ps) j d).0 ≡ true
    all_from zero d l = reaches-refl p.0
    all_from (suc j) d l = reaches-from_before p.0 (get_or ps j d).0 (tail_behind j d (omega (arith, l)))

    none_before : (lo : List ℕ) → reaches from lo ≡ true → HasNone f lo (Some p.0)
    none_before lo low k w =
        let q = both (reaches lo k) (before k p.0) w in
        let r = both (reaches from p.0) (is_below p.0 hi) head_there.0 in
        none_of (f k) (λ v e. elim (s.complete k v (in_range from k hi (le_le from lo k low q.0) (below_next k p.0 hi q.1 r.1)) e) [
          | inl c ↦ (let h : before k p.0 ≡ false = not_before_from_reaches p.0 k (All-contains (λ (x : List ℕ × V). reaches p.0 x.0 ≡ true) (p ∷ ps) (k, v) all_from c) in absurd (let g = q.1 in cc))
          | inr x ↦ (let h : before k p.0 ≡ false = not_before_from_reaches p.0 k (reaches-from_before p.0 k (x.1 0 p (omega arith))) in absurd (let g = q.1 in cc))
        ])

    -- the first pair of the scan is that of the range from a later key on, which it reaches
    pub head_first : (lo : List ℕ) → reaches from lo ≡ true → before p.0 lo ≡ false → IsFirst f lo hi (Some p)
    head_first lo low b = (in_range lo p.0 hi (reaches-from_not_before p.0 lo b) (both (reaches from p.0) (is_below p.0 hi) head_there.0).1, head_there.1, none_before lo low)

    tail_complete : (k : List ℕ) (v : V) → within (next_key p.0) hi k ≡ true → f k ≡ Some v → Contains ps (k, v) ⊎ ((length ps ≡ n - 1) × All (λ q. before q.0 k ≡ true) ps)
    tail_complete k v w e =
        let q = both (reaches (next_key p.0) k) (is_below k hi) w in
        let r = both (reaches from p.0) (is_below p.0 hi) head_there.0 in
        let after : before p.0 k ≡ true = sym (reaches-next p.0 k) ∙ q.0 in
        elim (s.complete k v (in_range from k hi (le_le from p.0 k r.0 (reaches-from_before p.0 k after)) q.1) e) [
          | inl c ↦ inl (Contains-tail p ps (k, v) (λ same.
              let h : before p.0 k ≡ false = ap (λ (x : List ℕ × V). before p.0 x.0) (sym same) ∙ not_before_from_reaches p.0 p.0 (reaches-refl p.0) in
              absurd (cc)) c)
          | inr x ↦ inr (omega (arith, x.0), λ j d l. x.1 (suc j) d (omega (arith, l)))
        ]

    -- the rest of the scan is one after the first pair
    pub tail_scan : IsScan f (next_key p.0) hi (n - 1) ps
    tail_scan = record {
      few = omega (arith, s.few);
      sound = λ j d l.
          let h = s.sound (suc j) d (omega (arith, l)) in
          (in_range (next_key p.0) (get_or ps j d).0 hi (reaches-next p.0 (get_or ps j d).0 ∙ tail_behind j d l) (both (reaches from (get_or ps j d).0) (is_below (get_or ps j d).0 hi) h.0).1, h.1);
      rising = λ i j d a b. s.rising (suc i) (suc j) d (omega (arith, a)) (omega (arith, b));
      complete = tail_complete;
    }

  -- none is taken yet
  pub ahead_none : (lo : List ℕ) (hi : Option (List ℕ)) (all : Bool) (ps : List (List ℕ × V)) → all ≡ false → ps ≡ [] → AreAhead f lo hi all ps
  ahead_none lo hi all ps a e = (lo, reaches-refl lo, (0, subst (λ (xs : List (List ℕ × V)). IsScan f lo hi 0 xs) (sym e) (scan_zero f lo hi), λ t. absurd (let g : all ≡ false = a in cc)))

  -- the first of them is before the range
  pub ahead_passed : (lo : List ℕ) (hi : Option (List ℕ)) (all : Bool) (p : List ℕ × V) (ps : List (List ℕ × V)) → before p.0 lo ≡ true → AreAhead f lo hi all (p ∷ ps) → AreAhead f lo hi all ps
  ahead_passed lo hi all p ps b (from, low, (n, s, short)) = (next_key p.0, reaches-next p.0 lo ∙ b, (n - 1, tail_scan from hi n p ps s, λ t. omega (arith, short t)))

  -- or is given
  pub ahead_given : (lo : List ℕ) (hi : Option (List ℕ)) (all : Bool) (p : List ℕ × V) (ps : List (List ℕ × V)) → before p.0 lo ≡ false → AreAhead f lo hi all (p ∷ ps) → IsGiven f lo hi (Some p) all ps
  ahead_given lo hi all p ps b (from, low, (n, s, short)) = (head_first from hi n p ps s lo low b, (n - 1, tail_scan from hi n p ps s, λ t. omega (arith, short t)))

  -- a scan with a limit above 0 that found none
  pub found_none : (lo : List ℕ) (hi : Option (List ℕ)) (n : ℕ) → 0 < n → IsScan f lo hi n [] → HasNone f lo hi
  found_none lo hi n some s = λ k w. none_of (f k) (λ v h.
      elim (s.complete k v w h) [
        | inl c ↦ (let l = c.1 in omega (arith, l))
        | inr x ↦ omega (arith, x.0, some)
      ])

  -- none is left
  pub ahead_over : (lo : List ℕ) (hi : Option (List ℕ)) (all : Bool) (ps : List (List ℕ × V)) → all ≡ true → ps ≡ [] → AreAhead f lo hi all ps → HasNone f lo hi
  ahead_over lo hi all ps t e (from, low, (n, s, short)) k w =
      let q = both (reaches lo k) (is_below k hi) w in
      let none : length ps ≡ 0 = ap length e in
      found_none from hi n (omega (arith, short t)) (subst (λ (xs : List (List ℕ × V)). IsScan f from hi n xs) e s) k (in_range from k hi (le_le from lo k low q.0) q.1)

  -- what a new piece gives
  pub piece_given : (lo : List ℕ) (hi : Option (List ℕ)) (n : ℕ) (r : Option (List ℕ × V)) (all : Bool) (piece ps : List (List ℕ × V)) → 0 < n → IsScan f lo hi n piece → (all ≡ true → length piece < n) → piece ≡ option_to_list r ++ ps → (r ≡ None → ps ≡ []) → IsGiven f lo hi r all ps
  piece_given lo hi n None all piece ps some s short e nil = found_none lo hi n some (subst (λ (xs : List (List ℕ × V)). IsScan f lo hi n xs) (e ∙ nil refl) s)
  piece_given lo hi n (Some p) all piece ps some s short e nil =
      let t : IsScan f lo hi n (p ∷ ps) = subst (λ (xs : List (List ℕ × V)). IsScan f lo hi n xs) e s in
      let h : (within lo hi p.0 ≡ true) × (f p.0 ≡ Some p.1) = t.sound 0 p (omega arith) in
      ahead_given lo hi all p ps (not_before_from_reaches lo p.0 (both (reaches lo p.0) (is_below p.0 hi) h.0).0) (lo, reaches-refl lo, (n, t, λ x. subst (λ (xs : List (List ℕ × V)). length xs < n) e (short x)))

  -- what is given is the first pair
  pub given_first : (lo : List ℕ) (hi : Option (List ℕ)) (r : Option (List ℕ × V)) (all : Bool) (ps : List (List ℕ × V)) → IsGiven f lo hi r all ps → IsFirst f lo hi r
  given_first lo hi None all ps g = g
  given_first lo hi (Some p) all ps g = g.0

  -- and the others are ahead of the key from which the caller continues
  pub given_ahead : (lo : List ℕ) (hi : Option (List ℕ)) (r : Option (List ℕ × V)) (p : List ℕ × V) (all : Bool) (ps : List (List ℕ × V)) → r ≡ Some p → IsGiven f lo hi r all ps → (next : List ℕ) → reaches (next_key p.0) next ≡ true → AreAhead f next hi all ps
  given_ahead lo hi r p all ps e g next h =
      let given : IsGiven f lo hi (Some p) all ps = subst (λ x. IsGiven f lo hi x all ps) e g in
      (next_key p.0, h, given.1)

-- ---- pairs that are passed by a test of their keys

module _ {V : Type 0} (test : List ℕ → Bool) (p : List ℕ × V) (ps : List (List ℕ × V)) where
  -- a pair that passes the test is none of those that are left
  pub unpassed_behind : test p.0 ≡ true → from_unpassed test (p ∷ ps) ≡ from_unpassed test ps
  unpassed_behind e =
      let more : 1 + prefix_len (λ (q : List ℕ × V). test q.0) ps ≡ suc (prefix_len (λ (q : List ℕ × V). test q.0) ps) = omega arith in
      ap (λ (b : Bool). drop (cond b (1 + prefix_len (λ (q : List ℕ × V). test q.0) ps) 0) (p ∷ ps)) e ∙ ap (λ (n : ℕ). drop n (p ∷ ps)) more

  -- and one that does not is the first of them
  pub unpassed_first : test p.0 ≡ false → from_unpassed test (p ∷ ps) ≡ p ∷ ps
  unpassed_first e = ap (λ (b : Bool). drop (cond b (1 + prefix_len (λ (q : List ℕ × V). test q.0) ps) 0) (p ∷ ps)) e

  -- which is removed
  pub unpassed_taken : (old : List (List ℕ × V)) → from_unpassed test old ≡ from_unpassed test (p ∷ ps) → test p.0 ≡ false → IsTaken test old (Some p) ps
  unpassed_taken old e u = (e ∙ unpassed_first u, λ none. absurd (let clash : Some p ≡ None = none in cc))

-- two tests that answer alike at the keys pass the same pairs
pub unpassed_alike : {V : Type 0} (a b : List ℕ → Bool) (ps : List (List ℕ × V)) → All (λ p. a p.0 ≡ b p.0) ps → from_unpassed a ps ≡ from_unpassed b ps
unpassed_alike a b [] h = refl
unpassed_alike a b (p ∷ ps) h =
    let same : a p.0 ≡ b p.0 = h 0 p (omega arith) in
    by_bool (a p.0) (from_unpassed a (p ∷ ps) ≡ from_unpassed b (p ∷ ps))
    (λ t. unpassed_behind a p ps t ∙ unpassed_alike a b ps (λ j d l. h (suc j) d (omega (arith, l))) ∙ sym (unpassed_behind b p ps (sym same ∙ t)))
    (λ t. unpassed_first a p ps t ∙ sym (unpassed_first b p ps (sym same ∙ t)))

module _ {V : Type 0} (f : List ℕ → Option V) (lo : List ℕ) (hi : Option (List ℕ)) (all : Bool) where
  -- the first of the pairs is returned from lo on, and if there is none, none is left
  abbrev pub Gives : List (List ℕ × V) → Type 0
  Gives [] = AreAhead f lo hi all []
  Gives (p ∷ ps) = IsGiven f lo hi (Some p) all ps

  -- those before lo are skipped
  pub ahead_gives : (ps : List (List ℕ × V)) → AreAhead f lo hi all ps → Gives (from_unpassed (λ k. before k lo) ps)
  ahead_gives [] a = a
  ahead_gives (p ∷ ps) a = by_bool (before p.0 lo) (Gives (from_unpassed (λ k. before k lo) (p ∷ ps)))
      (λ t. subst Gives (sym (unpassed_behind (λ k. before k lo) p ps t)) (ahead_gives ps (ahead_passed f lo hi all p ps t a)))
      (λ t. subst Gives (sym (unpassed_first (λ k. before k lo) p ps t)) (ahead_given f lo hi all p ps t a))

  taken_by : (taken : Option (List ℕ × V)) (new : List (List ℕ × V)) → (taken ≡ None → new ≡ []) → Gives (option_to_list taken ++ new) → MatchOption taken (AreAhead f lo hi all []) (λ p. IsGiven f lo hi (Some p) all new)
  taken_by None new nil g = subst Gives (nil refl) g
  taken_by (Some p) new nil g = g

  -- the first that is not before lo was removed
  pub ahead_taken : (old : List (List ℕ × V)) (taken : Option (List ℕ × V)) (new : List (List ℕ × V)) → IsTaken (λ k. before k lo) old taken new → AreAhead f lo hi all old → MatchOption taken (AreAhead f lo hi all []) (λ p. IsGiven f lo hi (Some p) all new)
  ahead_taken old taken new h a = taken_by taken new h.1 (subst Gives h.0 (ahead_gives old a))

-- the clause of `take_unless`, if each call of the closure returns the test of a key
pub taken_by_test : {V F : Type 0} {g : Mut F (Bor (List ℕ) × Unit {0}) Bool} {f : F} (test : List ℕ → Bool) (old : List (List ℕ × V)) (taken : Option (List ℕ × V)) (new : List (List ℕ × V))
    → ((t : List ℕ → Bool) → ComputesKey g t f → IsTaken t old taken new)
    → ((a : Bor (List ℕ) × Unit {0}) (r : Bool) (f' : F) → Called g f a r f' → (r ≡ test a.0.now) × (f' ≡ f)) → IsTaken test old taken new
taken_by_test {g = g} {f = f} test old taken new clause h = clause test (always_returns_same g (λ a r. r ≡ test a.0.now) f h)

-- a list begins with itself
begins_itself : (k : List ℕ) → starts_with eqb k k ≡ true
begins_itself k = (starts_is {E = eqb} Decides-eqb k k (starts_with eqb k k) refl).1 [] (sym (append-nil k))

module _ {V : Type 0} (f : List ℕ → Option V) (front end : List ℕ) (hi : Option (List ℕ)) (all : Bool) (is_end : IsEndOf end front) where
  -- the first that does not begin with `front` was removed, if all are after that key
  pub past_taken : (old : List (List ℕ × V)) (taken : Option (List ℕ × V)) (new : List (List ℕ × V)) → IsTaken (λ k. starts_with eqb k front) old taken new → AreFrom f (next_key front) hi all old → MatchOption taken (AreAhead f end hi all []) (λ p. IsGiven f end hi (Some p) all new)
  past_taken old taken new h (n, s, short) =
      let behind : before front end ≡ true = is_end front (reaches-refl front) ∙ begins_itself front in
      let alike : All (λ p. before p.0 end ≡ starts_with eqb p.0 front) old = All-weaker (λ p. (within (next_key front) hi p.0 ≡ true) × (f p.0 ≡ Some p.1)) (λ p. before p.0 end ≡ starts_with eqb p.0 front)
      (λ p there. is_end p.0 (reaches-from_before front p.0 (sym (reaches-next front p.0) ∙ (both (reaches (next_key front) p.0) (is_below p.0 hi) there.0).0))) old s.sound in
      ahead_taken f end hi all old taken new (unpassed_alike (λ k. before k end) (λ k. starts_with eqb k front) old alike ∙ h.0, h.1)
      (next_key front, reaches-next front end ∙ behind, (n, s, short))
