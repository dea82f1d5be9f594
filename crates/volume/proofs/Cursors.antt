-- The position of a walk through the pairs of a tree, when it seeks a key and when it takes a pair.
use Rattle.std.proofs.Common.{◌≡◌, ℕ, Bool, true, false, List, [], length, ap, sym, ◌∙◌, subst, Option, Some, None, arith}
use Rattle.std.specs.Prelude.{is_some}
use Rattle.message.specs.Ranges.{before, reaches}
use Rattle.message.proofs.KeyOrder.{both}
use Rattle.message.proofs.NextKey.{in_range, reaches-next}
use Rattle.pathkey.specs.Keys.{Key, is_below, next_key}
use Rattle.pathkey.specs.declared.range.KeyRange.{KeyRange}
use Rattle.pathkey.proofs.KeyOrder.{le_le, reaches-refl, reaches-from_not_before}
use Rattle.scan.specs.Pairs.{AreAhead, HasNone, IsGiven, IsScan}
use Rattle.scan.proofs.AtHand.{ahead_none}
use Rattle.volume.specs.Cursors.{StandsAt, is_passed}

module _ {V : Type 0} (f : List ℕ → Option V) where
  -- no pair was taken yet
  pub stands_new : (r : KeyRange) (o : Option (List ℕ × V)) (all : Bool) (ps : List (List ℕ × V)) → is_some o ≡ false → all ≡ false → ps ≡ [] → StandsAt f r o all ps
  stands_new r None all ps n a e = ahead_none f r.lo r.hi all ps a e
  stands_new r (Some p) all ps n a e = absurd (cc)

  -- the pairs are ahead of a later key too
  ahead_later : (lo later : List ℕ) (hi : Option (List ℕ)) (all : Bool) (ps : List (List ℕ × V)) → reaches lo later ≡ true → AreAhead f lo hi all ps → AreAhead f later hi all ps
  ahead_later lo later hi all ps h (from, low, scanned) = (from, le_le from lo later low h, scanned)

  -- a later key, which is not after the first pair
  pub stands_later : (r : KeyRange) (later : Key) (o : Option (List ℕ × V)) (all : Bool) (ps : List (List ℕ × V)) → before later r.lo ≡ false → is_passed o later ≡ false
      → StandsAt f r o all ps → StandsAt f (record { lo = later; hi = r.hi }) o all ps
  stands_later r later None all ps h p s = ahead_later r.lo later r.hi all ps (reaches-from_not_before later r.lo h) s
  stands_later r later (Some q) all ps h p ((w, at, none), ahead) =
      let low : reaches r.lo later ≡ true = reaches-from_not_before later r.lo h in
      let high : is_below q.0 r.hi ≡ true = (both (reaches r.lo q.0) (is_below q.0 r.hi) w).1 in (
        (
          in_range later q.0 r.hi (reaches-from_not_before q.0 later p) high,
          at,
          λ k x.
              let y = both (reaches later k) (before k q.0) x in
              none k (in_range r.lo k (Some q.0) (le_le r.lo later k low y.0) y.1),
        ),
        ahead,
      )

  -- a later key, after the first pair, which is skipped
  pub stands_passed : (r : KeyRange) (later : Key) (o n : Option (List ℕ × V)) (all : Bool) (ps : List (List ℕ × V)) → is_passed o later ≡ true → n ≡ None
      → StandsAt f r o all ps → StandsAt f (record { lo = later; hi = r.hi }) n all ps
  stands_passed r later None n all ps p e s = absurd (cc)
  stands_passed r later (Some q) (Some z) all ps p e s = absurd (cc)
  stands_passed r later (Some q) None all ps p e (first, behind) = (next_key q.0, reaches-next q.0 later ∙ p, behind)

  -- no pair was returned
  pub given_none : (lo : Key) (hi : Option Key) (o : Option (List ℕ × V)) (all : Bool) (ps : List (List ℕ × V)) → o ≡ None → IsGiven f lo hi o all ps → HasNone f lo hi
  given_none lo hi None all ps e g = g
  given_none lo hi (Some p) all ps e g = absurd (cc)

  -- none is left
  pub stands_ended : (r : KeyRange) (o : Option (List ℕ × V)) (ps : List (List ℕ × V)) → is_some o ≡ false → ps ≡ [] → HasNone f r.lo r.hi → StandsAt f r o true ps
  stands_ended r (Some p) ps n e none = absurd (cc)
  stands_ended r None ps n e none = (r.lo, reaches-refl r.lo, (1, subst (λ (xs : List (List ℕ × V)). IsScan f r.lo r.hi 1 xs) (sym e) empty, λ _. (let l : length ps ≡ 0 = ap length e in omega arith)))
    where
      empty : IsScan f r.lo r.hi 1 []
      empty = record {
        few = omega arith;
        sound = λ k d l. absurd (omega arith);
        rising = λ i j d a l. absurd (omega arith);
        complete = λ k v w e. absurd (let n : f k ≡ None = none k w in cc);
      }
