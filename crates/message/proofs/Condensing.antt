-- A sorted part with a tail.
use Rattle.std.proofs.Common.{Option, ◌≡◌, ℕ, zero, suc, ◌-◌, ◌<◌, ◌≤◌, refl, sym, ap, ◌∙◌, List, [], ◌∷◌, ◌++◌, length, take, drop, arith, subst, append_assoc, length-append, false, ◌||◌}
use Rattle.std.proofs.Math.Bool.{or_assoc}
use Rattle.message.specs.declared.msg.Msg.{Msg}
use Rattle.message.specs.declared.resolution.Resolution.{Resolution}
use Rattle.message.specs.declared.resolution.Resolution.TheVariants.{Untouched, Value, NeedsBase}
use Rattle.message.specs.Effects.{touches, any_touches, effects, Takes}
use Rattle.message.specs.Resolution.{IsResolved}
use Rattle.message.proofs.Lists.{effects-append, any_touches-append, takes-append, untouched}
use Rattle.message.proofs.Composing.{untouched_first, untouched_second}

module _ {U V : Type 0} (means : U → Option V → Option V) where
  -- a message put behind the tail
  pub takes_end : (s t f h : List (Msg U V)) (m : Msg U V) → t ≡ s → h ≡ f ++ m ∷ [] → Takes means (s ++ f) (m ∷ []) (t ++ h)
  takes_end s t f h m e g = subst (λ x. Takes means (s ++ f) (m ∷ []) x) (append_assoc s f (m ∷ []) ∙ ap (λ x. s ++ x) (sym g) ∙ ap (λ x. x ++ h) (sym e)) (takes-append means (s ++ f) (m ∷ []))

  -- the oldest messages of one list laid over another that stands before it
  pub takes_folded : (s t f r xs : List (Msg U V)) → f ≡ xs ++ r → Takes means s xs t → Takes means (s ++ f) [] (t ++ r)
  takes_folded s t f r xs e l = subst (λ x. Takes means (s ++ x) [] (t ++ r)) (sym e) (record {
    meaning = λ k v.
        effects-append means t r k v
        ∙ ap (λ w. effects means r k w) (l.meaning k v)
        ∙ sym (effects-append means xs r k (effects means s k v))
        ∙ sym (effects-append means s (xs ++ r) k v);
    bound = omega (arith, l.bound, length-append t r, length-append s (xs ++ r), length-append xs r);
    touched = λ k h g.
        let low = untouched_second s (xs ++ r) k h in
        any_touches-append t r k
        (l.touched k (untouched_first s (xs ++ r) k h) (untouched_first xs r k low))
        (untouched_second xs r k low);
  })

  -- what means the same as two lists end to end is the first, which has taken the second
  pub takes_whole : (s f t : List (Msg U V)) → Takes means (s ++ f) [] t → Takes means s f t
  takes_whole s f t l = record {
    meaning = λ k v. l.meaning k v ∙ effects-append means s f k v;
    bound = omega (arith, l.bound, length-append s f);
    touched = λ k h g. l.touched k (any_touches-append s f k h g) refl;
  }

  pub value_behind : (s f old : List (Msg U V)) (k : List ℕ) (o w v : Option V) → s ++ f ≡ old → w ≡ effects means s k o → v ≡ effects means f k w → v ≡ effects means old k o
  value_behind s f old k o w v e g h = h ∙ ap (λ x. effects means f k x) g ∙ sym (effects-append means s f k o) ∙ ap (λ xs. effects means xs k o) e

  -- a tail that does not touch the key changes nothing that is told
  pub resolved_before : (s f : List (Msg U V)) (k : List ℕ) (t : Resolution V) → any_touches f k ≡ false → IsResolved means s k t → IsResolved means (s ++ f) k t
  resolved_before s f k Untouched h g = (any_touches-append s f k g.0 h, λ o. effects-append means s f k o ∙ untouched means f k (effects means s k o) h ∙ g.1 o)
  resolved_before s f k (Value v) h g = λ o. effects-append means s f k o ∙ untouched means f k (effects means s k o) h ∙ g o
  resolved_before s f k NeedsBase h g = tt

-- what touches a key in two lists end to end
pub touches_append : {U V : Type 0} (xs ys : List (Msg U V)) (k : List ℕ) → any_touches (xs ++ ys) k ≡ (any_touches xs k || any_touches ys k)
touches_append [] ys k = refl
touches_append (x ∷ xs) ys k = ap (λ b. touches x k || b) (touches_append xs ys k) ∙ sym (or_assoc (touches x k) (any_touches xs k) (any_touches ys k))

-- so many of the first part, and then of the second
pub drop_parts : {X : Type 0} (n k : ℕ) (xs ys : List X) → k ≤ n → k ≤ length xs → (k < n → length xs ≤ k) → drop k xs ++ drop (n - k) ys ≡ drop n (xs ++ ys)
drop_parts n (suc k) [] ys a b c = absurd (omega (arith, b))
drop_parts zero zero xs ys a b c = refl
drop_parts (suc n) zero [] ys a b c = (let all : suc n - 0 ≡ suc n = omega arith in ap (λ i. drop i ys) all)
drop_parts (suc n) zero (x ∷ xs) ys a b c = absurd (omega (arith, c (omega arith)))
drop_parts zero (suc k) (x ∷ xs) ys a b c = absurd (omega (arith, a))
drop_parts (suc n) (suc k) (x ∷ xs) ys a b c = (let same : suc n - suc k ≡ n - k = omega arith in ap (λ i. drop k xs ++ drop i ys) same ∙ drop_parts n k xs ys (omega (arith, a)) (omega (arith, b)) (λ h. omega (arith, c (omega (arith, h)))))

pub take_parts : {X : Type 0} (n k : ℕ) (xs ys : List X) → k ≤ n → k ≤ length xs → (k < n → length xs ≤ k) → take k xs ++ take (n - k) ys ≡ take n (xs ++ ys)
take_parts n (suc k) [] ys a b c = absurd (omega (arith, b))
take_parts zero zero xs ys a b c = refl
take_parts (suc n) zero [] ys a b c = (let all : suc n - 0 ≡ suc n = omega arith in ap (λ i. take i ys) all)
take_parts (suc n) zero (x ∷ xs) ys a b c = absurd (omega (arith, c (omega arith)))
take_parts zero (suc k) (x ∷ xs) ys a b c = absurd (omega (arith, a))
take_parts (suc n) (suc k) (x ∷ xs) ys a b c = (let same : suc n - suc k ≡ n - k = omega arith in ap (λ t. x ∷ t) (ap (λ i. take k xs ++ take i ys) same ∙ take_parts n k xs ys (omega (arith, a)) (omega (arith, b)) (λ h. omega (arith, c (omega (arith, h))))))

pub take_at_most : {X : Type 0} (n k : ℕ) (xs : List X) → k ≤ n → k ≤ length xs → (k < n → length xs ≤ k) → take n xs ≡ take k xs
take_at_most n (suc k) [] a b c = absurd (omega (arith, b))
take_at_most zero zero xs a b c = refl
take_at_most (suc n) zero [] a b c = refl
take_at_most (suc n) zero (x ∷ xs) a b c = absurd (omega (arith, c (omega arith)))
take_at_most zero (suc k) (x ∷ xs) a b c = absurd (omega (arith, a))
take_at_most (suc n) (suc k) (x ∷ xs) a b c = ap (λ t. x ∷ t) (take_at_most n k xs (omega (arith, a)) (omega (arith, b)) (λ h. omega (arith, c (omega (arith, h)))))
