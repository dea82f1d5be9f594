-- On a stretch the messages change a value in the same way at each key, and the first pair of what is below decides.
use Rattle.std.proofs.Common.{◌≡◌, ℕ, suc, ◌⊎◌, inl, inr, ⊎_elim, true, false, List, [], ◌∷◌, refl, ap, sym, ◌∙◌, Option, Some, None, cond, arith}
use Rattle.std.specs.Prelude.{All}
use Rattle.std.proofs.lemmas.Option.{none-some}
use Rattle.pathkey.specs.Order.{same}
use Rattle.pathkey.specs.Keys.{is_below}
use Rattle.pathkey.proofs.OrderFacts.{same_true}
use Rattle.pathkey.proofs.KeyOrder.{le_lt, reaches-refl, reaches-from_not_before, not_before_from_reaches}
use Rattle.message.specs.declared.msg.Msg.{Msg}
use Rattle.message.specs.declared.msg.Msg.TheVariants.{Put, Del, DelRange, Edit}
use Rattle.message.specs.Ranges.{reaches, before, within}
use Rattle.message.specs.Effects.{touches, made_of, effect, effects}
use Rattle.message.proofs.KeyOrder.{both, below_next}
use Rattle.scan.specs.Pairs.{HasNone, IsFirst}
use Rattle.message.specs.Stretches.{ActAlike}
use Rattle.scan.specs.Stretches.{changed, pair_of}
use Rattle.message.proofs.NextKey.{by_bool, in_range, one_key}
use Rattle.scan.proofs.Firsts.{none_start, first_along}

-- a key is not two keys
not_two : {P : Type 0} (q a b : List ℕ) → same q a ≡ true → same q b ≡ true → before a b ≡ true → P
not_two q a b x y h =
    let one : a ≡ b = sym (same_true q a x) ∙ same_true q b y in
    let far : before a b ≡ false = ap (before a) (sym one) ∙ not_before_from_reaches a a (reaches-refl a) in
    absurd (cc)

-- if each key of a range has this value, the first has it
first_of_one : {V : Type 0} (f : List ℕ → Option V) (from : List ℕ) (stop : Option (List ℕ)) → is_below from stop ≡ true → (w : Option V) → ((k : List ℕ) → within from stop k ≡ true → f k ≡ w) → IsFirst f from stop (pair_of from w)
first_of_one f from stop some None e = e
first_of_one f from stop some (Some v) e = let here = in_range from from stop (reaches-refl from) some in (here, e from here, none_start f from)

module _ {U V : Type 0} (means : U → Option V → Option V) where
  -- messages that touch two keys alike change a value in the same way at both
  effects-alike : (ms : List (Msg U V)) (from k : List ℕ) (o : Option V) → All (λ m. touches m k ≡ touches m from) ms → effects means ms k o ≡ effects means ms from o
  effects-alike [] from k o a = refl
  effects-alike (m ∷ ms) from k o a =
      let here : effect means m k o ≡ effect means m from o = ap (λ b. cond b (made_of means m o) o) (a 0 m (omega arith)) in
      ap (effects means ms k) here ∙ effects-alike ms from k (effect means m from o) (λ j d h. a (suc j) d (omega arith))

  -- a message that touches two keys takes their values away
  takes_away : (m : Msg U V) (from k : List ℕ) (o : Option V) → before from k ≡ true → touches m from ≡ true → touches m k ≡ true → made_of means m o ≡ None
  takes_away (Put q v) from k o h x y = not_two q from k x y h
  takes_away (Del q) from k o h x y = refl
  takes_away (DelRange r) from k o h x y = refl
  takes_away (Edit q u) from k o h x y = not_two q from k x y h

  -- messages that touch two keys alike leave each value as it was, or take each away
  leaves_or_takes : (ms : List (Msg U V)) (from k : List ℕ) → before from k ≡ true → All (λ m. touches m k ≡ touches m from) ms → ((o : Option V) → effects means ms from o ≡ o) ⊎ ((o : Option V) → effects means ms from o ≡ None)
  leaves_or_takes [] from k h a = inl (λ o. refl)
  leaves_or_takes (m ∷ ms) from k h a =
      let rest = leaves_or_takes ms from k h (λ j d l. a (suc j) d (omega arith)) in
      by_bool (touches m from) (((o : Option V) → effects means ms from (effect means m from o) ≡ o) ⊎ ((o : Option V) → effects means ms from (effect means m from o) ≡ None))
      (λ t. inr (λ o.
      let gone : effect means m from o ≡ None = ap (λ b. cond b (made_of means m o) o) t ∙ takes_away m from k o h t (a 0 m (omega arith) ∙ t) in
      ap (effects means ms from) gone ∙ ⊎_elim (λ r. r None) (λ r. r None) rest))
      (λ t.
      let stays : (o : Option V) → effects means ms from (effect means m from o) ≡ effects means ms from o = λ o. ap (λ b. effects means ms from (cond b (made_of means m o) o)) t in
      ⊎_elim (λ r. inl (λ o. stays o ∙ r o)) (λ r. inr (λ o. stays o ∙ r o)) rest)

  module _ (ms : List (Msg U V)) (child : List ℕ → Option V) (from : List ℕ) (stop : Option (List ℕ)) (some : is_below from stop ≡ true) (alike : ActAlike ms from stop) where
    abbrev made : List ℕ → Option V
    made k = effects means ms k (child k)

    pub made_is : (k : List ℕ) → within from stop k ≡ true → made k ≡ effects means ms from (child k)
    made_is k h = effects-alike ms from k (child k) (alike k h)

    -- the messages determine the value
    pub first_of_resolved : (w : Option V) → ((o : Option V) → effects means ms from o ≡ w) → IsFirst made from stop (pair_of from w)
    first_of_resolved w resolution = first_of_one made from stop some w (λ k h. made_is k h ∙ resolution (child k))

    -- they leave each value as it is
    pub first_untouched : (r : Option (List ℕ × V)) → ((o : Option V) → effects means ms from o ≡ o) → IsFirst child from stop r → IsFirst made from stop r
    first_untouched r none below = first_along made child from stop r (λ k h. made_is k h ∙ none (child k)) below

    -- there is no value below
    first_of_none : HasNone child from stop → IsFirst made from stop (pair_of from (effects means ms from None))
    first_of_none n = first_of_one made from stop some (effects means ms from None) (λ k h. made_is k h ∙ ap (effects means ms from) (n k h))

    module _ (p : List ℕ × V) (below : IsFirst child from stop (Some p)) where
      -- after the first key of the segment
      later_none : (k : List ℕ) → within from stop k ≡ true → before from k ≡ true → effects means ms from None ≡ None
      later_none k h b = ⊎_elim (λ r. r None) (λ r. r None) (leaves_or_takes ms from k b (alike k h))

      -- if the messages remove the pair, they remove the value at every key of the segment
      taken : (k : List ℕ) (o : Option V) → within from stop k ≡ true → before from k ≡ true → effects means ms from (Some p.1) ≡ None → effects means ms from o ≡ None
      taken k o h b e = ⊎_elim (λ r. absurd (none-some p.1 (sym e ∙ r (Some p.1)))) (λ r. r o) (leaves_or_takes ms from k b (alike k h))

      -- before the pair there is none
      none_before : HasNone made from (Some p.0)
      none_before k h =
          let q = both (reaches from k) (before k p.0) h in
          let r = both (reaches from p.0) (is_below p.0 stop) below.0 in
          let inside : within from stop k ≡ true = in_range from k stop q.0 (below_next k p.0 stop q.1 r.1) in
          made_is k inside ∙ ap (effects means ms from) (below.2 k h) ∙ later_none p.0 below.0 (le_lt from k p.0 q.0 q.1)

      -- and if they remove it, there is none at its key
      none_at : effects means ms from (Some p.1) ≡ None → effects means ms from (child from) ≡ None
      none_at e = by_bool (before from p.0) (effects means ms from (child from) ≡ None)
          (λ b. taken p.0 (child from) below.0 b e)
          (λ b.
          let q = both (reaches from p.0) (is_below p.0 stop) below.0 in
          let one : from ≡ p.0 = one_key from p.0 q.0 (reaches-from_not_before from p.0 b) in
          ap (effects means ms from) (ap child one ∙ below.1) ∙ e)

      with_value : (w : Option V) → effects means ms from (Some p.1) ≡ w → IsFirst made from stop (pair_of p.0 w)
      with_value None e = λ k h.
          let q = both (reaches from k) (is_below k stop) h in
          made_is k h ∙ by_bool (before from k) (effects means ms from (child k) ≡ None)
          (λ b. taken k (child k) h b e)
          (λ b. let one : from ≡ k = one_key from k q.0 (reaches-from_not_before from k b) in ap (λ x. effects means ms from (child x)) (sym one) ∙ none_at e)
      with_value (Some v) e = (below.0, made_is p.0 below.0 ∙ ap (effects means ms from) below.1 ∙ e, none_before)

    -- what the messages make of the first pair below is the first
    pub first_changed : (b : Option (List ℕ × V)) → IsFirst child from stop b → IsFirst made from stop (changed means ms from b)
    first_changed None below = first_of_none below
    first_changed (Some p) below = with_value p below (effects means ms from (Some p.1)) refl
