-- Where stretches of a sorted list end.
use Rattle.std.proofs.Common.{◌≡◌, ℕ, ◌⊎◌, inl, inr, true, false, List, [], ◌++◌, get_or, refl, ap, sym, ◌∙◌, subst, Option, Some, None, cond}
use Rattle.std.specs.Prelude.{◌&&◌, All, Contains, IfSome}
use Rattle.std.proofs.lemmas.Bool.{false_from_ne_true}
use Rattle.std.proofs.lemmas.List.Elements.{All-nil, All-append, Contains-append_left, Contains-append_right}
use Rattle.pathkey.specs.Order.{same}
use Rattle.pathkey.specs.Keys.{is_below, next_key}
use Rattle.pathkey.proofs.OrderFacts.{same_true}
use Rattle.message.proofs.NextKey.{one_before_next, before-next, reaches-from_before_next}
use Rattle.message.specs.declared.msg.Msg.{Msg}
use Rattle.message.specs.Effects.{touches}
use Rattle.message.specs.Ranges.{reaches, before, within, earlier_end}
use Rattle.message.specs.Stretches.{ahead_of, all_ends, IsStretch}
use Rattle.message.proofs.KeyOrder.{both, begins_before_end}
use Rattle.message.proofs.StretchEnds.{ahead_after, unlike, below_both, below_earlier, some_earlier, weaker, all_ends-append}

-- ---- stretches one after the other

module _ {U V : Type 0} where
  -- a stretch of some messages, and up to its end one of others
  pub stretch_then : (xs ys : List (Msg U V)) (from : List ℕ) (end a b : Option (List ℕ)) → IsStretch xs from end a → IsStretch ys from a b → IsStretch (xs ++ ys) from end b
  stretch_then xs ys from end a b x y = record {
    alike = λ k h. let p = both (reaches from k) (is_below k b) h in All-append (λ m. touches m k ≡ touches m from) xs ys (x.alike k (ap (λ c. c && is_below k a) p.0 ∙ y.inside k p.1)) (y.alike k h);
    after = y.after;
    inside = λ k h. x.inside k (y.inside k h);
    an_end = weaker (λ d. (a ≡ Some d) ⊎ Contains (all_ends ys) d) (λ d. (end ≡ Some d) ⊎ Contains (all_ends (xs ++ ys)) d) b (λ d. ends d) y.an_end;
  }
    where
      whole : all_ends xs ++ all_ends ys ≡ all_ends (xs ++ ys)
      whole = sym (all_ends-append xs ys)

      first : (d : List ℕ) → (end ≡ Some d) ⊎ Contains (all_ends xs) d → (end ≡ Some d) ⊎ Contains (all_ends (xs ++ ys)) d
      first d (inl t) = inl t
      first d (inr t) = inr (subst (λ zs. Contains zs d) whole (Contains-append_left (all_ends xs) (all_ends ys) d t))

      ends : (d : List ℕ) → (a ≡ Some d) ⊎ Contains (all_ends ys) d → (end ≡ Some d) ⊎ Contains (all_ends (xs ++ ys)) d
      ends d (inl t) = first d (subst (λ o. IfSome o (λ e. (end ≡ Some e) ⊎ Contains (all_ends xs) e)) t x.an_end)
      ends d (inr t) = inr (subst (λ zs. Contains zs d) whole (Contains-append_right (all_ends xs) (all_ends ys) d t))

-- ---- keys outside a stretch

pub outside_key : (from : List ℕ) (stop : Option (List ℕ)) (q k : List ℕ) → within from stop q ≡ false → within from stop k ≡ true → same q k ≡ false
outside_key from stop q k out h = false_from_ne_true (same q k) (λ s. let one : q ≡ k = same_true q k s in absurd (let hit : within from stop q ≡ true = ap (within from stop) one ∙ h in cc))

-- ---- point messages

module _ {U V : Type 0} where
  itself : (ms : List (Msg U V)) (end : Option (List ℕ)) → IfSome end (λ d. (end ≡ Some d) ⊎ Contains (all_ends ms) d)
  itself ms None = tt
  itself ms (Some d) = inl refl

-- ---- a list in parts

module _ {U V : Type 0} where
  -- a message of the front for the key alone
  pub ahead_first : (xs ys : List (Msg U V)) (k : List ℕ) → Contains (all_ends xs) (next_key k) → Contains (all_ends (xs ++ ys)) (next_key k)
  ahead_first xs ys k c = subst (λ zs. Contains zs (next_key k)) (sym (all_ends-append xs ys)) (Contains-append_left (all_ends xs) (all_ends ys) (next_key k) c)

  -- the stretch of one key
  pub one_key_stretch : (ms : List (Msg U V)) (from : List ℕ) (end : Option (List ℕ)) → is_below from end ≡ true → Contains (all_ends ms) (next_key from) → IsStretch ms from end (Some (next_key from))
  one_key_stretch ms from end low c = record {
    alike = λ k w j d l. ap (λ (q : List ℕ). touches (get_or ms j d) q) (sym (one_before_next k from w));
    after = before-next from;
    inside = λ k b. begins_before_end k from end (reaches-from_before_next k from b) low;
    an_end = inr c;
  }

  -- messages of another key
  pub key_stretch : (q : List ℕ) (ms : List (Msg U V)) (from : List ℕ) (end : Option (List ℕ)) → ((k : List ℕ) → same q k ≡ false → All (λ m. touches m k ≡ touches m from) ms) → Contains (all_ends ms) q → same q from ≡ false → is_below from end ≡ true → IsStretch ms from end (earlier_end end (ahead_of from (Some q)))
  key_stretch q ms from end apart key other low =
      let a = ahead_of from (Some q) in
      let above : is_below from a ≡ true = ahead_after from (Some q) in
      let after : is_below from (earlier_end end a) ≡ true = below_earlier end a from low above in
      let out : (k : List ℕ) → within from a k ≡ true → same q k ≡ false = λ k h. unlike q from k other h ∙ other in
      record {
        alike = λ k h. let p = both (reaches from k) (is_below k (earlier_end end a)) h in apart k (out k (ap (λ c. c && is_below k a) p.0 ∙ (below_both end a k p.1).1));
        after = after;
        inside = λ k h. (below_both end a k h).0;
        an_end = some_earlier (λ d. (end ≡ Some d) ⊎ Contains (all_ends ms) d) end a (itself ms end) (elim (before from q) as (λ c. IfSome (cond c (Some q) None) (λ d. (end ≡ Some d) ⊎ Contains (all_ends ms) d)) [ true ↦ inr key | false ↦ tt ]);
      }

  -- no messages
  pub no_stretch : (from : List ℕ) (end : Option (List ℕ)) → is_below from end ≡ true → IsStretch {U = U} {V = V} [] from end end
  no_stretch from end low = record { alike = λ k h. All-nil (λ (m : Msg U V). touches m k ≡ touches m from); after = low; inside = λ k h. h; an_end = itself {U = U} {V = V} [] end }
