-- Up to where ranges hold all keys or none.
use Rattle.std.proofs.Common.{◌≡◌, ℕ, suc, ◌⊎◌, inl, inr, Bool, true, false, not, List, [], ◌∷◌, drop, Option, Some, None, refl, ap, sym, ◌∙◌, subst, cond, arith}
use Rattle.std.specs.Prelude.{◌&&◌, All, Contains, IfSome}
use Rattle.std.specs.declared.cmp.Ordering.TheVariants.{Less, Equal, Greater}
use Rattle.std.specs.Ordering.{is_lt, match_ordering}
use Rattle.std.specs.List.{AllByRecursion, slice_get}
use Rattle.std.specs.Option.{option_to_list, option_map, option_and_then}
use Rattle.std.specs.Map.{keys_of}
use Rattle.std.proofs.lemmas.Map.Keys.{sorted_head, sorted_tail}
use Rattle.std.proofs.lemmas.List.Elements.{All-nil, All-push, All-append, Contains-append_left, Contains-append_right}
use Rattle.pathkey.specs.Order.{by_bytes}
use Rattle.pathkey.specs.Keys.{is_below}
use Rattle.pathkey.proofs.KeyOrder.{le_le, lt_le, reaches-from_before, reaches-from_not_before, not_reaches_from_before}
use Rattle.message.specs.declared.msg.Msg.{Msg}
use Rattle.message.specs.declared.msg.Msg.TheVariants.{DelRange}
use Rattle.message.specs.Effects.{touches}
use Rattle.message.specs.Ranges.{reaches, before, within, earlier_end}
use Rattle.message.specs.Stretches.{ahead_of, ends_of, all_ends, IsStretch}
use Rattle.message.proofs.KeyOrder.{both, split_bool}
use Rattle.message.proofs.StretchEnds.{ahead_after, below_alike, below_both, below_earlier, some_earlier, weaker}
use Rattle.cow_map.specs.Places.{Rises, place_past}
use Rattle.range_set.specs.Disjoint.{Span, range_msgs, AreApart}
use Rattle.range_set.specs.Ends.{next_begin, next_end}
use Rattle.range_set.proofs.Ends.{not_true, ends_on, past_end, apart_rises}
use Rattle.range_set.proofs.Last.{last_or, last_where, by_key, by_key_is, found_begins}

-- the first range that begins behind the key
abbrev pub first_behind : List ℕ → List Span → Option (List ℕ)
first_behind k [] = None
first_behind k (e ∷ rs) = cond (before k e.0) (Some e.0) (first_behind k rs)

first_is : (k : List ℕ) (rs : List Span) → next_begin k rs ≡ first_behind k rs
first_is k [] = refl
first_is k (e ∷ rs) =
    elim (by_bytes k e.0) as (λ o. by_bytes k e.0 ≡ o → option_map (λ (x : Span). x.0) (slice_get (drop (match_ordering o 0 (suc (place_past k rs)) (suc (place_past k rs))) (e ∷ rs)) 0) ≡ cond (before k e.0) (Some e.0) (first_behind k rs)) [
      | Less ↦ λ p. sym (ap (λ o. cond (is_lt o) (Some e.0) (first_behind k rs)) p)
      | Equal ↦ λ p. first_is k rs ∙ sym (ap (λ o. cond (is_lt o) (Some e.0) (first_behind k rs)) p)
      | Greater ↦ λ p. first_is k rs ∙ sym (ap (λ o. cond (is_lt o) (Some e.0) (first_behind k rs)) p)
    ] refl

abbrev high_ahead : List ℕ → Option Span → Option (List ℕ)
high_ahead k o = option_and_then (λ (e : Span). ahead_of k e.1) o

both_false : (a b : Bool) → a ≡ false → (a && b) ≡ false
both_false a b e = ap (λ c. c && b) e

-- the ranges hold both keys or neither
abbrev SameIn : List ℕ → List ℕ → List Span → Type 0
SameIn a b [] = Unit {0}
SameIn a b (e ∷ rs) = (within e.0 e.1 a ≡ within e.0 e.1 b) × SameIn a b rs

-- ranges that begin behind both keys hold neither
all_behind : (a b x : List ℕ) (rs : List Span) → before a x ≡ true → before b x ≡ true → AllByRecursion (λ y. by_bytes x y ≡ Less) (keys_of rs) → SameIn a b rs
all_behind a b x [] p q s = tt
all_behind a b x (e ∷ rs) p q s =
    let out : (c : List ℕ) → before c x ≡ true → reaches e.0 c ≡ false = λ c h. not_reaches_from_before c e.0 (lt_le c x e.0 h (reaches-from_before x e.0 (ap is_lt s.0))) in
    (both_false (reaches e.0 a) (is_below a e.1) (out a p) ∙ sym (both_false (reaches e.0 b) (is_below b e.1) (out b q)), all_behind a b x rs p q s.1)

same_in : (from k : List ℕ) (rs : List Span) → AreApart rs → Rises rs → reaches from k ≡ true → is_below k (first_behind from rs) ≡ true → is_below k (high_ahead from (by_key from rs)) ≡ true → SameIn k from rs
same_in from k [] a s r b h = tt
same_in from k (e ∷ rs) a s r b h = split_bool (before from e.0)
    (λ y.
    let low : before k e.0 ≡ true = sym (ap (λ c. is_below k (cond c (Some e.0) (first_behind from rs))) y) ∙ b in
    (both_false (reaches e.0 k) (is_below k e.1) (not_reaches_from_before k e.0 low) ∙ sym (both_false (reaches e.0 from) (is_below from e.1) (not_reaches_from_before from e.0 y)), all_behind k from e.0 rs low y (sorted_head by_bytes e.0 (keys_of rs) s)))
    (λ y.
    let up : reaches e.0 from ≡ true = reaches-from_not_before from e.0 y in
    let further : reaches e.0 k ≡ true = le_le e.0 from k up r in
    let next : is_below k (first_behind from rs) ≡ true = sym (ap (λ c. is_below k (cond c (Some e.0) (first_behind from rs))) y) ∙ b in
    let merged : is_below k e.1 ≡ is_below from e.1 → within e.0 e.1 k ≡ within e.0 e.1 from = λ z. ap (λ c. c && is_below k e.1) further ∙ z ∙ sym (ap (λ c. c && is_below from e.1) up) in
    (elim (by_key from rs) as (λ t. by_key from rs ≡ t → is_below k (high_ahead from (last_or (not (before from e.0)) e t)) ≡ true → SameIn k from (e ∷ rs)) [
      | None ↦ λ n g. (
        merged (below_alike e.1 from k r (sym (ap (λ c. is_below k (high_ahead from (cond (not c) (Some e) None))) y) ∙ g)),
        same_in from k rs a.2 (sorted_tail by_bytes e.0 (keys_of rs) s) r next (ap (λ t. is_below k (high_ahead from t)) n),
      )
      | Some x ↦ λ n g. (
        (let f = found_begins (λ q. not (before from q)) rs e.1 x n a.1 in
            let under : reaches x.0 from ≡ true = reaches-from_not_before from x.0 (not_true (before from x.0) f.1) in
            merged (past_end e.1 k (ends_on e.1 x.0 k f.0 (le_le x.0 from k under r)) ∙ sym (past_end e.1 from (ends_on e.1 x.0 from f.0 under)))),
        same_in from k rs a.2 (sorted_tail by_bytes e.0 (keys_of rs) s) r next (ap (λ t. is_below k (high_ahead from t)) n ∙ g),
      )
    ]) refl h)

behind_above : (from : List ℕ) (rs : List Span) → is_below from (first_behind from rs) ≡ true
behind_above from [] = refl
behind_above from (e ∷ rs) = split_bool (before from e.0)
    (λ y. ap (λ c. is_below from (cond c (Some e.0) (first_behind from rs))) y ∙ y)
    (λ n. ap (λ c. is_below from (cond c (Some e.0) (first_behind from rs))) n ∙ behind_above from rs)

high_above : (from : List ℕ) (o : Option Span) → is_below from (high_ahead from o) ≡ true
high_above from None = refl
high_above from (Some e) = ahead_after from e.1

own_high : (from lo : List ℕ) (h : Option (List ℕ)) → IfSome (ahead_of from h) (Contains (lo ∷ option_to_list h))
own_high from lo None = tt
own_high from lo (Some h) = elim (before from h) as (λ c. IfSome (cond c (Some h) None) (Contains (lo ∷ h ∷ []))) [
  | true ↦ (1, omega arith, refl)
  | false ↦ tt
]

module _ (U V : Type 0) where
  -- the ends of the ranges
  abbrev Ends : List Span → List ℕ → Type 0
  Ends rs d = Contains (all_ends (range_msgs {U = U} {V = V} rs)) d

  abbrev del : Span → Msg U V
  del e = DelRange (record { lo = e.0; hi = e.1 })

  here : (e : Span) (rs : List Span) (d : List ℕ) → Contains (ends_of (del e)) d → Ends (e ∷ rs) d
  here e rs d t = Contains-append_left (ends_of (del e)) (all_ends (range_msgs rs)) d t

  later : (e : Span) (rs : List Span) (d : List ℕ) → Ends rs d → Ends (e ∷ rs) d
  later e rs d t = Contains-append_right (ends_of (del e)) (all_ends (range_msgs rs)) d t

  low_is_end : (from : List ℕ) (rs : List Span) → IfSome (first_behind from rs) (Ends rs)
  low_is_end from [] = tt
  low_is_end from (e ∷ rs) = elim (before from e.0) as (λ c. IfSome (cond c (Some e.0) (first_behind from rs)) (Ends (e ∷ rs))) [
    | true ↦ here e rs e.0 (0, omega arith, refl)
    | false ↦ weaker (Ends rs) (Ends (e ∷ rs)) (first_behind from rs) (later e rs) (low_is_end from rs)
  ]

  high_is_end : (from : List ℕ) (p : List ℕ → Bool) (rs : List Span) → IfSome (high_ahead from (last_where p rs)) (Ends rs)
  high_is_end from p [] = tt
  high_is_end from p (e ∷ rs) = elim (last_where p rs) as (λ t. last_where p rs ≡ t → IfSome (high_ahead from (last_or (p e.0) e t)) (Ends (e ∷ rs))) [
    | None ↦ λ n. elim (p e.0) as (λ c. IfSome (high_ahead from (cond c (Some e) None)) (Ends (e ∷ rs))) [
      | true ↦ weaker (Contains (ends_of (del e))) (Ends (e ∷ rs)) (ahead_of from e.1) (here e rs) (own_high from e.0 e.1)
      | false ↦ tt
    ]
    | Some x ↦ λ n. weaker (Ends rs) (Ends (e ∷ rs)) (high_ahead from (Some x)) (later e rs) (subst (λ t. IfSome (high_ahead from t) (Ends rs)) n (high_is_end from p rs))
  ] refl

  ranges_alike : (a b : List ℕ) (rs : List Span) → SameIn a b rs → All (λ m. touches m a ≡ touches m b) (range_msgs {U = U} {V = V} rs)
  ranges_alike a b [] s = All-nil (λ (m : Msg U V). touches m a ≡ touches m b)
  ranges_alike a b (e ∷ rs) s =
      let same : Msg U V → Type 0 = λ m. touches m a ≡ touches m b in
      All-append same (del e ∷ []) (range_msgs rs) (All-push same [] (del e) (All-nil same) s.0) (ranges_alike a b rs s.1)

  stretch_by : (from : List ℕ) (end b c : Option (List ℕ)) (rs : List Span) → AreApart rs → is_below from end ≡ true → b ≡ first_behind from rs → c ≡ high_ahead from (by_key from rs) → IsStretch (range_msgs {U = U} {V = V} rs) from end (earlier_end (earlier_end end b) c)
  stretch_by from end b c rs a low x y =
      let all = earlier_end (earlier_end end b) c in
      let ends : List ℕ → Type 0 = λ d. (end ≡ Some d) ⊎ Ends rs d in
      let ahead : is_below from b ≡ true = subst (λ t. is_below from t ≡ true) (sym x) (behind_above from rs) in
      let above : is_below from c ≡ true = subst (λ t. is_below from t ≡ true) (sym y) (high_above from (by_key from rs)) in
      record {
        alike = λ k h.
            let p = both (reaches from k) (is_below k all) h in
            let q = below_both (earlier_end end b) c k p.1 in
            ranges_alike k from rs (same_in from k rs a (apart_rises rs a) p.0 (subst (λ t. is_below k t ≡ true) x (below_both end b k q.0).1) (subst (λ t. is_below k t ≡ true) y q.1));
        after = below_earlier (earlier_end end b) c from (below_earlier end b from low ahead) above;
        inside = λ k h. (below_both end b k (below_both (earlier_end end b) c k h).0).0;
        an_end = some_earlier ends (earlier_end end b) c
            (some_earlier ends end b (itself end) (weaker (Ends rs) ends b (λ d t. inr t) (subst (λ t. IfSome t (Ends rs)) (sym x) (low_is_end from rs))))
            (weaker (Ends rs) ends c (λ d t. inr t) (subst (λ t. IfSome t (Ends rs)) (sym y) (high_is_end from (λ q. not (before from q)) rs)));
      }
    where
      itself : (o : Option (List ℕ)) → IfSome o (λ d. (o ≡ Some d) ⊎ Ends rs d)
      itself None = tt
      itself (Some d) = inl refl

  pub ranges_stretch : (from : List ℕ) (end stop : Option (List ℕ)) (rs : List Span) → AreApart rs → is_below from end ≡ true → stop ≡ earlier_end (earlier_end end (next_begin from rs)) (next_end from rs) → IsStretch (range_msgs {U = U} {V = V} rs) from end stop
  ranges_stretch from end stop rs a low is = subst (IsStretch (range_msgs rs) from end) (sym is) (stretch_by from end (next_begin from rs) (next_end from rs) rs a low (first_is from rs) (ap (high_ahead from) (by_key_is from rs a)))
