-- A range becomes one with those that reach over its ends.
use Rattle.std.proofs.Common.{◌≡◌, ℕ, Bool, true, false, not, List, [], ◌∷◌, Option, Some, None, refl, ap, sym, ◌∙◌, subst, cond}
use Rattle.std.specs.Prelude.{◌&&◌, ◌||◌}
use Rattle.std.proofs.lemmas.Bool.{and_from}
use Rattle.pathkey.specs.Keys.{is_below}
use Rattle.pathkey.proofs.OrderFacts.{equal}
use Rattle.pathkey.proofs.KeyOrder.{reaches-refl, reaches-from_before, reaches-from_not_before, not_before_from_reaches, before_from_not_reaches, not_reaches_from_before, le_le, le_lt}
use Rattle.message.specs.Ranges.{reaches, before, within, ends_within}
use Rattle.message.proofs.KeyOrder.{both, begins_before_end, split_bool}
use Rattle.message.proofs.Parting.{second_false}
use Rattle.message.proofs.RangeEnds.{below_later}
use Rattle.range_set.specs.Disjoint.{Span, covered, BeginBehind, AreApart}
use Rattle.range_set.specs.Ends.{EndBefore, IsFree, IsLowEnd, IsHighEnd, Widens}
use Rattle.range_set.proofs.Ends.{not_true, ends_on, past_end, ahead_of_end}
use Rattle.range_set.proofs.Splicing.{tie}
use Rattle.range_set.proofs.Last.{last_or, last_where, by_key, before_key, ends_after, ends_from, found_begins, found_covers, covered_by_last, end_by_last}

-- ---- beside a range that was found

-- ranges that begin behind another do not begin before it
none_before : (x : Span) (rs : List Span) → is_below x.0 x.1 ≡ true → BeginBehind x.1 rs → EndBefore x.0 rs
none_before x [] s b = tt
none_before x (e ∷ rs) s b = (
  (λ t. (let ahead : before x.0 e.0 ≡ true = ahead_of_end x.1 x.0 e.0 s (past_end x.1 e.0 b.0) in let no : false ≡ true = sym (not_before_from_reaches x.0 e.0 (reaches-from_before x.0 e.0 ahead)) ∙ t in absurd (cc))),
  none_before x rs s b.1,
)

end_before_found : (p : List ℕ → Bool) (rs : List Span) (x : Span) → last_where p rs ≡ Some x → AreApart rs → EndBefore x.0 rs
end_before_found p [] x e a = absurd (cc)
end_before_found p (r ∷ rs) x e a =
    elim (last_where p rs) as (λ t. last_where p rs ≡ t → last_or (p r.0) r t ≡ Some x → EndBefore x.0 (r ∷ rs)) [
      | None ↦ λ n i. split_bool (p r.0)
          (λ y. (let hit : Some r ≡ Some x = sym (ap (λ c. cond c (Some r) None) y) ∙ i in let is : r ≡ x = cc in
          subst (λ z. EndBefore z.0 (r ∷ rs)) is ((λ b. (let no : false ≡ true = sym (not_before_from_reaches r.0 r.0 (reaches-refl r.0)) ∙ b in absurd (cc))), none_before r rs a.0 a.1)))
          (λ y. (let no : None ≡ Some x = sym (ap (λ c. cond c (Some r) None) y) ∙ i in absurd (cc)))
      | Some z ↦ λ s i. ((λ b. (found_begins p rs r.1 x (s ∙ i) a.1).0), end_before_found p rs x (s ∙ i) a.2)
    ] refl e

-- the end of a range is held by none
none_holds : (d : List ℕ) (rs : List Span) → BeginBehind (Some d) rs → covered rs d ≡ false
none_holds d [] b = refl
none_holds d (e ∷ rs) b = ap (λ c. (c && is_below d e.1) || covered rs d) (not_reaches_from_before d e.0 b.0) ∙ none_holds d rs b.1

free_at_found : (p : List ℕ → Bool) (rs : List Span) (x d : List ℕ) → last_where p rs ≡ Some (x, Some d) → AreApart rs → reaches x d ≡ true → covered rs d ≡ false
free_at_found p [] x d e a l = absurd (cc)
free_at_found p (r ∷ rs) x d e a l =
    elim (last_where p rs) as (λ t. last_where p rs ≡ t → last_or (p r.0) r t ≡ Some (x, Some d) → covered (r ∷ rs) d ≡ false) [
      | None ↦ λ n i. split_bool (p r.0)
          (λ y. (let hit : Some r ≡ Some (x, Some d) = sym (ap (λ c. cond c (Some r) None) y) ∙ i in let is : r ≡ (x, Some d) = cc in
          let end : r.1 ≡ Some d = ap (λ (t : Span). t.1) is in
          let out : is_below d r.1 ≡ false = ap (λ t. is_below d t) end ∙ not_before_from_reaches d d (reaches-refl d) in
          ap (λ c. c || covered rs d) (second_false (reaches r.0 d) (is_below d r.1) out) ∙ none_holds d rs (subst (λ t. BeginBehind t rs) end a.1)))
          (λ y. (let no : None ≡ Some (x, Some d) = sym (ap (λ c. cond c (Some r) None) y) ∙ i in absurd (cc)))
      | Some z ↦ λ s i. (let out : is_below d r.1 ≡ false = past_end r.1 d (ends_on r.1 x d (found_begins p rs r.1 (x, Some d) (s ∙ i) a.1).0 l) in
          ap (λ c. c || covered rs d) (second_false (reaches r.0 d) (is_below d r.1) out) ∙ free_at_found p rs x d (s ∙ i) a.2 l)
    ] refl e

-- ---- the low end

pub low_found : (rs : List Span) (lo : List ℕ) (x : Span) → Some x ≡ before_key lo rs → AreApart rs → ends_within (Some lo) x.1 ≡ true → IsLowEnd rs lo x.0
low_found rs lo x f a e =
    let p : List ℕ → Bool = λ k. not (reaches lo k) in
    let starts : before x.0 lo ≡ true = before_from_not_reaches lo x.0 (not_true (reaches lo x.0) (found_covers p rs x lo (sym f)).0) in
    record {
      begins = reaches-from_before x.0 lo starts;
      apart = end_before_found p rs x (sym f) a;
      held = λ k w. (let w2 = both (reaches x.0 k) (before k lo) w in (found_covers p rs x k (sym f)).1 (and_from (reaches x.0 k) (is_below k x.1) w2.0 (below_later k (Some lo) x.1 e w2.1)));
    }

low_here : (rs : List Span) (lo : List ℕ) → AreApart rs → ends_from (before_key lo rs) lo ≡ false → IsLowEnd rs lo lo
low_here rs lo a e = record {
  begins = reaches-refl lo;
  apart = end_by_last rs lo a e;
  held = λ k w. (let p = both (reaches lo k) (before k lo) w in let no : false ≡ true = sym (not_before_from_reaches lo k p.0) ∙ p.1 in absurd (cc));
}

pub low_none : (rs : List Span) (lo : List ℕ) → None ≡ before_key lo rs → AreApart rs → IsLowEnd rs lo lo
low_none rs lo f a = low_here rs lo a (ap (λ t. ends_from t lo) (sym f))

pub low_before : (rs : List Span) (lo : List ℕ) (x : Span) → Some x ≡ before_key lo rs → AreApart rs → ends_within (Some lo) x.1 ≡ false → IsLowEnd rs lo lo
low_before rs lo x f a e = low_here rs lo a (ap (λ t. ends_from t lo) (sym f) ∙ e)

-- ---- the high end

within_from_below : (h : List ℕ) (d : Option (List ℕ)) → is_below h d ≡ true → ends_within (Some h) d ≡ true
within_from_below h None b = refl
within_from_below h (Some d) b = reaches-from_before h d b

free_at_high : (p : List ℕ → Bool) (rs : List Span) (x h : List ℕ) (d : Option (List ℕ)) → last_where p rs ≡ Some (x, d) → AreApart rs → reaches x h ≡ true → is_below h d ≡ true → IsFree rs d
free_at_high p rs x h None f a r b = tt
free_at_high p rs x h (Some d) f a r b = free_at_found p rs x d f a (reaches-from_before x d (le_lt x h d r b))

pub high_found : (rs : List Span) (h : List ℕ) (x : Span) → Some x ≡ by_key h rs → AreApart rs → is_below h x.1 ≡ true → IsHighEnd rs (Some h) x.1
high_found rs h x f a b =
    let p : List ℕ → Bool = λ k. not (before h k) in
    let starts : reaches x.0 h ≡ true = reaches-from_not_before h x.0 (not_true (before h x.0) (found_covers p rs x h (sym f)).0) in
    record {
      ends = within_from_below h x.1 b;
      free = free_at_high p rs x.0 h x.1 (sym f) a starts b;
      held = λ k n t. (found_covers p rs x k (sym f)).1 (and_from (reaches x.0 k) (is_below k x.1) (le_le x.0 h k starts (reaches-from_not_before k h n)) t);
    }

high_here : (rs : List Span) (h : List ℕ) → AreApart rs → ends_after (by_key h rs) h ≡ false → IsHighEnd rs (Some h) (Some h)
high_here rs h a e = record {
  ends = reaches-refl h;
  free = covered_by_last rs h a ∙ e;
  held = λ k n t. (let no : false ≡ true = sym n ∙ t in absurd (cc));
}

pub high_none : (rs : List Span) (h : List ℕ) → None ≡ by_key h rs → AreApart rs → IsHighEnd rs (Some h) (Some h)
high_none rs h f a = high_here rs h a (ap (λ t. ends_after t h) (sym f))

pub high_before : (rs : List Span) (h : List ℕ) (x : Span) → Some x ≡ by_key h rs → AreApart rs → is_below h x.1 ≡ false → IsHighEnd rs (Some h) (Some h)
high_before rs h x f a e = high_here rs h a (ap (λ t. ends_after t h) (sym f) ∙ e)

-- ---- both

-- an end that was widened and lies no farther is the end
pub same_low : (rs : List Span) (lo low : List ℕ) → IsLowEnd rs lo low → reaches lo low ≡ true → low ≡ lo
same_low rs lo low l h = equal low lo (tie low lo l.begins h)

pub same_high : (rs : List Span) (hi high : Option (List ℕ)) → IsHighEnd rs hi high → ends_within high hi ≡ true → high ≡ hi
same_high rs None None l h = refl
same_high rs None (Some e) l h = absurd (let no : false ≡ true = l.ends in cc)
same_high rs (Some k) None l h = absurd (let no : false ≡ true = h in cc)
same_high rs (Some k) (Some e) l h = ap (λ t. Some t) (equal e k (tie e k h l.ends))

or_alike : (w n c : Bool) → (n ≡ true → w ≡ true) → (w ≡ true → n ≡ false → c ≡ true) → (w || c) ≡ (n || c)
or_alike w true c h g = ap (λ t. t || c) (h refl)
or_alike true false c h g = sym (g refl refl)
or_alike false false c h g = refl

pub widens : (rs : List Span) (lo low : List ℕ) (hi high : Option (List ℕ)) → is_below lo hi ≡ true → IsLowEnd rs lo low → IsHighEnd rs hi high → Widens rs lo hi (record { lo = low; hi = high })
widens rs lo low hi high s l h = record {
  some = begins_before_end low lo high l.begins (below_later lo hi high h.ends s);
  low = l.apart;
  high = h.free;
  same = λ k. or_alike (within low high k) (within lo hi k) (covered rs k)
      (λ w. (let p = both (reaches lo k) (is_below k hi) w in and_from (reaches low k) (is_below k high) (le_le low lo k l.begins p.0) (below_later k hi high h.ends p.1)))
      (λ w n. (let p = both (reaches low k) (is_below k high) w in split_bool (reaches lo k)
      (λ y. h.held k (sym (ap (λ t. t && is_below k hi) y) ∙ n) p.1)
      (λ y. l.held k (and_from (reaches low k) (before k lo) p.0 (before_from_not_reaches lo k y)))));
}
