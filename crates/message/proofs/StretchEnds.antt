-- Where stretches end.
use Rattle.std.proofs.Common.{◌≡◌, ℕ, zero, suc, ◌+◌, ◌<◌, ◌⊎◌, inl, inr, Bool, true, false, List, [], ◌∷◌, ◌++◌, length, take, get_or, refl, ap, sym, ◌∙◌, subst, Option, Some, None, cond, arith}
use Rattle.std.specs.Option.{option_to_list}
use Rattle.std.specs.Prelude.{◌&&◌, Contains, IfSome}
use Rattle.std.proofs.lemmas.Bool.{false_from_ne_true}
use Rattle.std.proofs.lemmas.List.{append_assoc, take_more}
use Rattle.std.proofs.lemmas.List.Elements.{All-push, Contains-append_left, Contains-append_right}
use Rattle.pathkey.specs.Order.{same}
use Rattle.pathkey.specs.Keys.{is_below, next_key}
use Rattle.pathkey.specs.declared.range.KeyRange.{KeyRange}
use Rattle.pathkey.proofs.OrderFacts.{same_true, same_false, apart}
use Rattle.pathkey.proofs.KeyOrder.{le_le, le_lt, lt_le, reaches-from_before, reaches-from_not_before}
use Rattle.message.specs.declared.msg.Msg.{Msg}
use Rattle.message.specs.declared.msg.Msg.TheVariants.{Put, Del, DelRange, Edit}
use Rattle.message.specs.Ranges.{reaches, before, within, earlier_end}
use Rattle.message.specs.Effects.{touches}
use Rattle.message.proofs.KeyOrder.{both, begins_before_end, beyond, unlike_earlier, unlike_later}
use Rattle.message.specs.Stretches.{ahead_of, range_end, is_for, ends_of, all_ends, IsNextEnd, IsStretch}
use Rattle.message.proofs.NextKey.{in_range, not_reaches, before-next, reaches-from_before_next, one_before_next}

-- ---- one end

-- an end that lies after a key stands above it
pub ahead_after : (from : List ℕ) (e : Option (List ℕ)) → is_below from (ahead_of from e) ≡ true
ahead_after from None = refl
ahead_after from (Some q) = by_test from q (before from q) refl
  where
    by_test : (from q : List ℕ) (c : Bool) → before from q ≡ c → is_below from (cond c (Some q) None) ≡ true
    by_test from q true h = h
    by_test from q false h = refl

-- what holds of a key holds of the end that lies after another, if that is the key
ahead_some : (P : List ℕ → Type 0) (from q : List ℕ) → P q → IfSome (ahead_of from (Some q)) P
ahead_some P from q p = elim (before from q) as (λ c. IfSome (cond c (Some q) None) P) [ true ↦ p | false ↦ tt ]

-- no key of the stretch up to q is q, if the first is not
unlike_by : (c : Bool) (q from k : List ℕ) → before from q ≡ c → same q from ≡ false → reaches from k ≡ true → is_below k (cond c (Some q) None) ≡ true → same q k ≡ false
unlike_by true q from k e n h u = unlike_later q k u
unlike_by false q from k e n h u =
    let other : same from q ≡ false = same_false from q (λ s. apart q from n (sym s)) in
    unlike_earlier q k (lt_le q from k (beyond from q e other) h)

pub unlike : (q from k : List ℕ) → same q from ≡ false → within from (ahead_of from (Some q)) k ≡ true → same q k ≡ same q from
unlike q from k n h = let p = both (reaches from k) (is_below k (ahead_of from (Some q))) h in unlike_by (before from q) q from k refl n p.0 p.1 ∙ sym n

-- up to a range's end that lies after a key, keys lie below the range's end as that key does
below_by : (c : Bool) (e from k : List ℕ) → before from e ≡ c → reaches from k ≡ true → is_below k (cond c (Some e) None) ≡ true → before k e ≡ c
below_by true e from k h r u = u
below_by false e from k h r u = false_from_ne_true (before k e) (λ t. let s : before from e ≡ true = le_lt from k e r t in cc)

pub below_alike : (hi : Option (List ℕ)) (from k : List ℕ) → reaches from k ≡ true → is_below k (ahead_of from hi) ≡ true → is_below k hi ≡ is_below from hi
below_alike None from k r u = refl
below_alike (Some e) from k r u = below_by (before from e) e from k refl r u

range_by : (c : Bool) (r : KeyRange) (from k : List ℕ) → before from r.lo ≡ c → reaches from k ≡ true → is_below k (cond c (Some r.lo) (ahead_of from r.hi)) ≡ true → within r.lo r.hi k ≡ within r.lo r.hi from
range_by true r from k e h u = ap (λ b. b && is_below k r.hi) (not_reaches k r.lo u) ∙ sym (ap (λ b. b && is_below from r.hi) (not_reaches from r.lo e))
range_by false r from k e h u =
    let low = reaches-from_not_before from r.lo e in
    ap (λ b. b && is_below k r.hi) (le_le r.lo from k low h) ∙ below_alike r.hi from k h u ∙ sym (ap (λ b. b && is_below from r.hi) low)

-- ---- one message

range_after : (from : List ℕ) (r : KeyRange) → is_below from (range_end from r) ≡ true
range_after from r = by_test from r (before from r.lo) refl
  where
    by_test : (from : List ℕ) (r : KeyRange) (c : Bool) → before from r.lo ≡ c → is_below from (cond c (Some r.lo) (ahead_of from r.hi)) ≡ true
    by_test from r true h = h
    by_test from r false h = ahead_after from r.hi

range_some : (from : List ℕ) (r : KeyRange) → IfSome (range_end from r) (Contains (r.lo ∷ option_to_list r.hi))
range_some from r = elim (before from r.lo) as (λ c. IfSome (cond c (Some r.lo) (ahead_of from r.hi)) (Contains (r.lo ∷ option_to_list r.hi))) [
  | true ↦ (0, omega arith, refl)
  | false ↦ high r.lo r.hi
]
  where
    high : (lo : List ℕ) (hi : Option (List ℕ)) → IfSome (ahead_of from hi) (Contains (lo ∷ option_to_list hi))
    high lo None = tt
    high lo (Some e) = ahead_some (Contains (lo ∷ e ∷ [])) from e (1, omega arith, refl)

module _ {U V : Type 0} where
  -- where a message for one key next ends
  point_end : (from q : List ℕ) (m : Msg U V) → Contains (ends_of m) q → ((k : List ℕ) → touches m k ≡ same q k) → is_for m from ≡ same q from → IsNextEnd from m (ahead_of from (Some q))
  point_end from q m c t p = record {
    after = ahead_after from (Some q);
    an_end = ahead_some (Contains (ends_of m)) from q c;
    alike = λ n k h. t k ∙ unlike q from k (sym p ∙ n) h ∙ sym (t from);
  }

  -- likewise for each such message
  pub put_or_edit_end : (from q : List ℕ) (m : Msg U V) (stop : Option (List ℕ)) → ((v : V) × (m ≡ Put q v)) ⊎ ((m ≡ Del q) ⊎ ((u : U) × (m ≡ Edit q u))) → stop ≡ ahead_of from (Some q) → IsNextEnd from m stop
  put_or_edit_end from q m stop (inl (v, e)) s = subst (IsNextEnd from m) (sym s) (subst (λ x. IsNextEnd from x (ahead_of from (Some q))) (sym e) (point_end from q (Put q v) (0, omega arith, refl) (λ k. refl) refl))
  put_or_edit_end from q m stop (inr (inl e)) s = subst (IsNextEnd from m) (sym s) (subst (λ x. IsNextEnd from x (ahead_of from (Some q))) (sym e) (point_end from q (Del q) (0, omega arith, refl) (λ k. refl) refl))
  put_or_edit_end from q m stop (inr (inr (u, e))) s = subst (IsNextEnd from m) (sym s) (subst (λ x. IsNextEnd from x (ahead_of from (Some q))) (sym e) (point_end from q (Edit q u) (0, omega arith, refl) (λ k. refl) refl))

  -- where a range-delete next begins or ends
  pub range_delete_end : (from : List ℕ) (r : KeyRange) (m : Msg U V) (stop : Option (List ℕ)) → m ≡ DelRange r → stop ≡ range_end from r → IsNextEnd from m stop
  range_delete_end from r m stop em e = subst (λ x. IsNextEnd from x stop) (sym em) (subst (IsNextEnd {U = U} {V = V} from (DelRange r)) (sym e) (record {
    after = range_after from r;
    an_end = range_some from r;
    alike = λ n k h. let p = both (reaches from k) (is_below k (range_end from r)) h in range_by (before from r.lo) r from k refl p.0 p.1;
  }))

-- ---- the earlier of two ends

and_second : (x y : Bool) → (x ≡ true → y ≡ true) → x ≡ (x && y)
and_second true y f = sym (f refl)
and_second false y f = refl

and_first : (x y : Bool) → (y ≡ true → x ≡ true) → y ≡ (x && y)
and_first true y f = refl
and_first false true f = let e : false ≡ true = f refl in cc
and_first false false f = refl

earlier_by : (c : Bool) (a b k : List ℕ) → before a b ≡ c → before k (cond c a b) ≡ (before k a && before k b)
earlier_by true a b k e = and_second (before k a) (before k b) (λ h. lt_le k a b h (reaches-from_before a b e))
earlier_by false a b k e = and_first (before k a) (before k b) (λ h. lt_le k b a h (reaches-from_not_before a b e))

-- what lies below the earlier of two ends lies below both, and the other way round
pub below_earlier_both : (a b : Option (List ℕ)) (k : List ℕ) → is_below k (earlier_end a b) ≡ (is_below k a && is_below k b)
below_earlier_both None b k = refl
below_earlier_both (Some a) None k = and_second (before k a) true (λ h. refl)
below_earlier_both (Some a) (Some b) k = earlier_by (before a b) a b k refl

-- the same in parts
pub below_both : (a b : Option (List ℕ)) (k : List ℕ) → is_below k (earlier_end a b) ≡ true → (is_below k a ≡ true) × (is_below k b ≡ true)
below_both a b k h = both (is_below k a) (is_below k b) (sym (below_earlier_both a b k) ∙ h)

pub below_earlier : (a b : Option (List ℕ)) (k : List ℕ) → is_below k a ≡ true → is_below k b ≡ true → is_below k (earlier_end a b) ≡ true
below_earlier a b k x y = below_earlier_both a b k ∙ ap (λ z. z && is_below k b) x ∙ y

-- what holds of both ends holds of the earlier
pub some_earlier : (P : List ℕ → Type 0) (a b : Option (List ℕ)) → IfSome a P → IfSome b P → IfSome (earlier_end a b) P
some_earlier P None b x y = y
some_earlier P (Some a) None x y = x
some_earlier P (Some a) (Some b) x y = elim (before a b) as (λ c. P (cond c a b)) [ true ↦ x | false ↦ y ]

pub weaker : (P Q : List ℕ → Type 0) (o : Option (List ℕ)) → ((d : List ℕ) → P d → Q d) → IfSome o P → IfSome o Q
weaker P Q None f x = tt
weaker P Q (Some d) f x = f d x

-- ---- all messages
module _ {U V : Type 0} where
  pub all_ends-append : (xs ys : List (Msg U V)) → all_ends (xs ++ ys) ≡ all_ends xs ++ all_ends ys
  all_ends-append [] ys = refl
  all_ends-append (x ∷ xs) ys = ap (λ z. ends_of x ++ z) (all_ends-append xs ys) ∙ sym (append_assoc (ends_of x) (all_ends xs) (all_ends ys))

  -- one message more, which is none for the first key alone
  stretch_push : (ms : List (Msg U V)) (m : Msg U V) (from : List ℕ) (end stop e : Option (List ℕ)) → IsStretch ms from end stop → IsNextEnd from m e → is_for m from ≡ false → IsStretch (ms ++ m ∷ []) from end (earlier_end stop e)
  stretch_push ms m from end stop e x y n = record {
    alike = λ k h.
        let p = both (reaches from k) (is_below k (earlier_end stop e)) h in
        let q = below_both stop e k p.1 in
        All-push (λ (m : Msg U V). touches m k ≡ touches m from) ms m (x.alike k (in_range from k stop p.0 q.0)) (y.alike n k (in_range from k e p.0 q.1));
    after = below_earlier stop e from x.after y.after;
    inside = λ k h. x.inside k (below_both stop e k h).0;
    an_end = some_earlier (λ d. (end ≡ Some d) ⊎ Contains (all_ends (ms ++ m ∷ [])) d) stop e
        (weaker (λ d. (end ≡ Some d) ⊎ Contains (all_ends ms) d) (λ d. (end ≡ Some d) ⊎ Contains (all_ends (ms ++ m ∷ [])) d) stop (λ d. old d) x.an_end)
        (weaker (Contains (ends_of m)) (λ d. (end ≡ Some d) ⊎ Contains (all_ends (ms ++ m ∷ [])) d) e (λ d. new d) y.an_end);
  }
    where
      whole : all_ends ms ++ all_ends (m ∷ []) ≡ all_ends (ms ++ m ∷ [])
      whole = sym (all_ends-append ms (m ∷ []))

      old : (d : List ℕ) → (end ≡ Some d) ⊎ Contains (all_ends ms) d → (end ≡ Some d) ⊎ Contains (all_ends (ms ++ m ∷ [])) d
      old d (inl t) = inl t
      old d (inr t) = inr (subst (λ xs. Contains xs d) whole (Contains-append_left (all_ends ms) (all_ends (m ∷ [])) d t))

      new : (d : List ℕ) → Contains (ends_of m) d → (end ≡ Some d) ⊎ Contains (all_ends (ms ++ m ∷ [])) d
      new d t = inr (subst (λ xs. Contains xs d) whole (Contains-append_right (all_ends ms) (all_ends (m ∷ [])) d (Contains-append_left (ends_of m) [] d t)))

  -- one turn of a loop over the messages
  pub stretch_more : (ms : List (Msg U V)) (i : ℕ) (m : Msg U V) (from : List ℕ) (end stop e new : Option (List ℕ)) → i < length ms → m ≡ get_or ms i m → IsStretch (take i ms) from end stop → IsNextEnd from m e → is_for m from ≡ false → new ≡ earlier_end stop e → IsStretch (take (i + 1) ms) from end new
  stretch_more ms i m from end stop e new h at x y n is =
      let one : take (i + 1) ms ≡ take i ms ++ m ∷ [] = take_more ms i m h ∙ ap (λ (z : Msg U V). take i ms ++ z ∷ []) (sym at) in
      subst (λ (xs : List (Msg U V)). IsStretch xs from end new) (sym one) (subst (IsStretch (take i ms ++ m ∷ []) from end) (sym is) (stretch_push (take i ms) m from end stop e x y n))

  -- the key behind one that a message is for alone is an end
  pub next_is_end : (m : Msg U V) (k : List ℕ) → is_for m k ≡ true → Contains (ends_of m) (next_key k)
  next_is_end (Put q v) k e = (1, omega arith, ap next_key (same_true q k e))
  next_is_end (Del q) k e = (1, omega arith, ap next_key (same_true q k e))
  next_is_end (DelRange r) k e = (cc)
  next_is_end (Edit q u) k e = (1, omega arith, ap next_key (same_true q k e))

  next_is_one : (ms : List (Msg U V)) (i : ℕ) (d : Msg U V) (k : List ℕ) → i < length ms → is_for (get_or ms i d) k ≡ true → Contains (all_ends ms) (next_key k)
  next_is_one [] i d k h e = absurd (omega arith)
  next_is_one (m ∷ ms) zero d k h e = Contains-append_left (ends_of m) (all_ends ms) (next_key k) (next_is_end m k e)
  next_is_one (m ∷ ms) (suc i) d k h e = Contains-append_right (ends_of m) (all_ends ms) (next_key k) (next_is_one ms i d k (omega arith) e)

  -- a stretch of the one key that a message is for alone
  pub stretch_of_one : (ms : List (Msg U V)) (i : ℕ) (m : Msg U V) (from next : List ℕ) (end : Option (List ℕ)) → i < length ms → m ≡ get_or ms i m → is_below from end ≡ true → is_for m from ≡ true → next ≡ next_key from → IsStretch ms from end (Some next)
  stretch_of_one ms i m from next end h at low e is = subst (λ (k : List ℕ). IsStretch ms from end (Some k)) (sym is) (record {
    alike = λ k w j d l. ap (λ (q : List ℕ). touches (get_or ms j d) q) (sym (one_before_next k from w));
    after = before-next from;
    inside = λ k b. begins_before_end k from end (reaches-from_before_next k from b) low;
    an_end = inr (next_is_one ms i m from h (subst (λ (z : Msg U V). is_for z from ≡ true) at e));
  })

-- the earlier of an end and none
