-- Keys with messages for them alone, and the range-deletes around them.
use Rattle.std.proofs.Common.{◌≡◌, ℕ, suc, ◌+◌, ◌<◌, ◌≤◌, ◌⊎◌, inl, inr, ⊎_elim, Bool, true, false, List, [], ◌∷◌, ◌++◌, length, take, get_or, refl, ap, sym, ◌∙◌, subst, Option, Some, None, cond, arith, ◌||◌}
use Rattle.std.specs.Prelude.{All, Contains, IfSome}
use Rattle.std.proofs.Math.Bool.{or_assoc}
use Rattle.std.proofs.lemmas.Bool.{or_parts, or_from, or_left, or_right}
use Rattle.std.proofs.lemmas.List.{take_more, take_all}
use Rattle.std.proofs.lemmas.List.Elements.{Contains-append_left, Contains-append_right}
use Rattle.pathkey.specs.Keys.{is_below, next_key}
use Rattle.pathkey.proofs.OrderFacts.{same_itself}
use Rattle.pathkey.proofs.KeyOrder.{reaches-refl, reaches-from_not_before, not_before_from_reaches}
use Rattle.message.specs.declared.msg.Msg.{Msg}
use Rattle.message.specs.declared.msg.Msg.TheVariants as msg
use Rattle.message.specs.Effects.{touches, effect, effects, point_key}
use Rattle.message.specs.Ranges.{reaches, before, within}
use Rattle.message.specs.Stretches.{is_for, is_key, ends_of, all_ends, IsStretch}
use Rattle.message.specs.PointKeys.{point_stop, has_point, clears, is_cleared, IsPointStop, IsNextPoint, IsClearStretch}
use Rattle.message.proofs.KeyOrder.{both, unlike_later, below_next, begins_before_end}
use Rattle.message.proofs.NextKey.{by_bool, in_range}
use Rattle.message.proofs.SortedStretches.{outside_key}
use Rattle.message.proofs.StretchEnds.{weaker, all_ends-append, next_is_end}

pub or_none : (b : Bool) → (b || false) ≡ b
or_none true = refl
or_none false = refl

-- ---- what is told of a key

module _ {U V : Type 0} where
  pub has_point-append : (xs ys : List (Msg U V)) (k : List ℕ) → has_point (xs ++ ys) k ≡ (has_point xs k || has_point ys k)
  has_point-append [] ys k = refl
  has_point-append (x ∷ xs) ys k = ap (λ b. is_for x k || b) (has_point-append xs ys k) ∙ sym (or_assoc (is_for x k) (has_point xs k) (has_point ys k))

  pub is_cleared-append : (xs ys : List (Msg U V)) (k : List ℕ) → is_cleared (xs ++ ys) k ≡ (is_cleared xs k || is_cleared ys k)
  is_cleared-append [] ys k = refl
  is_cleared-append (x ∷ xs) ys k = ap (λ b. clears x k || b) (is_cleared-append xs ys k) ∙ sym (or_assoc (clears x k) (is_cleared xs k) (is_cleared ys k))

module _ {U V : Type 0} where
  -- no message
  pub stop_none : (from : List ℕ) (end : Option (List ℕ)) → IsPointStop {U = U} {V = V} [] from end end
  stop_none from end = record { none = λ k h. refl; inside = λ k h. h; one = inl refl }

  -- messages for one key, or none
  pub stop_one : (ms : List (Msg U V)) (o : Option (List ℕ)) (from : List ℕ) (end : Option (List ℕ)) → ((k : List ℕ) → has_point ms k ≡ is_key o k) → IsPointStop ms from end (point_stop o from end)
  stop_one ms None from end e = record { none = λ k h. e k; inside = λ k h. h; one = inl refl }
  stop_one ms (Some q) from end e = (elim (within from end q) as (λ c. within from end q ≡ c → IsPointStop ms from end (cond c (Some q) end)) [
    | true ↦ λ w. record {
      none = λ k h. e k ∙ unlike_later q k (both (reaches from k) (before k q) h).1;
      inside = λ k h. below_next k q end h (both (reaches from q) (is_below q end) w).1;
      one = inr (w, e q ∙ same_itself q);
    }
    | false ↦ λ w. record {
      none = λ k h. e k ∙ outside_key from end q k w h;
      inside = λ k h. h;
      one = inl refl;
    }
  ]) refl

  -- some messages, and then others
  pub stop_then : (xs ys : List (Msg U V)) (from : List ℕ) (end a b : Option (List ℕ)) → IsPointStop xs from end a → IsPointStop ys from a b → IsPointStop (xs ++ ys) from end b
  stop_then xs ys from end a b x y = record {
    none = λ k h. let p = both (reaches from k) (is_below k b) h in has_point-append xs ys k ∙ or_from (has_point xs k) (has_point ys k) (x.none k (in_range from k a p.0 (y.inside k p.1))) (y.none k h);
    inside = λ k h. x.inside k (y.inside k h);
    one = ⊎_elim (λ (e : b ≡ a). first e) (λ t. inr (weaker (λ q. (within from a q ≡ true) × (has_point ys q ≡ true)) (λ q. (within from end q ≡ true) × (has_point (xs ++ ys) q ≡ true)) b (λ q h. second q h) t)) y.one;
  }
    where
      wide : (q : List ℕ) → (within from end q ≡ true) × (has_point xs q ≡ true) → (within from end q ≡ true) × (has_point (xs ++ ys) q ≡ true)
      wide q h = (h.0, has_point-append xs ys q ∙ or_left (has_point xs q) (has_point ys q) h.1)

      first : b ≡ a → (b ≡ end) ⊎ IfSome b (λ q. (within from end q ≡ true) × (has_point (xs ++ ys) q ≡ true))
      first e = ⊎_elim (λ (f : a ≡ end). inl (e ∙ f)) (λ t. inr (subst (λ o. IfSome o (λ q. (within from end q ≡ true) × (has_point (xs ++ ys) q ≡ true))) (sym e) (weaker (λ q. (within from end q ≡ true) × (has_point xs q ≡ true)) (λ q. (within from end q ≡ true) × (has_point (xs ++ ys) q ≡ true)) a (λ q h. wide q h) t))) x.one

      second : (q : List ℕ) → (within from a q ≡ true) × (has_point ys q ≡ true) → (within from end q ≡ true) × (has_point (xs ++ ys) q ≡ true)
      second q h =
          let p = both (reaches from q) (is_below q a) h.0 in
          (in_range from q end p.0 (x.inside q p.1), has_point-append xs ys q ∙ or_right (has_point xs q) (has_point ys q) h.1)

  -- one turn of a loop over the messages
  pub stop_more : (ms : List (Msg U V)) (i : ℕ) (m : Msg U V) (o : Option (List ℕ)) (at : List ℕ) (end stop new : Option (List ℕ)) → i < length ms → m ≡ get_or ms i m → o ≡ point_key m → IsPointStop (take i ms) at end stop → new ≡ point_stop o at stop → IsPointStop (take (i + 1) ms) at end new
  stop_more ms i m o at end stop new h g p x is =
      let one : take (i + 1) ms ≡ take i ms ++ m ∷ [] = take_more ms i m h ∙ ap (λ (z : Msg U V). take i ms ++ z ∷ []) (sym g) in
      let last : IsPointStop (m ∷ []) at stop new = subst (IsPointStop (m ∷ []) at stop) (sym (is ∙ ap (λ z. point_stop z at stop) p)) (stop_one (m ∷ []) (point_key m) at stop (λ k. or_none (is_for m k))) in
      subst (λ (xs : List (Msg U V)). IsPointStop xs at end new) (sym one) (stop_then (take i ms) (m ∷ []) at end stop new x last)

  pub stop_all : (ms : List (Msg U V)) (i : ℕ) (from : List ℕ) (end stop : Option (List ℕ)) → length ms ≤ i → IsPointStop (take i ms) from end stop → IsPointStop ms from end stop
  stop_all ms i from end stop h x = subst (λ (xs : List (Msg U V)). IsPointStop xs from end stop) (take_all i ms h) x

  -- ---- the next key

  pub next_some : (ms : List (Msg U V)) (from : List ℕ) (end stop : Option (List ℕ)) (q : List ℕ) → IsPointStop ms from end stop → stop ≡ Some q → is_below q end ≡ true → IsNextPoint ms from end (Some q)
  next_some ms from end stop q x e low =
      let y : IsPointStop ms from end (Some q) = subst (IsPointStop ms from end) e x in
      let here = ⊎_elim (λ (f : Some q ≡ end). absurd (let z : is_below q (Some q) ≡ true = ap (is_below q) f ∙ low in let no : before q q ≡ false = not_before_from_reaches q q (reaches-refl q) in cc)) (λ (t : (within from end q ≡ true) × (has_point ms q ≡ true)). t) y.one in
      (here.0, here.1, y.none)

  pub next_none : (ms : List (Msg U V)) (from : List ℕ) (end stop : Option (List ℕ)) → IsPointStop ms from end stop → ((k : List ℕ) → is_below k end ≡ true → is_below k stop ≡ true) → IsNextPoint ms from end None
  next_none ms from end stop x f k h = let p = both (reaches from k) (is_below k end) h in x.none k (in_range from k stop p.0 (f k p.1))

-- ---- range-deletes

module _ {U V : Type 0} where
  clears_alike : (m : Msg U V) (k from : List ℕ) → touches m k ≡ touches m from → clears m k ≡ clears m from
  clears_alike (msg.Put q v) k from h = refl
  clears_alike (msg.Del q) k from h = refl
  clears_alike (msg.DelRange r) k from h = h
  clears_alike (msg.Edit q u) k from h = refl

  cleared_alike : (ms : List (Msg U V)) (k from : List ℕ) → All (λ m. touches m k ≡ touches m from) ms → is_cleared ms k ≡ is_cleared ms from
  cleared_alike [] k from a = refl
  cleared_alike (m ∷ ms) k from a = (λ i. clears_alike m k from (a 0 m (omega arith)) i || cleared_alike ms k from (λ j d l. a (suc j) d (omega (arith, l))) i)

  ends_before : (xs ys : List (Msg U V)) (end stop : Option (List ℕ)) → IfSome stop (λ d. (end ≡ Some d) ⊎ Contains (all_ends xs) d) → IfSome stop (λ d. (end ≡ Some d) ⊎ Contains (all_ends (xs ++ ys)) d)
  ends_before xs ys end stop h = weaker (λ d. (end ≡ Some d) ⊎ Contains (all_ends xs) d) (λ d. (end ≡ Some d) ⊎ Contains (all_ends (xs ++ ys)) d) stop (λ d t. ⊎_elim (λ (e : end ≡ Some d). inl e) (λ (c : Contains (all_ends xs) d). inr (subst (λ zs. Contains zs d) (sym (all_ends-append xs ys)) (Contains-append_left (all_ends xs) (all_ends ys) d c))) t) h

  -- and others behind
  pub tail_stretch : (xs ys : List (Msg U V)) (from : List ℕ) (end a b : Option (List ℕ)) → IsClearStretch xs from end a → IsStretch ys from a b → IsClearStretch (xs ++ ys) from end b
  tail_stretch xs ys from end a b x y = record {
    alike = λ k h. let p = both (reaches from k) (is_below k b) h in is_cleared-append xs ys k ∙ (λ i. x.alike k (in_range from k a p.0 (y.inside k p.1)) i || cleared_alike ys k from (y.alike k h) i) ∙ sym (is_cleared-append xs ys from);
    after = y.after;
    inside = λ k h. x.inside k (y.inside k h);
    an_end = weaker (λ d. (a ≡ Some d) ⊎ Contains (all_ends ys) d) (λ d. (end ≡ Some d) ⊎ Contains (all_ends (xs ++ ys)) d) b (λ d t. ⊎_elim
        (λ (e : a ≡ Some d). subst (λ o. IfSome o (λ z. (end ≡ Some z) ⊎ Contains (all_ends (xs ++ ys)) z)) e (ends_before xs ys end a x.an_end))
        (λ (c : Contains (all_ends ys) d). inr (subst (λ zs. Contains zs d) (sym (all_ends-append xs ys)) (Contains-append_right (all_ends xs) (all_ends ys) d c)))
        t) y.an_end;
  }

-- ---- laws

module _ {U V : Type 0} (means : U → Option V → Option V) where
  one_left : (m : Msg U V) (k : List ℕ) (o : Option V) → is_for m k ≡ false → effect means m k o ≡ cond (clears m k) None o
  one_left (msg.Put q v) k o h = ap (λ c. cond c (Some v) o) h
  one_left (msg.Del q) k o h = ap (λ c. cond c None o) h
  one_left (msg.DelRange r) k o h = refl
  one_left (msg.Edit q u) k o h = ap (λ c. cond c (means u o) o) h

  twice : (a b : Bool) (o : Option V) → cond b None (cond a None o) ≡ cond (a || b) None o
  twice true true o = refl
  twice true false o = refl
  twice false b o = refl

  -- where no message is for a key alone, no value is left if a range-delete holds it, else the old one
  pub left_by_ranges : (ms : List (Msg U V)) (k : List ℕ) (o : Option V) → has_point ms k ≡ false → effects means ms k o ≡ cond (is_cleared ms k) None o
  left_by_ranges [] k o h = refl
  left_by_ranges (m ∷ ms) k o h =
      let p = or_parts (is_for m k) (has_point ms k) h in
      ap (effects means ms k) (one_left m k o p.0) ∙ left_by_ranges ms k (cond (clears m k) None o) p.1 ∙ twice (clears m k) (is_cleared ms k) o

  one_clears : (m : Msg U V) (k : List ℕ) (o p : Option V) → clears m k ≡ true → effect means m k o ≡ effect means m k p
  one_clears (msg.Put q v) k o p h = absurd (cc)
  one_clears (msg.Del q) k o p h = absurd (cc)
  one_clears (msg.DelRange r) k o p h = ap (λ c. cond c None o) h ∙ sym (ap (λ c. cond c None p) h)
  one_clears (msg.Edit q u) k o p h = absurd (cc)

  -- where a range-delete holds a key, the old value does not count
  pub forgets : (ms : List (Msg U V)) (k : List ℕ) (o p : Option V) → is_cleared ms k ≡ true → effects means ms k o ≡ effects means ms k p
  forgets [] k o p h = absurd (cc)
  forgets (m ∷ ms) k o p h = by_bool (clears m k) (effects means ms k (effect means m k o) ≡ effects means ms k (effect means m k p))
      (λ t. ap (effects means ms k) (one_clears m k o p t))
      (λ t. forgets ms k (effect means m k o) (effect means m k p) (sym (ap (λ b. b || is_cleared ms k) t) ∙ h))

-- the key behind one with a message for it alone is an end
pub point_end : {U V : Type 0} (ms : List (Msg U V)) (q : List ℕ) → has_point ms q ≡ true → Contains (all_ends ms) (next_key q)
point_end [] q h = absurd (cc)
point_end (m ∷ ms) q h = by_bool (is_for m q) (Contains (all_ends (m ∷ ms)) (next_key q))
    (λ t. Contains-append_left (ends_of m) (all_ends ms) (next_key q) (next_is_end m q t))
    (λ t. Contains-append_right (ends_of m) (all_ends ms) (next_key q) (point_end ms q (sym (ap (λ b. b || has_point ms q) t) ∙ h)))

-- below an end that a key does not lie below, each key stands before that key
pub below_past : (q k : List ℕ) (end : Option (List ℕ)) → is_below q end ≡ false → is_below k end ≡ true → before k q ≡ true
below_past q k end e h = by_bool (before k q) (before k q ≡ true) (λ t. t) (λ f. absurd (
    let t : is_below q end ≡ true = begins_before_end q k end (reaches-from_not_before k q f) h in
    cc))
