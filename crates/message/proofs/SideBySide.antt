-- Lists that lie one on each side of a pivot, and what is joined of them.
use Rattle.std.proofs.Common.{◌≡◌, ℕ, Bool, true, false, List, [], ◌∷◌, ◌++◌, refl, ap, sym, ◌∙◌, subst, Option, Some, None, cond, arith, append-nil, length-append}
use Rattle.std.specs.Prelude.{◌&&◌, ◌||◌}
use Rattle.std.specs.Option.{option_to_list}
use Rattle.pathkey.specs.Order.{same}
use Rattle.pathkey.specs.Keys.{is_below}
use Rattle.pathkey.specs.declared.range.KeyRange.{KeyRange}
use Rattle.pathkey.proofs.KeyOrder.{from_start, reaches-refl, reaches-from_not_before, not_before_from_reaches, not_reaches_from_before}
use Rattle.message.specs.declared.msg.Msg.{Msg}
use Rattle.message.specs.declared.msg.Msg.TheVariants.{Put, Del, DelRange, Edit}
use Rattle.message.specs.Cuts.{cut_to, pieces, LieIn, LieOut, IsJoined}
use Rattle.message.specs.Effects.{touches, any_touches, effects, Takes}
use Rattle.message.specs.Ranges.{within, reaches, before, later_key, earlier_end}
use Rattle.message.proofs.Condensing.{touches_append, takes_folded}
use Rattle.message.proofs.CutFacts.{cut_outside, effects-pieces}
use Rattle.message.proofs.Cutting.{cut_twice}
use Rattle.message.proofs.RangeEnds.{later_start}
use Rattle.message.proofs.KeyOrder.{both, reaches-later, within-cut, cut_within, empty_by, apart_by, split_bool}
use Rattle.message.proofs.Lists.{any_touches-append, untouched}
use Rattle.message.proofs.Parting.{pieces-append, pieces-in, pieces-out, second_false}
use Rattle.message.proofs.PointKeys.{or_none}

-- ---- keys on the two sides

-- a range that is cut where no key of it lies is empty
empty_cut : (lo a : List ℕ) (hi b : Option (List ℕ)) → within lo hi (later_key lo a) ≡ false → is_below (later_key lo a) (earlier_end hi b) ≡ false
empty_cut lo a hi b h =
    let l = later_key lo a in
    let e = earlier_end hi b in
    ap (λ c. c && is_below l e) (sym (reaches-refl l)) ∙ cut_within lo a hi b l h

pub in_front : (p k : List ℕ) → before k p ≡ true → within [] (Some p) k ≡ true
in_front p k b = ap (λ c. c && before k p) (from_start k) ∙ b

not_behind : (p k : List ℕ) → before k p ≡ true → within p None k ≡ false
not_behind p k b = ap (λ c. c && true) (not_reaches_from_before k p b)

pub behind : (p k : List ℕ) → before k p ≡ false → within p None k ≡ true
behind p k n = ap (λ c. c && true) (reaches-from_not_before k p n)

not_in_front : (p k : List ℕ) → before k p ≡ false → within [] (Some p) k ≡ false
not_in_front p k n = second_false (reaches [] k) (before k p) n

no_key : (p q : List ℕ) → within p (Some p) q ≡ false
no_key p q = split_bool (before q p)
    (λ b. ap (λ c. c && before q p) (not_reaches_from_before q p b))
    (λ n. second_false (reaches p q) (before q p) n)

module _ {U V : Type 0} where
  -- ---- what touches a key of the range, and what none outside it

  chosen : (m : Msg U V) (b : Bool) (k : List ℕ) → (b ≡ false → touches m k ≡ false) → any_touches (option_to_list (cond b (Some m) None)) k ≡ touches m k
  chosen m true k h = or_none (touches m k)
  chosen m false k h = sym (h refl)

  touches-cut : (lo : List ℕ) (hi : Option (List ℕ)) (m : Msg U V) (k : List ℕ) → within lo hi k ≡ true → any_touches (option_to_list (cut_to lo hi m)) k ≡ touches m k
  touches-cut lo hi (Put q v) k h = chosen (Put q v) (within lo hi q) k (λ f. apart_by (same q k) lo q k hi refl f h)
  touches-cut lo hi (Del q) k h = chosen (Del q) (within lo hi q) k (λ f. apart_by (same q k) lo q k hi refl f h)
  touches-cut lo hi (Edit q u) k h = chosen (Edit q u) (within lo hi q) k (λ f. apart_by (same q k) lo q k hi refl f h)
  touches-cut lo hi (DelRange r) k h =
      let l = later_key lo r.lo in
      let e = earlier_end hi r.hi in
      chosen (DelRange (record { lo = l; hi = e })) (is_below l e) k (λ f. empty_by (within l e k) l k e refl f) ∙ within-cut lo r.lo hi r.hi k h

  -- inside the range the pieces of messages touch what the messages touch
  pub touches-pieces : (lo : List ℕ) (hi : Option (List ℕ)) (ms : List (Msg U V)) (k : List ℕ) → within lo hi k ≡ true → any_touches (pieces lo hi ms) k ≡ any_touches ms k
  touches-pieces lo hi [] k h = refl
  touches-pieces lo hi (m ∷ ms) k h =
      touches_append (option_to_list (cut_to lo hi m)) (pieces lo hi ms) k
      ∙ ap (λ b. b || any_touches (pieces lo hi ms) k) (touches-cut lo hi m k h)
      ∙ ap (λ b. touches m k || b) (touches-pieces lo hi ms k h)

  -- outside it they touch nothing
  pub pieces_outside : (lo : List ℕ) (hi : Option (List ℕ)) (ms : List (Msg U V)) (k : List ℕ) → within lo hi k ≡ false → any_touches (pieces lo hi ms) k ≡ false
  pieces_outside lo hi [] k h = refl
  pieces_outside lo hi (m ∷ ms) k h = any_touches-append (option_to_list (cut_to lo hi m)) (pieces lo hi ms) k (cut_outside lo hi m k h) (pieces_outside lo hi ms k h)

  -- ---- what lies on one side has no part on the other

  kept : (b : Bool) (m : Msg U V) → cond b (Some m) None ≡ Some m → b ≡ true
  kept true m e = refl
  kept false m e = absurd (cc)

  kept_start : (b : Bool) (m : Msg U V) (l : List ℕ) (h : Option (List ℕ)) (r : KeyRange) → m ≡ DelRange (record { lo = l; hi = h }) → cond b (Some m) None ≡ Some (DelRange r) → l ≡ r.lo
  kept_start true m l h r d e = (let s : record { lo = l; hi = h } ≡ r = cc in ap (λ (x : KeyRange). x.lo) s)
  kept_start false m l h r d e = absurd (cc)

  point_out : (p q : List ℕ) (m : Msg U V) → cond (within p None q) (Some m) None ≡ Some m → cond (within [] (Some p) q) (Some m) None ≡ None
  point_out p q m e =
      let from = both (reaches p q) true (kept (within p None q) m e) in
      ap (λ b. cond b (Some m) None) (not_in_front p q (not_before_from_reaches p q from.0))

  one_from_out : (p : List ℕ) (m : Msg U V) → cut_to p None m ≡ Some m → cut_to [] (Some p) m ≡ None
  one_from_out p (Put q v) e = point_out p q (Put q v) e
  one_from_out p (Del q) e = point_out p q (Del q) e
  one_from_out p (Edit q u) e = point_out p q (Edit q u) e
  one_from_out p (DelRange r) e =
      let l = later_key p r.lo in
      let start : l ≡ r.lo = kept_start (is_below l r.hi) (DelRange (record { lo = l; hi = r.hi })) l r.hi r refl e in
      let from : reaches p r.lo ≡ true = subst (λ k. reaches p k ≡ true) start (reaches-later p r.lo) in
      let out : within [] (Some p) (later_key [] r.lo) ≡ false = not_in_front p (later_key [] r.lo) (ap (λ k. before k p) (later_start r.lo) ∙ not_before_from_reaches p r.lo from) in
      ap (λ b. cond b (Some (DelRange (record { lo = later_key [] r.lo; hi = earlier_end (Some p) r.hi }))) None) (empty_cut [] r.lo (Some p) r.hi out)

  from_out : (p : List ℕ) (ms : List (Msg U V)) → LieIn p None ms → LieOut [] (Some p) ms
  from_out p [] h = tt
  from_out p (m ∷ ms) h = (one_from_out p m h.0, from_out p ms h.1)

  none_at : (p : List ℕ) (m : Msg U V) → cut_to p (Some p) m ≡ None
  none_at p (Put q v) = ap (λ b. cond b (Some (Put q v)) None) (no_key p q)
  none_at p (Del q) = ap (λ b. cond b (Some (Del q)) None) (no_key p q)
  none_at p (Edit q u) = ap (λ b. cond b (Some (Edit q u)) None) (no_key p q)
  none_at p (DelRange r) = ap (λ b. cond b (Some (DelRange (record { lo = later_key p r.lo; hi = earlier_end (Some p) r.hi }))) None) (empty_cut p r.lo (Some p) r.hi (no_key p (later_key p r.lo)))

  out_at : (p : List ℕ) (ms : List (Msg U V)) → LieOut p (Some p) ms
  out_at p [] = tt
  out_at p (m ∷ ms) = (none_at p m, out_at p ms)

  -- what lies from the pivot on has no part before it
  pub none_before : (p : List ℕ) (ms : List (Msg U V)) → LieIn p None ms → pieces [] (Some p) ms ≡ []
  none_before p ms h = pieces-out [] (Some p) ms (from_out p ms h)

  -- what lies before the pivot has no part from it on
  pub none_from : (p : List ℕ) (ms : List (Msg U V)) → LieIn [] (Some p) ms → pieces p None ms ≡ []
  none_from p ms h = ap (λ t. pieces p None t) (sym (pieces-in [] (Some p) ms h)) ∙ cut_twice p p ms ∙ pieces-out p (Some p) ms (out_at p ms)

  -- ---- lists end to end that lie in a range

  pub lie_first : (lo : List ℕ) (hi : Option (List ℕ)) (xs ys : List (Msg U V)) → LieIn lo hi (xs ++ ys) → LieIn lo hi xs
  lie_first lo hi [] ys h = tt
  lie_first lo hi (x ∷ xs) ys h = (h.0, lie_first lo hi xs ys h.1)

  pub lie_second : (lo : List ℕ) (hi : Option (List ℕ)) (xs ys : List (Msg U V)) → LieIn lo hi (xs ++ ys) → LieIn lo hi ys
  lie_second lo hi [] ys h = h
  lie_second lo hi (x ∷ xs) ys h = lie_second lo hi xs ys h.1

  pub lie_both : (lo : List ℕ) (hi : Option (List ℕ)) (xs ys : List (Msg U V)) → LieIn lo hi xs → LieIn lo hi ys → LieIn lo hi (xs ++ ys)
  lie_both lo hi [] ys a b = b
  lie_both lo hi (x ∷ xs) ys a b = (a.0, lie_both lo hi xs ys a.1 b)

  -- ---- parts joined by themselves

  -- two lists of which each is joined, one part behind the other
  pub joined_both : (p : List ℕ) (e f s t j k : List (Msg U V)) → IsJoined p e s j → IsJoined p f t k → IsJoined p (e ++ f) (s ++ t) (j ++ k)
  joined_both p e f s t j k a b = record {
    front_is = pieces-append [] (Some p) j k ∙ ap (λ x. x ++ pieces [] (Some p) k) a.front_is ∙ ap (λ x. e ++ x) b.front_is;
    back_is = pieces-append p None j k ∙ ap (λ x. x ++ pieces p None k) a.back_is ∙ ap (λ x. s ++ x) b.back_is;
    bound = omega (arith, a.bound, b.bound, length-append j k, length-append e f, length-append s t);
  }

  -- messages from the pivot on, alone
  pub joined_back : (p : List ℕ) (ms : List (Msg U V)) → LieIn p None ms → IsJoined p [] ms ms
  joined_back p ms h = record {
    front_is = none_before p ms h;
    back_is = pieces-in p None ms h;
    bound = omega arith;
  }

  -- messages before the pivot, alone
  pub joined_front : (p : List ℕ) (ms : List (Msg U V)) → LieIn [] (Some p) ms → IsJoined p ms [] ms
  joined_front p ms h = record {
    front_is = pieces-in [] (Some p) ms h;
    back_is = none_from p ms h;
    bound = omega arith;
  }

  -- messages before the pivot, and behind them those from it on
  pub joined_ends : (p : List ℕ) (xs ys : List (Msg U V)) → LieIn [] (Some p) xs → LieIn p None ys → IsJoined p xs ys (xs ++ ys)
  joined_ends p xs ys a b = subst (λ t. IsJoined p t ys (xs ++ ys)) (append-nil xs) (joined_both p xs [] [] ys xs ys (joined_front p xs a) (joined_back p ys b))

  -- likewise where the second ones are
  pub joined_tails : (p : List ℕ) (e f s t j k xs ys : List (Msg U V)) → e ++ f ≡ xs → s ++ t ≡ ys → LieIn [] (Some p) xs → LieIn p None ys → IsJoined p e s j → k ≡ f ++ t → IsJoined p xs ys (j ++ k)
  joined_tails p e f s t j k xs ys x y a b i h =
      let front : LieIn [] (Some p) f = lie_second [] (Some p) e f (subst (λ ms. LieIn [] (Some p) ms) (sym x) a) in
      let back : LieIn p None t = lie_second p None s t (subst (λ ms. LieIn p None ms) (sym y) b) in
      let second : IsJoined p f t k = subst (λ ms. IsJoined p f t ms) (sym h) (joined_ends p f t front back) in
      subst (λ ms. IsJoined p xs ms (j ++ k)) y (subst (λ ms. IsJoined p ms (s ++ t) (j ++ k)) x (joined_both p e f s t j k i second))

module _ {U V : Type 0} (means : U → Option V → Option V) where
  -- what is joined of two lists is the first, which has taken the second
  pub takes_joined : (p : List ℕ) (e s j : List (Msg U V)) → IsJoined p e s j → Takes means e s j
  takes_joined p e s j h = record {
    meaning = λ k v. split_bool (before k p)
        (λ b.
        sym (effects-pieces means [] (Some p) j k v (in_front p k b))
        ∙ ap (λ t. effects means t k v) h.front_is
        ∙ sym (untouched means s k (effects means e k v) (ap (λ t. any_touches t k) (sym h.back_is) ∙ pieces_outside p None j k (not_behind p k b))))
        (λ n.
        sym (effects-pieces means p None j k v (behind p k n))
        ∙ ap (λ t. effects means t k v) h.back_is
        ∙ ap (λ w. effects means s k w) (sym (untouched means e k v (ap (λ t. any_touches t k) (sym h.front_is) ∙ pieces_outside [] (Some p) j k (not_in_front p k n)))));
    bound = h.bound;
    touched = λ k a c. split_bool (before k p)
        (λ b. sym (touches-pieces [] (Some p) j k (in_front p k b)) ∙ ap (λ t. any_touches t k) h.front_is ∙ a)
        (λ n. sym (touches-pieces p None j k (behind p k n)) ∙ ap (λ t. any_touches t k) h.back_is ∙ c);
  }

  -- a list that means the same means it before another
  pub takes_before : (xs ys zs : List (Msg U V)) → Takes means xs [] zs → Takes means (xs ++ ys) [] (zs ++ ys)
  takes_before xs ys zs h = takes_folded means xs zs ys ys [] refl h
