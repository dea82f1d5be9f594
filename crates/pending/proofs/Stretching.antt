-- Where stretches of a sorted list end, and the keys with messages for them alone.
use Rattle.std.proofs.Common.{◌≡◌, ℕ, ◌<◌, length, append-nil, ◌⊎◌, inl, inr, ⊎_elim, List, [], ◌∷◌, refl, sym, ap, ◌∙◌, subst, Option, Some, None, true, false, cond, ◌||◌}
use Rattle.std.specs.Prelude.{◌&&◌, Contains}
use Rattle.std.specs.List.{AllByRecursion, All}
use Rattle.std.specs.Map.{keys_of}
use Rattle.std.specs.Ordering.{is_eq, is_lt}
use Rattle.std.specs.BTreeMap.{is_at}
use Rattle.std.specs.declared.cmp.Ordering.TheVariants.{Less}
use Rattle.std.proofs.lemmas.Bool.{or_from, or_left, or_parts, or_right}
use Rattle.std.proofs.lemmas.List.Elements.{All-head, All-tail, Contains-append_left}
use Rattle.std.proofs.lemmas.Map.Entries.{lookup_head, lookup_tail}
use Rattle.std.proofs.lemmas.Map.Keys.{sorted_head, sorted_tail}
use Rattle.pathkey.specs.Order.{by_bytes, by_bytes_equiv, same}
use Rattle.pathkey.specs.Keys.{is_below, next_key}
use Rattle.pathkey.proofs.KeyOrder.{le_le, le_lt, lt_le, reaches-from_before, reaches-from_not_before, not_reaches_from_before, not_before_from_reaches, before_from_not_reaches}
use Rattle.cow_map.specs.Places.{Rises, at_key}
use Rattle.message.specs.declared.msg.Msg.{Msg}
use Rattle.message.specs.Effects.{touches, any_touches}
use Rattle.message.specs.Ranges.{reaches, before, within, earlier_end}
use Rattle.message.specs.Oldest.{first_point}
use Rattle.message.specs.PointKeys.{point_stop, has_point, is_cleared, IsPointStop, IsClearStretch}
use Rattle.message.specs.Stretches.{is_key, ahead_of, all_ends, IsStretch}
use Rattle.message.proofs.KeyOrder.{both, unlike_earlier, unlike_later, beyond}
use Rattle.message.proofs.NextKey.{by_bool}
use Rattle.message.proofs.PointKeys.{has_point-append, is_cleared-append, or_none, point_end, stop_none, stop_one, stop_then}
use Rattle.message.proofs.SortedStretches.{no_stretch, stretch_then}
use Rattle.message.proofs.StretchEnds.{below_earlier, weaker, all_ends-append}
use Rattle.point_ops.specs.Changes.{KeyOp, run_msgs}
use Rattle.point_ops.specs.PointOps.{point_msgs, first_from, AreRuns}
use Rattle.range_set.specs.Disjoint.{Span, covered, range_msgs}
use Rattle.pending.specs.SortedMsgs.{sorted_msgs}
use Rattle.pending.proofs.OneKey.{key_points, key_alike, none_clears}
use Rattle.pending.proofs.Runs.{run_alike, run_first, points_count}
use Rattle.pending.proofs.Meaning.{touches-ranges}

-- ---- ends

end_alone : (end : Option (List ℕ)) → earlier_end end None ≡ end
end_alone None = refl
end_alone (Some h) = refl

earlier_of : (m y : List ℕ) → before m y ≡ true → earlier_end (Some m) (Some y) ≡ Some m
earlier_of m y b = ap (λ c. Some (cond c m y)) b

-- an end behind a key changes nothing where the key is one
end_past : (end : Option (List ℕ)) (x y : List ℕ) → before x y ≡ true → earlier_end (earlier_end end (Some x)) (Some y) ≡ earlier_end end (Some x)
end_past None x y b = earlier_of x y b
end_past (Some h) x y b = by_bool (before h x) (earlier_end (Some (cond (before h x) h x)) (Some y) ≡ Some (cond (before h x) h x))
    (λ t. subst (λ c. earlier_end (Some (cond c h x)) (Some y) ≡ Some (cond c h x)) (sym t) (earlier_of h y (lt_le h x y t (reaches-from_before x y b))))
    (λ f. subst (λ c. earlier_end (Some (cond c h x)) (Some y) ≡ Some (cond c h x)) (sym f) (earlier_of x y b))

below_end : (k q : List ℕ) (end : Option (List ℕ)) → is_below k end ≡ true → is_below q end ≡ false → before k q ≡ true
below_end k q None u n = absurd (cc)
below_end k q (Some h) u n = lt_le k h q u (reaches-from_not_before q h n)

-- a key up to the stop stands before the key that makes it
before_stop : (from q k : List ℕ) (end : Option (List ℕ)) → reaches from q ≡ true → within from (point_stop (Some q) from end) k ≡ true → before k q ≡ true
before_stop from q k end r w = (elim (within from end q) as (λ c. within from end q ≡ c → within from (cond c (Some q) end) k ≡ true → before k q ≡ true) [
  | true ↦ λ e h. (both (reaches from k) (before k q) h).1
  | false ↦ λ e h. below_end k q end (both (reaches from k) (is_below k end) h).1 (sym (ap (λ c. c && is_below q end) r) ∙ e)
]) refl w

module _ {X : Type 0} where
  -- the first key from one on, where all stand behind another
  next_past : (from x : List ℕ) (es : List (List ℕ × X)) → reaches from x ≡ true → AllByRecursion (λ y. by_bytes x y ≡ Less) (keys_of es) → (first_from from es ≡ None) ⊎ ((y : List ℕ) × (first_from from es ≡ Some y) × (before x y ≡ true))
  next_past from x [] r a = inl refl
  next_past from x (e ∷ es) r a =
      let b : before x e.0 ≡ true = ap is_lt a.0 in
      let t : reaches from e.0 ≡ true = le_le from x e.0 r (reaches-from_before x e.0 b) in
      inr (e.0, ap (λ c. cond c (Some e.0) (first_from from es)) t, b)

-- no range-delete is for one key alone
pub ranges_point : (U V : Type 0) (rs : List Span) (k : List ℕ) → has_point {U = U} {V = V} (range_msgs rs) k ≡ false
ranges_point U V [] k = refl
ranges_point U V (r ∷ rs) k = ranges_point U V rs k

module _ {U V : Type 0} where
  -- ---- where the points act alike

  run_stretch : (k : List ℕ) (cs : List (KeyOp U V)) (from : List ℕ) (end ahead : Option (List ℕ)) → 0 < length cs → same k from ≡ false → is_below from end ≡ true → ahead_of from (Some k) ≡ ahead → IsStretch (run_msgs k cs) from end (earlier_end end ahead)
  run_stretch k cs from end ahead some other low is = subst (λ o. IsStretch (run_msgs k cs) from end (earlier_end end o)) is (key_alike k (run_msgs k cs) from end (run_alike k cs) (first k cs some) other low)
    where
      first : (k : List ℕ) (cs : List (KeyOp U V)) → 0 < length cs → first_point (run_msgs k cs) ≡ Some k
      first k cs some = ap (λ (ms : List (Msg U V)). first_point ms) (sym (append-nil (run_msgs k cs))) ∙ run_first k cs [] some

  pub points_from : (from : List ℕ) (end : Option (List ℕ)) (es : List (List ℕ × List (KeyOp U V))) → Rises es → AreRuns es → is_key (first_from from es) from ≡ false → is_below from end ≡ true → IsStretch (point_msgs es) from end (earlier_end end (first_from from es))
  points_from from end [] s r other low = subst (IsStretch {U = U} {V = V} [] from end) (sym (end_alone end)) (no_stretch from end low)
  points_from from end (e ∷ es) s r other low =
      let some : 0 < length e.1 = All-head (λ (x : List ℕ × List (KeyOp U V)). 0 < length x.1) e es r in
      let runs : AreRuns es = All-tail (λ (x : List ℕ × List (KeyOp U V)). 0 < length x.1) e es r in
      let rises : Rises es = sorted_tail by_bytes e.0 (keys_of es) s in
      by_bool (reaches from e.0) (IsStretch (point_msgs (e ∷ es)) from end (earlier_end end (first_from from (e ∷ es))))
      (λ t.
      let is : first_from from (e ∷ es) ≡ Some e.0 = ap (λ c. cond c (Some e.0) (first_from from es)) t in
      let unlike : same e.0 from ≡ false = sym (ap (λ o. is_key o from) is) ∙ other in
      let stop = earlier_end end (Some e.0) in
      let up : before from e.0 ≡ true = by_bool (before from e.0) (before from e.0 ≡ true) (λ y. y) (λ n. absurd (let c : reaches from e.0 ≡ false = not_reaches_from_before e.0 from (beyond from e.0 n (same_not e.0 from unlike)) in cc)) in
      let here : IsStretch (run_msgs e.0 e.1) from end stop = run_stretch e.0 e.1 from end (Some e.0) some unlike low (ap (λ c. cond c (Some e.0) None) up) in
      let under : is_below from stop ≡ true = below_earlier end (Some e.0) from low up in
      let next = next_past from e.0 es t (sorted_head by_bytes e.0 (keys_of es) s) in
      let apart : is_key (first_from from es) from ≡ false = ⊎_elim (λ (n : first_from from es ≡ None). ap (λ o. is_key o from) n) (λ (y : (y : List ℕ) × (first_from from es ≡ Some y) × (before e.0 y ≡ true)). ap (λ o. is_key o from) y.1 ∙ unlike_later y.0 from (le_lt from e.0 y.0 t y.2)) next in
      let same_end : earlier_end stop (first_from from es) ≡ stop = ⊎_elim (λ (n : first_from from es ≡ None). ap (earlier_end stop) n ∙ end_alone stop) (λ (y : (y : List ℕ) × (first_from from es ≡ Some y) × (before e.0 y ≡ true)). ap (earlier_end stop) y.1 ∙ end_past end e.0 y.0 y.2) next in
      let rest : IsStretch (point_msgs es) from stop stop = subst (IsStretch (point_msgs es) from stop) same_end (points_from from stop es rises runs apart under) in
      subst (λ o. IsStretch (point_msgs (e ∷ es)) from end (earlier_end end o)) (sym is) (stretch_then (run_msgs e.0 e.1) (point_msgs es) from end stop stop here rest))
      (λ f.
      let is : first_from from (e ∷ es) ≡ first_from from es = ap (λ c. cond c (Some e.0) (first_from from es)) f in
      let down : before e.0 from ≡ true = before_from_not_reaches from e.0 f in
      let none : ahead_of from (Some e.0) ≡ None = ap (λ c. cond c (Some e.0) None) (not_before_from_reaches e.0 from (reaches-from_before e.0 from down)) in
      let here : IsStretch (run_msgs e.0 e.1) from end end = subst (IsStretch (run_msgs e.0 e.1) from end) (end_alone end) (run_stretch e.0 e.1 from end None some (unlike_earlier e.0 from down) low none) in
      let rest = points_from from end es rises runs (sym (ap (λ o. is_key o from) is) ∙ other) low in
      subst (λ o. IsStretch (point_msgs (e ∷ es)) from end (earlier_end end o)) (sym is) (stretch_then (run_msgs e.0 e.1) (point_msgs es) from end end (earlier_end end (first_from from es)) here rest))
    where
      same_not : (a b : List ℕ) → same a b ≡ false → same b a ≡ false
      same_not a b h = by_bytes_equiv.symm b a ∙ h

  pub run_points : (k : List ℕ) (cs : List (KeyOp U V)) (q : List ℕ) → 0 < length cs → has_point (run_msgs k cs) q ≡ same k q
  run_points k cs q some = key_points k q (run_msgs k cs) (run_alike k cs) (ap (λ (ms : List (Msg U V)). first_point ms) (sym (append-nil (run_msgs k cs))) ∙ run_first k cs [] some)

  -- a message is for the key alone where the points have it, and only there
  none_for_points : (es : List (List ℕ × List (KeyOp U V))) (q : List ℕ) → AreRuns es → at_key q es ≡ None → has_point (point_msgs es) q ≡ false
  none_for_points [] q r h = refl
  none_for_points (e ∷ es) q r h =
      let some : 0 < length e.1 = All-head (λ (x : List ℕ × List (KeyOp U V)). 0 < length x.1) e es r in
      by_bool (is_eq (by_bytes q e.0)) (has_point (point_msgs (e ∷ es)) q ≡ false)
      (λ b. let hit : at_key q (e ∷ es) ≡ Some e.1 = lookup_head (is_at (by_bytes q)) e es b in let no : Some e.1 ≡ None = sym hit ∙ h in absurd (cc))
      (λ b.
      let here : has_point (run_msgs e.0 e.1) q ≡ false = run_points e.0 e.1 q some ∙ by_bytes_equiv.symm e.0 q ∙ b in
      let rest : has_point (point_msgs es) q ≡ false = none_for_points es q (All-tail (λ (x : List ℕ × List (KeyOp U V)). 0 < length x.1) e es r) (sym (lookup_tail (is_at (by_bytes q)) e es b) ∙ h) in
      has_point-append (run_msgs e.0 e.1) (point_msgs es) q ∙ or_from (has_point (run_msgs e.0 e.1) q) (has_point (point_msgs es) q) here rest)

  pub absent_from : (es : List (List ℕ × List (KeyOp U V))) (q : List ℕ) → AreRuns es → has_point (point_msgs es) q ≡ false → at_key q es ≡ None
  absent_from [] q r h = refl
  absent_from (e ∷ es) q r h =
      let some : 0 < length e.1 = All-head (λ (x : List ℕ × List (KeyOp U V)). 0 < length x.1) e es r in
      let p = or_parts (has_point (run_msgs e.0 e.1) q) (has_point (point_msgs es) q) (sym (has_point-append (run_msgs e.0 e.1) (point_msgs es) q) ∙ h) in
      let apart : is_eq (by_bytes q e.0) ≡ false = by_bytes_equiv.symm q e.0 ∙ sym (run_points e.0 e.1 q some) ∙ p.0 in
      lookup_tail (is_at (by_bytes q)) e es apart ∙ absent_from es q (All-tail (λ (x : List ℕ × List (KeyOp U V)). 0 < length x.1) e es r) p.1

  -- the range-deletes have no part in it
  pub sorted_point : (rs : List Span) (es : List (List ℕ × List (KeyOp U V))) (q : List ℕ) → has_point (sorted_msgs rs es) q ≡ has_point (point_msgs es) q
  sorted_point rs es q = has_point-append (range_msgs rs) (point_msgs es) q ∙ ap (λ b. b || has_point (point_msgs es) q) (ranges_point U V rs q)

  pub none_for : (rs : List Span) (es : List (List ℕ × List (KeyOp U V))) (q : List ℕ) → AreRuns es → at_key q es ≡ None → has_point (sorted_msgs rs es) q ≡ false
  none_for rs es q r h = sorted_point rs es q ∙ none_for_points es q r h

  -- a message is for the key alone, where that is the first from it on
  points_at : (from : List ℕ) (es : List (List ℕ × List (KeyOp U V))) → AreRuns es → is_key (first_from from es) from ≡ true → has_point (point_msgs es) from ≡ true
  points_at from [] r h = absurd (cc)
  points_at from (e ∷ es) r h =
      let some : 0 < length e.1 = All-head (λ (x : List ℕ × List (KeyOp U V)). 0 < length x.1) e es r in
      has_point-append (run_msgs e.0 e.1) (point_msgs es) from
      ∙ by_bool (reaches from e.0) ((has_point (run_msgs e.0 e.1) from || has_point (point_msgs es) from) ≡ true)
      (λ t. or_left (has_point (run_msgs e.0 e.1) from) (has_point (point_msgs es) from) (run_points e.0 e.1 from some ∙ sym (ap (λ c. is_key (cond c (Some e.0) (first_from from es)) from) t) ∙ h))
      (λ f. or_right (has_point (run_msgs e.0 e.1) from) (has_point (point_msgs es) from) (points_at from es (All-tail (λ (x : List ℕ × List (KeyOp U V)). 0 < length x.1) e es r) (sym (ap (λ c. is_key (cond c (Some e.0) (first_from from es)) from) f) ∙ h)))

  pub sorted_next : (rs : List Span) (k : List ℕ) (es : List (List ℕ × List (KeyOp U V))) → AreRuns es → is_key (first_from k es) k ≡ true → Contains (all_ends (sorted_msgs rs es)) (next_key k)
  sorted_next rs k es r h = point_end (sorted_msgs rs es) k (has_point-append (range_msgs rs) (point_msgs es) k ∙ or_right (has_point {U = U} {V = V} (range_msgs rs) k) (has_point (point_msgs es) k) (points_at k es r h))

  -- ---- where the next key with a message stands

  -- messages of later keys alone
  none_ahead : (k x : List ℕ) (es : List (List ℕ × List (KeyOp U V))) → AreRuns es → before k x ≡ true → AllByRecursion (λ y. by_bytes x y ≡ Less) (keys_of es) → has_point (point_msgs es) k ≡ false
  none_ahead k x [] r b a = refl
  none_ahead k x (e ∷ es) r b a =
      let some : 0 < length e.1 = All-head (λ (x : List ℕ × List (KeyOp U V)). 0 < length x.1) e es r in
      let later : before k e.0 ≡ true = lt_le k x e.0 b (reaches-from_before x e.0 (ap is_lt a.0)) in
      has_point-append (run_msgs e.0 e.1) (point_msgs es) k ∙ or_from (has_point (run_msgs e.0 e.1) k) (has_point (point_msgs es) k) (run_points e.0 e.1 k some ∙ unlike_later e.0 k later) (none_ahead k x es (All-tail (λ (x : List ℕ × List (KeyOp U V)). 0 < length x.1) e es r) b a.1)

  -- the stop is the first key from the first on
  points_stop : (from : List ℕ) (end : Option (List ℕ)) (es : List (List ℕ × List (KeyOp U V))) → Rises es → AreRuns es → IsPointStop (point_msgs es) from end (point_stop (first_from from es) from end)
  points_stop from end [] s r = stop_none from end
  points_stop from end (e ∷ es) s r =
      let some : 0 < length e.1 = All-head (λ (x : List ℕ × List (KeyOp U V)). 0 < length x.1) e es r in
      let runs : AreRuns es = All-tail (λ (x : List ℕ × List (KeyOp U V)). 0 < length x.1) e es r in
      let here : IsPointStop (run_msgs e.0 e.1) from end (point_stop (Some e.0) from end) = stop_one (run_msgs e.0 e.1) (Some e.0) from end (λ k. run_points e.0 e.1 k some) in
      by_bool (reaches from e.0) (IsPointStop (point_msgs (e ∷ es)) from end (point_stop (first_from from (e ∷ es)) from end))
      (λ t.
      let stop = point_stop (Some e.0) from end in
      let is : point_stop (first_from from (e ∷ es)) from end ≡ stop = ap (λ c. point_stop (cond c (Some e.0) (first_from from es)) from end) t in
      let rest : IsPointStop (point_msgs es) from stop stop = record {
        none = λ k h. none_ahead k e.0 es runs (before_stop from e.0 k end t h) (sorted_head by_bytes e.0 (keys_of es) s);
        inside = λ k h. h;
        one = inl refl;
      } in
      subst (IsPointStop (point_msgs (e ∷ es)) from end) (sym is) (stop_then (run_msgs e.0 e.1) (point_msgs es) from end stop stop here rest))
      (λ t.
      let stop = point_stop (first_from from es) from end in
      let is : point_stop (first_from from (e ∷ es)) from end ≡ stop = ap (λ c. point_stop (cond c (Some e.0) (first_from from es)) from end) t in
      let out : point_stop (Some e.0) from end ≡ end = ap (λ c. cond (c && is_below e.0 end) (Some e.0) end) t in
      let skips : IsPointStop (run_msgs e.0 e.1) from end end = subst (IsPointStop (run_msgs e.0 e.1) from end) out here in
      subst (IsPointStop (point_msgs (e ∷ es)) from end) (sym is) (stop_then (run_msgs e.0 e.1) (point_msgs es) from end end stop skips (points_stop from end es (sorted_tail by_bytes e.0 (keys_of es) s) runs)))

  pub sorted_stop : (rs : List Span) (es : List (List ℕ × List (KeyOp U V))) (from : List ℕ) (end stop : Option (List ℕ)) → Rises es → AreRuns es → stop ≡ point_stop (first_from from es) from end → IsPointStop (sorted_msgs rs es) from end stop
  sorted_stop rs es from end stop s r is =
      subst (IsPointStop (sorted_msgs rs es) from end) (sym is) (stop_then (range_msgs rs) (point_msgs es) from end end (point_stop (first_from from es) from end) (stop_one (range_msgs rs) None from end (λ k. ranges_point U V rs k)) (points_stop from end es s r))

  -- ---- range-deletes

  -- the range-deletes of a sorted list are all that clears
  pub sorted_clears : (rs : List Span) (es : List (List ℕ × List (KeyOp U V))) (k : List ℕ) → is_cleared (sorted_msgs rs es) k ≡ covered rs k
  sorted_clears rs es k = is_cleared-append (range_msgs rs) (point_msgs es) k ∙ ap (λ b. is_cleared {U = U} {V = V} (range_msgs rs) k || b) (none_clears (point_msgs es) k (points_count es)) ∙ or_none (is_cleared {U = U} {V = V} (range_msgs rs) k) ∙ ranges rs k
    where
      ranges : (rs : List Span) (k : List ℕ) → is_cleared {U = U} {V = V} (range_msgs rs) k ≡ covered rs k
      ranges [] k = refl
      ranges (r ∷ rs) k = ap (λ b. within r.0 r.1 k || b) (ranges rs k)

  touched_alike : (ms : List (Msg U V)) (k from : List ℕ) → All (λ m. touches m k ≡ touches m from) ms → any_touches ms k ≡ any_touches ms from
  touched_alike [] k from a = refl
  touched_alike (m ∷ ms) k from a = (λ i. All-head (λ (x : Msg U V). touches x k ≡ touches x from) m ms a i || touched_alike ms k from (All-tail (λ (x : Msg U V). touches x k ≡ touches x from) m ms a) i)

  pub sorted_stretch : (rs : List Span) (es : List (List ℕ × List (KeyOp U V))) (from : List ℕ) (end stop : Option (List ℕ)) → IsStretch (range_msgs {U = U} {V = V} rs) from end stop → IsClearStretch (sorted_msgs rs es) from end stop
  sorted_stretch rs es from end stop s = record {
    alike = λ k h. sorted_clears rs es k ∙ sym (touches-ranges U V rs k) ∙ touched_alike (range_msgs rs) k from (s.alike k h) ∙ touches-ranges U V rs from ∙ sym (sorted_clears rs es from);
    after = s.after;
    inside = s.inside;
    an_end = weaker (λ d. (end ≡ Some d) ⊎ Contains (all_ends {U = U} {V = V} (range_msgs rs)) d) (λ d. (end ≡ Some d) ⊎ Contains (all_ends (sorted_msgs rs es)) d) stop (λ d t. ⊎_elim (λ (e : end ≡ Some d). inl e) (λ (c : Contains (all_ends {U = U} {V = V} (range_msgs rs)) d). inr (subst (λ zs. Contains zs d) (sym (all_ends-append (range_msgs rs) (point_msgs es))) (Contains-append_left (all_ends {U = U} {V = V} (range_msgs rs)) (all_ends (point_msgs es)) d c))) t) s.an_end;
  }

-- entries with the same keys have the same first one from a key on
pub first_from_keys : {X : Type 0} (k : List ℕ) (es fs : List (List ℕ × X)) → keys_of es ≡ keys_of fs → first_from k es ≡ first_from k fs
first_from_keys k [] [] e = refl
first_from_keys k [] (f ∷ fs) e = absurd (cc)
first_from_keys k (x ∷ es) [] e = absurd (cc)
first_from_keys k (x ∷ es) (f ∷ fs) e =
    let head : x.0 ≡ f.0 = cc in
    let tail : keys_of es ≡ keys_of fs = cc in
    ap (λ q. cond (reaches k q) (Some q) (first_from k es)) head ∙ ap (λ o. cond (reaches k f.0) (Some f.0) o) (first_from_keys k es fs tail)
