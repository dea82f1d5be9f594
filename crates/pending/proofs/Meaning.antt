-- What a sorted list means at a key.
use Rattle.std.proofs.Common.{◌≡◌, ℕ, zero, suc, ◌+◌, ◌-◌, List, [], ◌∷◌, ◌++◌, length, drop, refl, sym, ap, ◌∙◌, subst, Option, Some, None, Bool, true, false, cond, ◌||◌, arith, length-append}
use Rattle.std.specs.Ordering.{is_eq}
use Rattle.std.specs.List.{slice_get}
use Rattle.std.specs.Map.{keys_of}
use Rattle.std.specs.BTreeMap.{is_at}
use Rattle.std.proofs.lemmas.Map.{lookup-none}
use Rattle.std.proofs.lemmas.Map.Keys.{IsDistinct-from_sorted, sorted_tail}
use Rattle.std.proofs.lemmas.Map.Entries.{none_past_head, lookup_head, lookup_tail}
use Rattle.pathkey.specs.Order.{by_bytes, same, by_bytes_equiv}
use Rattle.cow_map.specs.Places.{Rises, at_key}
use Rattle.message.specs.declared.msg.Msg.{Msg}
use Rattle.message.specs.declared.msg.Msg.TheVariants as msg
use Rattle.message.specs.declared.resolution.Resolution.{Resolution}
use Rattle.message.specs.declared.resolution.Resolution.TheVariants.{Untouched, Value, NeedsBase}
use Rattle.message.specs.Ranges.{within}
use Rattle.message.specs.Effects.{any_touches, effects, range_count}
use Rattle.message.specs.Resolution.{IsResolved}
use Rattle.message.proofs.Lists.{effects-append, any_touches-append}
use Rattle.message.proofs.Composing.{untouched_first, untouched_second}
use Rattle.message.proofs.NextKey.{by_bool}
use Rattle.point_ops.specs.Changes.{KeyOp, msg_at, run_msgs, run_effect}
use Rattle.point_ops.specs.PointOps.{point_msgs, point_count, found_effect, left, AreRuns}
use Rattle.point_ops.specs.KeyOps.{IsResolvedOf}
use Rattle.range_set.specs.Disjoint.{Span, covered, range_msgs}
use Rattle.pending.specs.SortedMsgs.{sorted_msgs}
use Rattle.pending.proofs.Runs.{effects-run_here, effects-run_apart, none_from_untouched, untouched_from_none, length-points, points_count}

module _ (U V : Type 0) where
  pub touches-ranges : (rs : List Span) (q : List ℕ) → any_touches {U = U} {V = V} (range_msgs rs) q ≡ covered rs q
  touches-ranges [] q = refl
  touches-ranges (r ∷ rs) q = ap (λ b. within r.0 r.1 q || b) (touches-ranges rs q)

  pub length-ranges : (rs : List Span) → length (range_msgs {U = U} {V = V} rs) ≡ length rs
  length-ranges [] = refl
  length-ranges (r ∷ rs) = ap suc (length-ranges rs)

module _ {U V : Type 0} where
  pub length-sorted : (rs : List Span) (es : List (List ℕ × List (KeyOp U V))) → length (sorted_msgs rs es) ≡ length rs + point_count es
  length-sorted rs es = omega (arith, length-append (range_msgs {U = U} {V = V} rs) (point_msgs es), length-ranges U V rs, length-points es)

  none_counted : (n : ℕ) (es : List (List ℕ × List (KeyOp U V))) → range_count (drop n (point_msgs es)) ≡ 0
  none_counted n es = counted n (point_msgs es) (points_count es)
    where
      counted : (n : ℕ) (ms : List (Msg U V)) → range_count ms ≡ 0 → range_count (drop n ms) ≡ 0
      counted zero ms z = z
      counted (suc n) [] z = refl
      counted (suc n) (msg.Put q v ∷ ms) z = counted n ms z
      counted (suc n) (msg.Del q ∷ ms) z = counted n ms z
      counted (suc n) (msg.DelRange r ∷ ms) z = absurd (omega (arith, z))
      counted (suc n) (msg.Edit q u ∷ ms) z = counted n ms z

  -- how many range-deletes there are without the oldest messages
  pub count_sorted : (n : ℕ) (rs : List Span) (es : List (List ℕ × List (KeyOp U V))) → range_count (drop n (sorted_msgs rs es)) ≡ length rs - n
  count_sorted n [] es = none_counted n es ∙ omega arith
  count_sorted zero (r ∷ rs) es = omega (arith, count_sorted zero rs es)
  count_sorted (suc n) (r ∷ rs) es = count_sorted n rs es ∙ omega arith

  -- ---- what stands first

  pub first_range : (rs : List Span) (es : List (List ℕ × List (KeyOp U V))) (lo : List ℕ) (hi : Option (List ℕ)) → slice_get rs 0 ≡ Some (lo, hi) → Some (msg.DelRange (record { lo = lo; hi = hi })) ≡ slice_get (sorted_msgs rs es) 0
  first_range [] es lo hi h = absurd (cc)
  first_range (r ∷ rs) es lo hi h = (let is : r ≡ (lo, hi) = cc in ap (λ (e : Span). Some (msg.DelRange (record { lo = e.0; hi = e.1 }))) (sym is))

  pub first_none : (rs : List Span) (es : List (List ℕ × List (KeyOp U V))) (n : ℕ) → None ≡ slice_get rs 0 → None ≡ slice_get es 0 → None ≡ slice_get (sorted_msgs rs (left n es)) 0
  first_none (r ∷ rs) es n h g = absurd (cc)
  first_none [] [] n h g = refl
  first_none [] (e ∷ es) n h g = absurd (cc)

  first_change : (n : ℕ) (k : List ℕ) (cs : List (KeyOp U V)) (c : KeyOp U V) (ms : List (Msg U V)) → Some c ≡ slice_get cs n → Some (msg_at k c) ≡ slice_get (run_msgs k (drop n cs) ++ ms) 0
  first_change n k [] c ms h = absurd (cc)
  first_change zero k (d ∷ cs) c ms h = (let is : c ≡ d = cc in ap (λ x. Some (msg_at k x)) is)
  first_change (suc n) k (d ∷ cs) c ms h = first_change n k cs c ms h

  pub first_point : (rs : List Span) (es : List (List ℕ × List (KeyOp U V))) (n : ℕ) (k : List ℕ) (cs : List (KeyOp U V)) (c : KeyOp U V) → None ≡ slice_get rs 0 → slice_get es 0 ≡ Some (k, cs) → Some c ≡ slice_get cs n → Some (msg_at k c) ≡ slice_get (sorted_msgs rs (left n es)) 0
  first_point (r ∷ rs) es n k cs c none h g = absurd (cc)
  first_point [] [] n k cs c none h g = absurd (cc)
  first_point [] (e ∷ es) n k cs c none h g =
      let is : (k, cs) ≡ e = cc in
      first_change n k cs c (point_msgs es) g ∙ ap (λ (x : List ℕ × List (KeyOp U V)). slice_get (run_msgs x.0 (drop n x.1) ++ point_msgs es) 0) is

module _ {U V : Type 0} (means : U → Option V → Option V) where
  cond_or : (a b : Bool) (o : Option V) → cond b None (cond a None o) ≡ cond (a || b) None o
  cond_or true true o = refl
  cond_or true false o = refl
  cond_or false b o = refl

  pub effects-ranges : (rs : List Span) (q : List ℕ) (o : Option V) → effects means (range_msgs rs) q o ≡ cond (covered rs q) None o
  effects-ranges [] q o = refl
  effects-ranges (r ∷ rs) q o = effects-ranges rs q (cond (within r.0 r.1 q) None o) ∙ cond_or (within r.0 r.1 q) (covered rs q) o

  pub effects-points : (es : List (List ℕ × List (KeyOp U V))) (q : List ℕ) (o : Option V) → Rises es → effects means (point_msgs es) q o ≡ found_effect means (at_key q es) o
  effects-points [] q o s = refl
  effects-points (e ∷ es) q o s =
      effects-append means (run_msgs e.0 e.1) (point_msgs es) q o
      ∙ by_bool (is_eq (by_bytes q e.0)) (effects means (point_msgs es) q (effects means (run_msgs e.0 e.1) q o) ≡ found_effect means (at_key q (e ∷ es)) o)
      (λ h.
      let back : same e.0 q ≡ true = by_bytes_equiv.symm e.0 q ∙ h in
      let none : at_key q es ≡ None = lookup-none (is_at (by_bytes q)) es (none_past_head by_bytes_equiv q e es (IsDistinct-from_sorted by_bytes (keys_of (e ∷ es)) s) h) in
      ap (λ w. effects means (point_msgs es) q w) (effects-run_here means e.0 q e.1 o back)
      ∙ effects-points es q (run_effect means e.1 o) (sorted_tail by_bytes e.0 (keys_of es) s)
      ∙ ap (λ t. found_effect means t (run_effect means e.1 o)) none
      ∙ sym (ap (λ t. found_effect means t o) (lookup_head (is_at (by_bytes q)) e es h)))
      (λ h.
      let back : same e.0 q ≡ false = by_bytes_equiv.symm e.0 q ∙ h in
      ap (λ w. effects means (point_msgs es) q w) (effects-run_apart means e.0 q e.1 o back)
      ∙ effects-points es q o (sorted_tail by_bytes e.0 (keys_of es) s)
      ∙ sym (ap (λ t. found_effect means t o) (lookup_tail (is_at (by_bytes q)) e es h)))

  pub effects-sorted : (rs : List Span) (es : List (List ℕ × List (KeyOp U V))) (q : List ℕ) (o : Option V) → Rises es → effects means (sorted_msgs rs es) q o ≡ found_effect means (at_key q es) (cond (covered rs q) None o)
  effects-sorted rs es q o s =
      effects-append means (range_msgs rs) (point_msgs es) q o
      ∙ ap (λ w. effects means (point_msgs es) q w) (effects-ranges rs q o)
      ∙ effects-points es q (cond (covered rs q) None o) s

  -- ---- what is told

  pub touched_before : (s f : List (Msg U V)) (k : List ℕ) → any_touches s k ≡ true → any_touches (s ++ f) k ≡ true
  touched_before s f k h = by_bool (any_touches (s ++ f) k) (any_touches (s ++ f) k ≡ true) (λ y. y) (λ n. absurd (let no : any_touches s k ≡ false = untouched_first s f k n in cc))

  pub touched_behind : (s f : List (Msg U V)) (k : List ℕ) → any_touches f k ≡ true → any_touches (s ++ f) k ≡ true
  touched_behind s f k h = by_bool (any_touches (s ++ f) k) (any_touches (s ++ f) k ≡ true) (λ y. y) (λ n. absurd (let no : any_touches f k ≡ false = untouched_second s f k n in cc))

  -- a key at which operations wait is touched
  pub touched_there : (rs : List Span) (es : List (List ℕ × List (KeyOp U V))) (msgs : List (Msg U V)) (k : List ℕ) (cs : List (KeyOp U V)) → AreRuns es → sorted_msgs rs es ≡ msgs → Some cs ≡ at_key k es → any_touches msgs k ≡ true
  touched_there rs es msgs k cs r v f =
      by_bool (any_touches msgs k) (any_touches msgs k ≡ true) (λ y. y)
      (λ n. absurd (let none : at_key k es ≡ None = none_from_untouched es k r (untouched_second (range_msgs rs) (point_msgs es) k (ap (λ ms. any_touches ms k) v ∙ n)) in let no : Some cs ≡ None = f ∙ none in cc))

  -- without operations none is asked for
  pub untouched_says : (b : Bool) (t : Resolution V) → t ≡ cond b (Value None) Untouched → t ≡ NeedsBase → ⊥
  untouched_says true t e n = (let no : NeedsBase ≡ Value None = sym n ∙ e in cc)
  untouched_says false t e n = (let no : NeedsBase ≡ Untouched = sym n ∙ e in cc)

  pub found_at : (rs : List Span) (es : List (List ℕ × List (KeyOp U V))) (msgs : List (Msg U V)) (k : List ℕ) (b : Bool) (t : Option (List (KeyOp U V))) → Rises es → sorted_msgs rs es ≡ msgs → b ≡ covered rs k → t ≡ at_key k es → (o : Option V) → found_effect means t (cond b None o) ≡ effects means msgs k o
  found_at rs es msgs k b t s v c f o =
      ap (λ w. found_effect means w (cond b None o)) f
      ∙ ap (λ w. found_effect means (at_key k es) (cond w None o)) c
      ∙ sym (effects-sorted rs es k o s)
      ∙ ap (λ w. effects means w k o) v

  pub resolved_some : (msgs : List (Msg U V)) (k : List ℕ) (cs : List (KeyOp U V)) (b : Bool) → ((o : Option V) → run_effect means cs (cond b None o) ≡ effects means msgs k o) → (t : Resolution V) → IsResolvedOf (λ o. run_effect means cs (cond b None o)) t → IsResolved means msgs k t
  resolved_some msgs k cs b f Untouched h = absurd h
  resolved_some msgs k cs b f (Value v) h = λ o. sym (f o) ∙ h o
  resolved_some msgs k cs b f NeedsBase h = tt

  none_by : (msgs : List (Msg U V)) (k : List ℕ) (b : Bool) → ((o : Option V) → cond b None o ≡ effects means msgs k o) → (b ≡ false → any_touches msgs k ≡ false) → IsResolved means msgs k (cond b (Value None) Untouched)
  none_by msgs k true f g = λ o. sym (f o)
  none_by msgs k false f g = (g refl, λ o. sym (f o))

  pub resolved_none : (rs : List Span) (es : List (List ℕ × List (KeyOp U V))) (msgs : List (Msg U V)) (k : List ℕ) (b : Bool) (t : Resolution V) → Rises es → sorted_msgs rs es ≡ msgs → b ≡ covered rs k → None ≡ at_key k es → t ≡ cond b (Value None) Untouched → IsResolved means msgs k t
  resolved_none rs es msgs k b t s v c f e = subst (λ x. IsResolved means msgs k x) (sym e) (none_by msgs k b (found_at rs es msgs k b None s v c f)
      (λ n. sym (ap (λ ms. any_touches ms k) v) ∙ any_touches-append (range_msgs rs) (point_msgs es) k (touches-ranges U V rs k ∙ sym c ∙ n) (untouched_from_none es k (sym f))))
