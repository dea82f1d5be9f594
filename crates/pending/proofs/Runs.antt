-- The messages of what waits at keys.
use Rattle.std.proofs.Common.{◌≡◌, ℕ, ◌<◌, List, [], ◌∷◌, ◌++◌, length, drop, refl, sym, ap, ◌∙◌, subst, Option, Some, None, Bool, true, false, cond, ◌||◌, arith, length-append}
use Rattle.std.specs.List.{All, list_any, slice_get}
use Rattle.std.specs.Option.{option_map}
use Rattle.std.specs.Prelude.{IfSome}
use Rattle.std.specs.Ordering.{is_eq}
use Rattle.std.specs.Map.{keys_of}
use Rattle.std.specs.BTreeMap.{is_at}
use Rattle.std.proofs.lemmas.Bool.{or_parts}
use Rattle.std.proofs.lemmas.List.Elements.{All-nil, All-cons, All-head, All-tail}
use Rattle.std.proofs.lemmas.List.Sums.{sum_by-cons}
use Rattle.std.proofs.lemmas.Map.Entries.{lookup_head, lookup_tail}
use Rattle.pathkey.specs.Keys.{is_in}
use Rattle.pathkey.specs.Order.{by_bytes, same, by_bytes_equiv}
use Rattle.pathkey.specs.declared.range.KeyRange.{KeyRange}
use Rattle.cow_map.specs.Places.{Rises, at_key, AreBefore, AreFrom}
use Rattle.message.specs.declared.msg.Msg.{Msg}
use Rattle.message.specs.Effects.{touches, any_touches, effect, effects, point_key, range_count}
use Rattle.message.specs.Oldest.{first_point}
use Rattle.message.proofs.Lists.{any_touches-append}
use Rattle.message.proofs.Composing.{untouched_first, untouched_second}
use Rattle.message.proofs.NextKey.{by_bool}
use Rattle.point_ops.specs.Changes.{KeyOp, Put, Del, Edit, msg_at, run_msgs, changed, run_effect}
use Rattle.point_ops.specs.PointOps.{point_msgs, point_count, left, AreRuns, IsLeft}
use Rattle.point_ops.proofs.Counting.{none_consumed, some_left}
use Rattle.point_ops.proofs.Parting.{msgs_len}

module _ {U V : Type 0} where
  -- ---- one change

  touches_at : (k q : List ℕ) (c : KeyOp U V) → touches (msg_at k c) q ≡ same k q
  touches_at k q (Put v) = refl
  touches_at k q Del = refl
  touches_at k q (Edit u) = refl

  point_at : (k : List ℕ) (c : KeyOp U V) → point_key (msg_at k c) ≡ Some k
  point_at k (Put v) = refl
  point_at k Del = refl
  point_at k (Edit u) = refl

  count_at : (k : List ℕ) (c : KeyOp U V) (ms : List (Msg U V)) → range_count (msg_at k c ∷ ms) ≡ range_count ms
  count_at k (Put v) ms = refl
  count_at k Del ms = refl
  count_at k (Edit u) ms = refl

  -- ---- the changes of one key

  -- each of their messages is for the key
  pub run_alike : (k : List ℕ) (cs : List (KeyOp U V)) → All (λ m. point_key m ≡ Some k) (run_msgs k cs)
  run_alike k [] = All-nil (λ (m : Msg U V). point_key m ≡ Some k)
  run_alike k (c ∷ cs) = All-cons (λ (m : Msg U V). point_key m ≡ Some k) (msg_at k c) (run_msgs k cs) (point_at k c) (run_alike k cs)

  pub run_first : (k : List ℕ) (cs : List (KeyOp U V)) (ms : List (Msg U V)) → 0 < length cs → first_point (run_msgs k cs ++ ms) ≡ Some k
  run_first k [] ms h = absurd (omega arith)
  run_first k (c ∷ cs) ms h = point_at k c

  pub run_untouched : (k q : List ℕ) (cs : List (KeyOp U V)) → same k q ≡ false → any_touches (run_msgs k cs) q ≡ false
  run_untouched k q [] e = refl
  run_untouched k q (c ∷ cs) e = ap (λ b. b || any_touches (run_msgs k cs) q) (touches_at k q c ∙ e) ∙ run_untouched k q cs e

  pub apart_from_untouched : (k q : List ℕ) (cs : List (KeyOp U V)) → 0 < length cs → any_touches (run_msgs k cs) q ≡ false → same k q ≡ false
  apart_from_untouched k q [] s h = absurd (omega arith)
  apart_from_untouched k q (c ∷ cs) s h = sym (touches_at k q c) ∙ (or_parts (touches (msg_at k c) q) (any_touches (run_msgs k cs) q) h).0

  pub run_count : (k : List ℕ) (cs : List (KeyOp U V)) (ms : List (Msg U V)) → range_count (run_msgs k cs ++ ms) ≡ range_count ms
  run_count k [] ms = refl
  run_count k (c ∷ cs) ms = count_at k c (run_msgs k cs ++ ms) ∙ run_count k cs ms

  -- ---- those of all keys

  pub none_from_untouched : (es : List (List ℕ × List (KeyOp U V))) (q : List ℕ) → AreRuns es → any_touches (point_msgs es) q ≡ false → at_key q es ≡ None
  none_from_untouched [] q r h = refl
  none_from_untouched (e ∷ es) q r h =
      let some : 0 < length e.1 = All-head (λ (x : List ℕ × List (KeyOp U V)). 0 < length x.1) e es r in
      let mine : any_touches (run_msgs e.0 e.1) q ≡ false = untouched_first (run_msgs e.0 e.1) (point_msgs es) q h in
      let apart : is_eq (by_bytes q e.0) ≡ false = by_bytes_equiv.symm q e.0 ∙ apart_from_untouched e.0 q e.1 some mine in
      lookup_tail (is_at (by_bytes q)) e es apart ∙ none_from_untouched es q (All-tail (λ (x : List ℕ × List (KeyOp U V)). 0 < length x.1) e es r) (untouched_second (run_msgs e.0 e.1) (point_msgs es) q h)

  pub untouched_from_none : (es : List (List ℕ × List (KeyOp U V))) (q : List ℕ) → at_key q es ≡ None → any_touches (point_msgs es) q ≡ false
  untouched_from_none [] q h = refl
  untouched_from_none (e ∷ es) q h =
      by_bool (is_eq (by_bytes q e.0)) (any_touches (point_msgs (e ∷ es)) q ≡ false)
      (λ b. let hit : at_key q (e ∷ es) ≡ Some e.1 = lookup_head (is_at (by_bytes q)) e es b in let no : Some e.1 ≡ None = sym hit ∙ h in absurd (cc))
      (λ b. any_touches-append (run_msgs e.0 e.1) (point_msgs es) q (run_untouched e.0 q e.1 (by_bytes_equiv.symm e.0 q ∙ b)) (untouched_from_none es q (sym (lookup_tail (is_at (by_bytes q)) e es b) ∙ h)))

  pub points_count : (es : List (List ℕ × List (KeyOp U V))) → range_count (point_msgs es) ≡ 0
  points_count [] = refl
  points_count (e ∷ es) = run_count e.0 e.1 (point_msgs es) ∙ points_count es

  pub length-points : (es : List (List ℕ × List (KeyOp U V))) → length (point_msgs es) ≡ point_count es
  length-points [] = refl
  length-points (e ∷ es) = omega (arith, length-append (run_msgs e.0 e.1) (point_msgs es), msgs_len e.0 e.1, length-points es, sum_by-cons (λ (x : List ℕ × List (KeyOp U V)). length x.1) e es)

  -- ---- without the oldest of the first key

  -- where none are gone, some are left
  pub none_left : (n : ℕ) (es : List (List ℕ × List (KeyOp U V))) → n ≡ 0 → AreRuns es → IsLeft n es
  none_left n es z r = subst (λ i. IsLeft i es) (sym z) (some_left es r)

  pub left_whole : (n : ℕ) (es : List (List ℕ × List (KeyOp U V))) → n ≡ 0 → left n es ≡ es
  left_whole n es z = ap (λ i. left i es) z ∙ none_consumed es

  pub left_rises : (n : ℕ) (es : List (List ℕ × List (KeyOp U V))) → Rises es → Rises (left n es)
  left_rises n [] r = r
  left_rises n (e ∷ es) r = r

  pub left_keys : (n : ℕ) (es : List (List ℕ × List (KeyOp U V))) → keys_of (left n es) ≡ keys_of es
  left_keys n [] = refl
  left_keys n (e ∷ es) = refl

  -- those in a range
  pub left_any : (r : KeyRange) (n : ℕ) (es : List (List ℕ × List (KeyOp U V))) → list_any (λ e. is_in r e.0) (left n es) ≡ list_any (λ e. is_in r e.0) es
  left_any r n [] = refl
  left_any r n (e ∷ es) = refl

  pub left_keys_from : (lo : List ℕ) (n : ℕ) (es : List (List ℕ × List (KeyOp U V))) → AreFrom lo es → AreFrom lo (left n es)
  left_keys_from lo n [] f = f
  left_keys_from lo n (e ∷ es) f = f

  pub left_keys_before : (p : List ℕ) (n : ℕ) (es : List (List ℕ × List (KeyOp U V))) → AreBefore p es → AreBefore p (left n es)
  left_keys_before p n [] f = f
  left_keys_before p n (e ∷ es) f = f

  -- the changes that are left at a key
  pub left_first : (n : ℕ) (es : List (List ℕ × List (KeyOp U V))) (k : List ℕ) (cs : List (KeyOp U V)) (q : List ℕ) → slice_get es 0 ≡ Some (k, cs) → same k q ≡ true → at_key q (left n es) ≡ Some (drop n cs)
  left_first n [] k cs q h s = absurd (cc)
  left_first n (e ∷ es) k cs q h s =
      let is : e ≡ (k, cs) = cc in
      let at : same e.0 q ≡ true = ap (λ (x : List ℕ × List (KeyOp U V)). same x.0 q) is ∙ s in
      lookup_head (is_at (by_bytes q)) (e.0, drop n e.1) es (by_bytes_equiv.symm q e.0 ∙ at) ∙ ap (λ (x : List ℕ × List (KeyOp U V)). Some (drop n x.1)) is

  pub left_other : (n : ℕ) (es : List (List ℕ × List (KeyOp U V))) (k : List ℕ) (cs : List (KeyOp U V)) (q : List ℕ) → slice_get es 0 ≡ Some (k, cs) → same k q ≡ false → at_key q (left n es) ≡ at_key q es
  left_other n [] k cs q h s = absurd (cc)
  left_other n (e ∷ es) k cs q h s =
      let is : e ≡ (k, cs) = cc in
      let at : is_eq (by_bytes q e.0) ≡ false = by_bytes_equiv.symm q e.0 ∙ ap (λ (x : List ℕ × List (KeyOp U V)). same x.0 q) is ∙ s in
      lookup_tail (is_at (by_bytes q)) (e.0, drop n e.1) es at ∙ sym (lookup_tail (is_at (by_bytes q)) e es at)

  pub left_absent : (n : ℕ) (es : List (List ℕ × List (KeyOp U V))) (q : List ℕ) → None ≡ at_key q es → None ≡ at_key q (left n es)
  left_absent n [] q h = h
  left_absent n (e ∷ es) q h = absent (is_eq (by_bytes q e.0)) h
    where
      absent : (b : Bool) → None ≡ cond b (Some e.1) (at_key q es) → None ≡ cond b (Some (drop n e.1)) (at_key q es)
      absent true h = absurd (cc)
      absent false h = h

  -- ---- how many are gone at a key

  same_option : (t : Option (List (KeyOp U V))) → t ≡ option_map (λ cs. drop 0 cs) t
  same_option None = refl
  same_option (Some cs) = refl

  pub consumed_none : (n : ℕ) (es : List (List ℕ × List (KeyOp U V))) (q : List ℕ) → at_key q (left n es) ≡ at_key q es → at_key q (left n es) ≡ option_map (λ cs. drop 0 cs) (at_key q es)
  consumed_none n es q h = h ∙ same_option (at_key q es)

  pub some_at : (es : List (List ℕ × List (KeyOp U V))) (q : List ℕ) → AreRuns es → IfSome (at_key q es) (λ cs. 0 < length cs)
  some_at [] q r = tt
  some_at (e ∷ es) q r = elim (is_eq (by_bytes q e.0)) as (λ b. IfSome (cond b (Some e.1) (at_key q es)) (λ cs. 0 < length cs)) [
    | true ↦ All-head (λ (x : List ℕ × List (KeyOp U V)). 0 < length x.1) e es r
    | false ↦ some_at es q (All-tail (λ (x : List ℕ × List (KeyOp U V)). 0 < length x.1) e es r)
  ]

  pub left_bound : (n : ℕ) (es : List (List ℕ × List (KeyOp U V))) (k : List ℕ) (cs : List (KeyOp U V)) → slice_get es 0 ≡ Some (k, cs) → IsLeft n es → n < length cs
  left_bound n [] k cs h l = absurd (cc)
  left_bound n (e ∷ es) k cs h l = (let is : e ≡ (k, cs) = cc in subst (λ (x : List ℕ × List (KeyOp U V)). n < length x.1) is l)

  -- at the first key
  pub consumed_first : (n : ℕ) (es : List (List ℕ × List (KeyOp U V))) (k : List ℕ) (cs : List (KeyOp U V)) (q : List ℕ) → slice_get es 0 ≡ Some (k, cs) → same k q ≡ true → at_key q (left n es) ≡ option_map (λ ds. drop n ds) (at_key q es)
  consumed_first n es k cs q h s = left_first n es k cs q h s ∙ ap (option_map (λ ds. drop n ds)) (sym (sym (ap (at_key q) (none_consumed es)) ∙ left_first 0 es k cs q h s))

  pub some_first : (n : ℕ) (es : List (List ℕ × List (KeyOp U V))) (k : List ℕ) (cs : List (KeyOp U V)) (q : List ℕ) → slice_get es 0 ≡ Some (k, cs) → same k q ≡ true → IsLeft n es → IfSome (at_key q es) (λ ds. n < length ds)
  some_first n es k cs q h s l =
      let here : Some cs ≡ at_key q es = sym (sym (ap (at_key q) (none_consumed es)) ∙ left_first 0 es k cs q h s) in
      subst (λ t. IfSome t (λ ds. n < length ds)) here (left_bound n es k cs h l)

  pub left_empty : (n : ℕ) (es : List (List ℕ × List (KeyOp U V))) → None ≡ slice_get es 0 → left n es ≡ es
  left_empty n [] h = refl
  left_empty n (e ∷ es) h = absurd (cc)

module _ {U V : Type 0} (means : U → Option V → Option V) where
  effect_here : (k q : List ℕ) (c : KeyOp U V) (o : Option V) → same k q ≡ true → effect means (msg_at k c) q o ≡ changed means c o
  effect_here k q (Put v) o e = ap (λ b. cond b (Some v) o) e
  effect_here k q Del o e = ap (λ b. cond b None o) e
  effect_here k q (Edit u) o e = ap (λ b. cond b (means u o) o) e

  effect_apart : (k q : List ℕ) (c : KeyOp U V) (o : Option V) → same k q ≡ false → effect means (msg_at k c) q o ≡ o
  effect_apart k q (Put v) o e = ap (λ b. cond b (Some v) o) e
  effect_apart k q Del o e = ap (λ b. cond b None o) e
  effect_apart k q (Edit u) o e = ap (λ b. cond b (means u o) o) e

  pub effects-run_here : (k q : List ℕ) (cs : List (KeyOp U V)) (o : Option V) → same k q ≡ true → effects means (run_msgs k cs) q o ≡ run_effect means cs o
  effects-run_here k q [] o e = refl
  effects-run_here k q (c ∷ cs) o e = ap (λ w. effects means (run_msgs k cs) q w) (effect_here k q c o e) ∙ effects-run_here k q cs (changed means c o) e

  pub effects-run_apart : (k q : List ℕ) (cs : List (KeyOp U V)) (o : Option V) → same k q ≡ false → effects means (run_msgs k cs) q o ≡ o
  effects-run_apart k q [] o e = refl
  effects-run_apart k q (c ∷ cs) o e = ap (λ w. effects means (run_msgs k cs) q w) (effect_apart k q c o e) ∙ effects-run_apart k q cs o e
