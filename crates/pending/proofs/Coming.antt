-- What comes to a sorted list.
use Rattle.std.proofs.Common.{◌≡◌, ℕ, ◌+◌, ◌<◌, ◌≤◌, List, [], ◌∷◌, ◌++◌, length, drop, take, refl, sym, ap, ◌∙◌, subst, Option, Some, None, Bool, true, false, cond, not, ◌||◌, arith, length-append}
use Rattle.std.proofs.Math.Seq.{take-append_seam, drop-append_seam}
use Rattle.std.specs.List.{All, filter, slice_get}
use Rattle.std.specs.Prelude.{Result, Ok, Err, OnOk, OnErr}
use Rattle.std.specs.BTreeMap.{is_at}
use Rattle.std.proofs.lemmas.Bool.{or_parts}
use Rattle.std.proofs.lemmas.List.Elements.{All-nil, All-cons}
use Rattle.std.proofs.lemmas.List.Sums.{sum_by-cons}
use Rattle.std.proofs.lemmas.Map.Entries.{lookup-filter-keys}
use Rattle.pathkey.specs.Order.{by_bytes, same}
use Rattle.pathkey.specs.Keys.{is_below, is_in}
use Rattle.pathkey.specs.declared.range.KeyRange.{KeyRange}
use Rattle.cow_map.specs.Places.{Rises, at_key}
use Rattle.message.specs.declared.msg.Msg.{Msg}
use Rattle.message.specs.declared.msg.Msg.TheVariants as msg
use Rattle.message.specs.Ranges.{within}
use Rattle.message.specs.Effects.{touches, point_key, effects, made_of, Takes}
use Rattle.message.specs.Oldest.{first_point}
use Rattle.message.proofs.Composing.{untouched_first, untouched_second}
use Rattle.message.proofs.KeyOrder.{within-same, empty_by}
use Rattle.message.proofs.Lists.{effects-append, any_touches-append, takes-append}
use Rattle.message.proofs.NextKey.{by_bool}
use Rattle.point_ops.specs.Changes.{KeyOp, run_msgs, run_effect}
use Rattle.point_ops.specs.PointOps.{point_msgs, point_count, found_effect, AddsFirst, AreRuns, Inserts, JoinsAt}
use Rattle.point_ops.specs.declared.join_reply.JoinReply.{JoinReply}
use Rattle.point_ops.specs.declared.join_reply.JoinReply.TheVariants.{Joined, NoKey, Apart}
use Rattle.point_ops.proofs.Parting.{msgs_len}
use Rattle.range_set.specs.Disjoint.{Span, covered, range_msgs, CoversMore, TakesFirst as TakesRange}
use Rattle.pending.specs.SortedMsgs.{sorted_msgs, IsFirstEdit, JoinsMsg}
use Rattle.pending.proofs.Runs.{run_alike, run_first, effects-run_here, effects-run_apart, apart_from_untouched, none_from_untouched, untouched_from_none, length-points}
use Rattle.pending.proofs.Meaning.{effects-points, effects-sorted, length-sorted, touches-ranges}
use Rattle.pending.proofs.Stretching.{none_for, sorted_point}

module _ {U V : Type 0} where
  -- the points that a range leaves
  abbrev pub left_by : KeyRange → List (List ℕ × List (KeyOp U V)) → List (List ℕ × List (KeyOp U V))
  left_by r es = filter (λ e. not (is_in r e.0)) es

  -- an update of a key that no message is for
  pub first_of_points : (m : Msg U V) (rs : List Span) (es : List (List ℕ × List (KeyOp U V))) → IsFirstEdit m (sorted_msgs rs es) → IsFirstEdit m (point_msgs es)
  first_of_points (msg.Put k v) rs es h = h
  first_of_points (msg.Del k) rs es h = h
  first_of_points (msg.DelRange r) rs es h = h
  first_of_points (msg.Edit k u) rs es h = sym (sorted_point rs es k) ∙ h

module _ {U V : Type 0} (means : U → Option V → Option V) where
  -- ---- a message for one key

  -- the points take a message that they mean
  takes_inserts : (m : Msg U V) (es fs : List (List ℕ × List (KeyOp U V))) (k : List ℕ) → Rises es → Rises fs → AreRuns es → ((q : List ℕ) → touches m q ≡ same k q) → Inserts means k (made_of means m) es fs → point_count fs ≤ point_count es + 1 → Takes means (point_msgs es) (m ∷ []) (point_msgs fs)
  takes_inserts m es fs k s t r w l b = record {
    meaning = λ q o.
        effects-points means fs q o t
        ∙ l.meaning q o
        ∙ ap (λ x. cond (same k q) (made_of means m x) x) (sym (effects-points means es q o s))
        ∙ sym (ap (λ x. cond x (made_of means m (effects means (point_msgs es) q o)) (effects means (point_msgs es) q o)) (w q));
    bound = omega (arith, length-points es, length-points fs, b);
    touched = λ q h a.
        let p : same k q ≡ false = sym (w q) ∙ (or_parts (touches m q) false a).0 in
        untouched_from_none fs q (l.touched q p (none_from_untouched es q r h));
  }

  -- what stands before a list stays before it
  takes_behind : (p a x b : List (Msg U V)) → Takes means a x b → Takes means (p ++ a) x (p ++ b)
  takes_behind p a x b t = record {
    meaning = λ k v. effects-append means p b k v ∙ t.meaning k (effects means p k v) ∙ ap (λ w. effects means x k w) (sym (effects-append means p a k v));
    bound = omega (arith, t.bound, length-append p a, length-append p b);
    touched = λ k h g. any_touches-append p b k (untouched_first p a k h) (t.touched k (untouched_second p a k h) g);
  }

  -- the whole list takes a message that its points mean
  pub inserts_point : (m n : Msg U V) (rs : List Span) (es fs : List (List ℕ × List (KeyOp U V))) (k : List ℕ) → n ≡ m → Rises es → Rises fs → AreRuns es → ((q : List ℕ) → touches m q ≡ same k q) → Inserts means k (made_of means m) es fs → point_count fs ≤ point_count es + 1 → Takes means (sorted_msgs rs es) (n ∷ []) (sorted_msgs rs fs)
  inserts_point m n rs es fs k e s t r w l b = subst (λ x. Takes means (sorted_msgs rs es) (x ∷ []) (sorted_msgs rs fs)) (sym e) (takes_behind (range_msgs rs) (point_msgs es) (m ∷ []) (point_msgs fs) (takes_inserts m es fs k s t r w l b))

  -- a message was put behind the list
  pub takes_pushed : (m : Msg U V) (old new : List (Msg U V)) → new ≡ old ++ m ∷ [] → Takes means old (m ∷ []) new
  takes_pushed m old new e = subst (λ t. Takes means old (m ∷ []) t) (sym e) (takes-append means old (m ∷ []))

  -- what became of an update at its key becomes of its message in the whole list
  pub joins_msg : (j : JoinReply) (n : Msg U V) (rs : List Span) (es fs : List (List ℕ × List (KeyOp U V))) (k : List ℕ) (u : U) → n ≡ msg.Edit k u → Rises es → Rises fs → AreRuns es → JoinsAt means j k u es fs → JoinsMsg means j n (sorted_msgs rs es) (sorted_msgs rs fs)
  joins_msg Joined n rs es fs k u e s t r l = inserts_point (msg.Edit k u) n rs es fs k e s t r (λ q. refl) l.0 (omega (arith, l.1))
  joins_msg NoKey n rs es fs k u e s t r l = (subst (λ x. IsFirstEdit x (sorted_msgs rs es)) (sym e) (none_for rs es k r l.0), ap (λ x. sorted_msgs rs x) l.1)
  joins_msg Apart n rs es fs k u e s t r l = ap (λ x. sorted_msgs rs x) l

  pub joins_count : (j : JoinReply) (es fs : List (List ℕ × List (KeyOp U V))) (k : List ℕ) (u : U) → JoinsAt means j k u es fs → point_count fs ≡ point_count es
  joins_count Joined es fs k u l = l.1
  joins_count NoKey es fs k u l = ap (λ t. point_count t) l.1
  joins_count Apart es fs k u l = ap (λ t. point_count t) l

  -- a message that finds no place stands behind what stayed
  pub inserts_none : (m : Msg U V) (old new : List (Msg U V)) → new ≡ old → Takes means old (m ∷ []) (new ++ m ∷ [])
  inserts_none m old new e = subst (λ t. Takes means old (m ∷ []) (t ++ m ∷ [])) (sym e) (takes-append means old (m ∷ []))

  -- what takes a message or keeps it behind itself is one message longer at most
  pub inserted_few : {E : Type 0} (r : Result Unit E) (m : Msg U V) (old new : List (Msg U V)) → OnOk r (Takes means old (m ∷ []) new) → OnErr r (Takes means old (m ∷ []) (new ++ m ∷ [])) → length new ≤ length old + 1
  inserted_few (Ok x) m old new t f = omega (arith, t.bound)
  inserted_few (Err x) m old new t f = omega (arith, f.bound, length-append new (m ∷ []))

  -- ---- a range-delete

  at_key-left : (r : KeyRange) (q : List ℕ) (es : List (List ℕ × List (KeyOp U V))) → at_key q (left_by r es) ≡ cond (not (is_in r q)) (at_key q es) None
  at_key-left r q es = lookup-filter-keys (is_at (by_bytes q)) (λ k. not (is_in r k)) (not (is_in r q)) (λ k h. ap not (sym (within-same r.lo q k r.hi h))) es

  cleared : (a b : Bool) (t : Option (List (KeyOp U V))) (o : Option V) → found_effect means (cond (not a) t None) (cond (a || b) None o) ≡ cond a None (found_effect means t (cond b None o))
  cleared true b t o = refl
  cleared false b t o = refl

  pub takes_range : (rs ss : List Span) (es fs : List (List ℕ × List (KeyOp U V))) (r : KeyRange) → Rises es → Rises fs → AreRuns es → CoversMore r.lo r.hi rs ss → length ss ≤ length rs + 1 → fs ≡ left_by r es → point_count fs ≤ point_count es → Takes means (sorted_msgs rs es) (msg.DelRange r ∷ []) (sorted_msgs ss fs)
  takes_range rs ss es fs r s t runs a l b few = record {
    meaning = λ q o.
        let found : at_key q fs ≡ cond (not (is_in r q)) (at_key q es) None = ap (at_key q) b ∙ at_key-left r q es in
        effects-sorted means ss fs q o t
        ∙ ap (λ w. found_effect means w (cond (covered ss q) None o)) found
        ∙ ap (λ w. found_effect means (cond (not (is_in r q)) (at_key q es) None) (cond w None o)) (a q)
        ∙ cleared (is_in r q) (covered rs q) (at_key q es) o
        ∙ ap (λ w. cond (is_in r q) None w) (sym (effects-sorted means rs es q o s));
    bound = omega (arith, length-sorted rs es, length-sorted ss fs, l, few);
    touched = λ q h i.
        let apart : is_in r q ≡ false = (or_parts (is_in r q) false i).0 in
        let others : covered rs q ≡ false = sym (touches-ranges U V rs q) ∙ untouched_first (range_msgs rs) (point_msgs es) q h in
        let ranges : covered ss q ≡ false = a q ∙ ap (λ w. w || covered rs q) apart ∙ others in
        let consumed : at_key q es ≡ None = none_from_untouched es q runs (untouched_second (range_msgs rs) (point_msgs es) q h) in
        let found : at_key q fs ≡ None = ap (at_key q) b ∙ at_key-left r q es ∙ ap (λ w. cond (not w) (at_key q es) None) apart ∙ consumed in
        any_touches-append (range_msgs ss) (point_msgs fs) q (touches-ranges U V ss q ∙ ranges) (untouched_from_none fs q found);
  }

  -- a range without keys changes nothing
  pub takes_empty : (r : KeyRange) (msgs : List (Msg U V)) → is_below r.lo r.hi ≡ false → Takes means msgs (msg.DelRange r ∷ []) msgs
  takes_empty r msgs h = record {
    meaning = λ q o. sym (ap (λ w. cond w None (effects means msgs q o)) (empty_by (within r.lo r.hi q) r.lo q r.hi refl h));
    bound = omega arith;
    touched = λ q a b. a;
  }

  -- what a range takes away means nothing before its range-delete
  pub takes_cleared : (rs : List Span) (es fs : List (List ℕ × List (KeyOp U V))) (r : KeyRange) → Rises es → Rises fs → AreRuns es → fs ≡ left_by r es → point_count fs ≤ point_count es → Takes means (sorted_msgs rs es) (msg.DelRange r ∷ []) (sorted_msgs rs fs ++ msg.DelRange r ∷ [])
  takes_cleared rs es fs r s t runs b few = record {
    meaning = λ q o.
        let found : at_key q fs ≡ cond (not (is_in r q)) (at_key q es) None = ap (at_key q) b ∙ at_key-left r q es in
        effects-append means (sorted_msgs rs fs) (msg.DelRange r ∷ []) q o
        ∙ ap (λ w. cond (is_in r q) None w) (effects-sorted means rs fs q o t ∙ ap (λ w. found_effect means w (cond (covered rs q) None o)) found)
        ∙ consumed (is_in r q) (at_key q es) (cond (covered rs q) None o)
        ∙ ap (λ w. cond (is_in r q) None w) (sym (effects-sorted means rs es q o s));
    bound = omega (arith, length-sorted rs es, length-sorted rs fs, few, length-append (sorted_msgs rs fs) (msg.DelRange r ∷ []));
    touched = λ q h i.
        let apart : is_in r q ≡ false = (or_parts (is_in r q) false i).0 in
        let none : at_key q es ≡ None = none_from_untouched es q runs (untouched_second (range_msgs rs) (point_msgs es) q h) in
        let found : at_key q fs ≡ None = ap (at_key q) b ∙ at_key-left r q es ∙ ap (λ w. cond (not w) (at_key q es) None) apart ∙ none in
        any_touches-append (sorted_msgs rs fs) (msg.DelRange r ∷ []) q (any_touches-append (range_msgs rs) (point_msgs fs) q (untouched_first (range_msgs rs) (point_msgs es) q h) (untouched_from_none fs q found)) i;
  }
    where
      consumed : (a : Bool) (t : Option (List (KeyOp U V))) (o : Option V) → cond a None (found_effect means (cond (not a) t None) o) ≡ cond a None (found_effect means t o)
      consumed true t o = refl
      consumed false t o = refl

  -- ---- the first messages of another list

  effects-run : (k q : List ℕ) (cs : List (KeyOp U V)) (o : Option V) → effects means (run_msgs k cs) q o ≡ cond (same k q) (run_effect means cs o) o
  effects-run k q cs o =
      by_bool (same k q) (effects means (run_msgs k cs) q o ≡ cond (same k q) (run_effect means cs o) o)
      (λ h. effects-run_here means k q cs o h ∙ sym (ap (λ b. cond b (run_effect means cs o) o) h))
      (λ h. effects-run_apart means k q cs o h ∙ sym (ap (λ b. cond b (run_effect means cs o) o) h))

  -- the whole list with the messages of a run more, where the points mean them
  takes_run : (rs : List Span) (es fs : List (List ℕ × List (KeyOp U V))) (k : List ℕ) (cs : List (KeyOp U V)) → Rises es → Rises fs → AreRuns es → 0 < length cs → Inserts means k (run_effect means cs) es fs → point_count fs ≤ point_count es + length cs → Takes means (sorted_msgs rs es) (run_msgs k cs) (sorted_msgs rs fs)
  takes_run rs es fs k cs s t runs some l b = record {
    meaning = λ q o.
        effects-sorted means rs fs q o t
        ∙ l.meaning q (cond (covered rs q) None o)
        ∙ ap (λ x. cond (same k q) (run_effect means cs x) x) (sym (effects-sorted means rs es q o s))
        ∙ sym (effects-run k q cs (effects means (sorted_msgs rs es) q o));
    bound = omega (arith, length-sorted rs es, length-sorted rs fs, b, msgs_len k cs);
    touched = λ q h a.
        any_touches-append (range_msgs rs) (point_msgs fs) q
        (untouched_first (range_msgs rs) (point_msgs es) q h)
        (untouched_from_none fs q (l.touched q (apart_from_untouched k q cs some a) (none_from_untouched es q runs (untouched_second (range_msgs rs) (point_msgs es) q h))));
  }

  -- ---- what follows where the first run of one list has gone to another

  module _ (gs rs : List Span) (from rest es fs : List (List ℕ × List (KeyOp U V))) (come most : ℕ) (msgs : List (Msg U V)) (none : gs ≡ []) (v : sorted_msgs gs from ≡ msgs) (h : AddsFirst means come most from es rest fs) where
    front : msgs ≡ run_msgs h.key h.run ++ point_msgs rest
    front = sym v ∙ ap (λ t. range_msgs t ++ point_msgs from) none ∙ ap (λ t. point_msgs t) h.parts

    all : come ≡ length (run_msgs h.key h.run)
    all = h.all ∙ sym (msgs_len h.key h.run)

    taken : take come msgs ≡ run_msgs h.key h.run
    taken = ap (λ t. take come t) front ∙ ap (λ i. take i (run_msgs h.key h.run ++ point_msgs rest)) all ∙ take-append_seam (run_msgs h.key h.run) (point_msgs rest)

    some : 0 < length h.run
    some = omega (arith, h.some, h.all)

    pub first_taken : Rises es → Rises fs → AreRuns es → Takes means (sorted_msgs rs es) (take come msgs) (sorted_msgs rs fs)
    first_taken s t r = subst (λ ms. Takes means (sorted_msgs rs es) ms (sorted_msgs rs fs)) (sym taken) (takes_run rs es fs h.key h.run s t r some h.inserts (omega (arith, h.bound, h.all)))

    pub first_left : sorted_msgs gs rest ≡ drop come msgs
    first_left = ap (λ t. range_msgs t ++ point_msgs rest) none ∙ sym (ap (λ t. drop come t) front ∙ ap (λ i. drop i (run_msgs h.key h.run ++ point_msgs rest)) all ∙ drop-append_seam (run_msgs h.key h.run) (point_msgs rest))

    pub first_alike : All (λ m. point_key m ≡ first_point msgs) (take come msgs)
    first_alike =
        let key : Some h.key ≡ first_point msgs = sym (ap (λ t. first_point t) front ∙ run_first h.key h.run (point_msgs rest) some) in
        subst (λ ms. All (λ m. point_key m ≡ first_point msgs) ms) (sym taken) (subst (λ (o : Option (List ℕ)). All (λ m. point_key m ≡ o) (run_msgs h.key h.run)) key (run_alike h.key h.run))

    pub first_few : come ≤ length msgs
    first_few = omega (arith, all, ap (λ t. length t) front, length-append (run_msgs h.key h.run) (point_msgs rest))

    pub first_fewer : point_count rest + come ≡ point_count from
    first_fewer = omega (arith, ap (λ (t : List (List ℕ × List (KeyOp U V))). point_count t) h.parts, sum_by-cons (λ (x : List ℕ × List (KeyOp U V)). length x.1) (h.key, h.run) rest, h.all)

  -- the first range-delete has gone to another
  module _ (gs hs rs ss : List Span) (from : List (List ℕ × List (KeyOp U V))) (msgs : List (Msg U V)) (v : sorted_msgs gs from ≡ msgs) (h : TakesRange gs hs rs ss) where
    range_front : msgs ≡ msg.DelRange (record { lo = h.first.0; hi = h.first.1 }) ∷ sorted_msgs hs from
    range_front = sym v ∙ ap (λ t. range_msgs t ++ point_msgs from) h.parts

    pub range_taken : (es : List (List ℕ × List (KeyOp U V))) → Rises es → AreRuns es → left_by (record { lo = h.first.0; hi = h.first.1 }) es ≡ es → Takes means (sorted_msgs rs es) (take 1 msgs) (sorted_msgs ss es)
    range_taken es s r l = subst (λ ms. Takes means (sorted_msgs rs es) ms (sorted_msgs ss es)) (sym (ap (λ t. take 1 t) range_front)) (takes_range rs ss es es (record { lo = h.first.0; hi = h.first.1 }) s s r h.covers h.bound (sym l) (omega arith))

    pub range_left : sorted_msgs hs from ≡ drop 1 msgs
    range_left = sym (ap (λ t. drop 1 t) range_front)

    pub range_some : 1 ≤ length msgs
    range_some = omega (arith, ap (λ t. length t) range_front)

    pub range_alike : All (λ m. point_key m ≡ first_point msgs) (take 1 msgs)
    range_alike =
        let none : None ≡ first_point msgs = sym (ap (λ t. first_point t) range_front) in
        subst (λ ms. All (λ m. point_key m ≡ first_point msgs) ms) (sym (ap (λ t. take 1 t) range_front)) (alone (msg.DelRange (record { lo = h.first.0; hi = h.first.1 })) (first_point msgs) none)
      where
        alone : (m : Msg U V) (o : Option (List ℕ)) → point_key m ≡ o → All (λ x. point_key x ≡ o) (m ∷ [])
        alone m o e = All-cons (λ (x : Msg U V). point_key x ≡ o) m [] e (All-nil (λ (x : Msg U V). point_key x ≡ o))

-- the range that leaves is the first one
pub first_is : (gs hs : List Span) (e : Span) (lo : List ℕ) (hi end : Option (List ℕ)) → gs ≡ e ∷ hs → Some (lo, hi) ≡ slice_get gs 0 → end ≡ hi → let range : KeyRange = record { lo = lo; hi = end } in range ≡ record { lo = e.0; hi = e.1 }
first_is gs hs e lo hi end parts first is =
    let one : Some (lo, hi) ≡ Some e = first ∙ ap (λ t. slice_get t 0) parts in
    let two : (lo, hi) ≡ e = cc in
    ap (λ h. record { lo = lo; hi = h }) is ∙ ap (λ (x : Span). record { lo = x.0; hi = x.1 }) two
