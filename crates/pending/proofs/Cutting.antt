-- A sorted list that is cut at a pivot, and lists with a pivot between them.
use Rattle.std.proofs.Common.{◌≡◌, ℕ, zero, suc, ◌+◌, ◌<◌, ◌≤◌, List, [], ◌∷◌, ◌++◌, length, get_or, refl, sym, ap, ◌∙◌, subst, Option, Some, None, Bool, true, false, cond, arith, append_assoc}
use Rattle.std.specs.Prelude.{◌&&◌}
use Rattle.std.specs.List.{All, AllByRecursion}
use Rattle.std.specs.List.Sorted.{IsStrictlySortedBy}
use Rattle.std.specs.declared.cmp.Ordering.TheVariants.{Less}
use Rattle.std.specs.Map.{keys_of}
use Rattle.std.proofs.lemmas.List.{map-append}
use Rattle.std.proofs.lemmas.List.Elements.{All-head, All-tail}
use Rattle.pathkey.specs.Order.{by_bytes}
use Rattle.pathkey.proofs.KeyOrder.{from_start, less_from_lt, lt_le, not_reaches_from_before, not_before_from_reaches}
use Rattle.cow_map.specs.Places.{Rises, AreBefore, AreFrom}
use Rattle.cow_map.proofs.Parts.{weaker}
use Rattle.message.specs.declared.msg.Msg.{Msg}
use Rattle.message.specs.Cuts.{cut_to, pieces, LieIn, LieOut, IsJoined, IsParted}
use Rattle.message.specs.Ranges.{within, reaches, before}
use Rattle.message.proofs.Cutting.{pieces_few}
use Rattle.message.proofs.KeyOrder.{both}
use Rattle.message.proofs.Parting.{front_part, back_part, in_both, in_left, in_right, second_false}
use Rattle.message.proofs.SideBySide.{joined_both, joined_ends}
use Rattle.point_ops.specs.Changes.{KeyOp, Put, Del, Edit, msg_at, run_msgs}
use Rattle.point_ops.specs.PointOps.{point_msgs, point_count, AreRuns}
use Rattle.range_set.specs.Disjoint.{Span, range_msgs}
use Rattle.pending.specs.SortedMsgs.{sorted_msgs}
use Rattle.pending.proofs.Meaning.{length-ranges, length-sorted}

-- ---- keys before the pivot, and keys from it on

abbrev Before : List ℕ → List (List ℕ) → Type 0
Before p ks = AllByRecursion (λ k. before k p ≡ true) ks

abbrev From : List ℕ → List (List ℕ) → Type 0
From p ks = AllByRecursion (λ k. reaches p k ≡ true) ks

all_both : (P : List ℕ → Type 0) (ks ls : List (List ℕ)) → AllByRecursion P ks → AllByRecursion P ls → AllByRecursion P (ks ++ ls)
all_both P [] ls a b = b
all_both P (k ∷ ks) ls a b = (a.0, all_both P ks ls a.1 b)

keys_rise : (p : List ℕ) (ks ls : List (List ℕ)) → Before p ks → From p ls → IsStrictlySortedBy by_bytes ks → IsStrictlySortedBy by_bytes ls → IsStrictlySortedBy by_bytes (ks ++ ls)
unfolding IsStrictlySortedBy
keys_rise p [] ls b f r s = s
keys_rise p (k ∷ ks) ls b f r s =
    let behind = weaker (λ y. reaches p y ≡ true) (λ y. by_bytes k y ≡ Less) ls (λ y h. less_from_lt (by_bytes k y) (lt_le k p y b.0 h)) f in
    (all_both (λ y. by_bytes k y ≡ Less) ks ls r.0 behind, keys_rise p ks ls b.1 f r.1 s)

module _ {X : Type 0} where
  rise_both : (p : List ℕ) (es fs : List (List ℕ × X)) → Before p (keys_of es) → From p (keys_of fs) → Rises es → Rises fs → Rises (es ++ fs)
  rise_both p es fs b f r s = subst (λ ks. IsStrictlySortedBy by_bytes ks) (sym (map-append (λ (e : List ℕ × X). e.0) es fs)) (keys_rise p (keys_of es) (keys_of fs) b f r s)

-- ---- a list that is cut

all_left : (P : List ℕ → Type 0) (ks ls : List (List ℕ)) → All P (ks ++ ls) → All P ks
all_left P [] ls a i d h = absurd (omega arith)
all_left P (k ∷ ks) ls a zero d h = a 0 d (omega arith)
all_left P (k ∷ ks) ls a (suc i) d h = all_left P ks ls (All-tail P k (ks ++ ls) a) i d (omega arith)

both_true : (b c : Bool) → b ≡ true → c ≡ true → (b && c) ≡ true
both_true b c g h = ap (λ a. a && c) g ∙ h

module _ {U V : Type 0} where
  -- ---- the messages of one key

  change_in : (lo : List ℕ) (hi : Option (List ℕ)) (k : List ℕ) (c : KeyOp U V) → cut_to lo hi (msg_at k c) ≡ cond (within lo hi k) (Some (msg_at k c)) None
  change_in lo hi k (Put v) = refl
  change_in lo hi k Del = refl
  change_in lo hi k (Edit u) = refl

  run_in : (lo : List ℕ) (hi : Option (List ℕ)) (k : List ℕ) (cs : List (KeyOp U V)) → within lo hi k ≡ true → LieIn lo hi (run_msgs k cs)
  run_in lo hi k [] h = tt
  run_in lo hi k (c ∷ cs) h = (change_in lo hi k c ∙ ap (λ b. cond b (Some (msg_at k c)) None) h, run_in lo hi k cs h)

  run_out : (lo : List ℕ) (hi : Option (List ℕ)) (k : List ℕ) (cs : List (KeyOp U V)) → within lo hi k ≡ false → LieOut lo hi (run_msgs k cs)
  run_out lo hi k [] h = tt
  run_out lo hi k (c ∷ cs) h = (change_in lo hi k c ∙ ap (λ b. cond b (Some (msg_at k c)) None) h, run_out lo hi k cs h)

  out_both : (lo : List ℕ) (hi : Option (List ℕ)) (xs ys : List (Msg U V)) → LieOut lo hi xs → LieOut lo hi ys → LieOut lo hi (xs ++ ys)
  out_both lo hi [] ys a b = b
  out_both lo hi (x ∷ xs) ys a b = (a.0, out_both lo hi xs ys a.1 b)

  -- ---- those of all keys

  points_in : (lo : List ℕ) (hi : Option (List ℕ)) (es : List (List ℕ × List (KeyOp U V))) → All (λ k. within lo hi k ≡ true) (keys_of es) → LieIn lo hi (point_msgs es)
  points_in lo hi [] h = tt
  points_in lo hi (e ∷ es) h = in_both lo hi (run_msgs e.0 e.1) (point_msgs es) (run_in lo hi e.0 e.1 (All-head (λ k. within lo hi k ≡ true) e.0 (keys_of es) h)) (points_in lo hi es (All-tail (λ k. within lo hi k ≡ true) e.0 (keys_of es) h))

  points_out : (lo : List ℕ) (hi : Option (List ℕ)) (es : List (List ℕ × List (KeyOp U V))) → All (λ k. within lo hi k ≡ false) (keys_of es) → LieOut lo hi (point_msgs es)
  points_out lo hi [] h = tt
  points_out lo hi (e ∷ es) h = out_both lo hi (run_msgs e.0 e.1) (point_msgs es) (run_out lo hi e.0 e.1 (All-head (λ k. within lo hi k ≡ false) e.0 (keys_of es) h)) (points_out lo hi es (All-tail (λ k. within lo hi k ≡ false) e.0 (keys_of es) h))

  pub msgs_append : (es fs : List (List ℕ × List (KeyOp U V))) → point_msgs (es ++ fs) ≡ point_msgs es ++ point_msgs fs
  msgs_append [] fs = refl
  msgs_append (e ∷ es) fs = ap (λ t. run_msgs e.0 e.1 ++ t) (msgs_append es fs) ∙ sym (append_assoc (run_msgs e.0 e.1) (point_msgs es) (point_msgs fs))

  -- entries from lo on, cut at the pivot, are parted there
  pub entries_parted : (lo p : List ℕ) (all es fs : List (List ℕ × List (KeyOp U V))) → all ≡ es ++ fs → AreFrom lo all → AreBefore p es → AreFrom p fs → IsParted lo p (point_msgs all) (point_msgs es) (point_msgs fs)
  entries_parted lo p all es fs e from low high =
      let ks = keys_of es in
      let ls = keys_of fs in
      let keys : keys_of all ≡ ks ++ ls = ap (λ (t : List (List ℕ × List (KeyOp U V))). keys_of t) e ∙ map-append (λ (x : List ℕ × List (KeyOp U V)). x.0) es fs in
      let starts : All (λ k. reaches lo k ≡ true) ks = all_left (λ k. reaches lo k ≡ true) ks ls (subst (λ t. All (λ k. reaches lo k ≡ true) t) keys from) in
      record {
        parts = ap (λ (t : List (List ℕ × List (KeyOp U V))). point_msgs t) e ∙ msgs_append es fs;
        front_in = points_in lo (Some p) es (λ i d h. both_true _ _ (starts i d h) (low i d h));
        front_out = points_out p None es (λ i d h. ap (λ a. a && true) (not_reaches_from_before _ p (low i d h)));
        back_in = points_in p None fs (λ i d h. both_true _ _ (high i d h) refl);
        back_out = points_out lo (Some p) fs (λ i d h. second_false _ _ (not_before_from_reaches p _ (high i d h)));
      }

  module _ (p : List ℕ) (all es fs : List (List ℕ × List (KeyOp U V))) (e : all ≡ es ++ fs) (low : AreBefore p es) (high : AreFrom p fs) where
    parted : IsParted [] p (point_msgs all) (point_msgs es) (point_msgs fs)
    parted = entries_parted [] p all es fs e (λ i d h. from_start (get_or (keys_of all) i d)) low high

    pub points_front : point_msgs es ≡ pieces [] (Some p) (point_msgs all)
    points_front = front_part [] p (point_msgs all) (point_msgs es) (point_msgs fs) parted

    pub points_back : point_msgs fs ≡ pieces p None (point_msgs all)
    points_back = back_part [] p (point_msgs all) (point_msgs es) (point_msgs fs) parted

  -- ---- where the keys of point messages stand

  pub points_lie_before : (p : List ℕ) (es : List (List ℕ × List (KeyOp U V))) → AreBefore p es → LieIn [] (Some p) (point_msgs es)
  points_lie_before p es b = points_in [] (Some p) es (λ i d l. ap (λ c. c && before (get_or (keys_of es) i d) p) (from_start (get_or (keys_of es) i d)) ∙ b i d l)

  pub points_lie_from : (p : List ℕ) (es : List (List ℕ × List (KeyOp U V))) → AreFrom p es → LieIn p None (point_msgs es)
  points_lie_from p es f = points_in p None es (λ i d l. ap (λ c. c && true) (f i d l))

  kept : (b : Bool) (m : Msg U V) → cond b (Some m) None ≡ Some m → b ≡ true
  kept true m e = refl
  kept false m e = absurd (cc)

  key_in : (lo : List ℕ) (hi : Option (List ℕ)) (k : List ℕ) (cs : List (KeyOp U V)) (ms : List (Msg U V)) → 0 < length cs → LieIn lo hi (run_msgs k cs ++ ms) → within lo hi k ≡ true
  key_in lo hi k [] ms s h = absurd (omega arith)
  key_in lo hi k (c ∷ cs) ms s h = kept (within lo hi k) (msg_at k c) (sym (change_in lo hi k c) ∙ h.0)

  keys_in : (lo : List ℕ) (hi : Option (List ℕ)) (P : List ℕ → Type 0) (es : List (List ℕ × List (KeyOp U V))) → ((k : List ℕ) → within lo hi k ≡ true → P k) → AreRuns es → LieIn lo hi (point_msgs es) → AllByRecursion P (keys_of es)
  keys_in lo hi P [] f r h = tt
  keys_in lo hi P (e ∷ es) f r h = (
    f e.0 (key_in lo hi e.0 e.1 (point_msgs es) (All-head (λ (x : List ℕ × List (KeyOp U V)). 0 < length x.1) e es r) h),
    keys_in lo hi P es f (All-tail (λ (x : List ℕ × List (KeyOp U V)). 0 < length x.1) e es r) (in_right lo hi (run_msgs e.0 e.1) (point_msgs es) h),
  )

pub ranges_few : (U V : Type 0) (lo : List ℕ) (hi : Option (List ℕ)) (rs ss : List Span) → range_msgs {U = U} {V = V} ss ≡ pieces lo hi (range_msgs rs) → length ss ≤ length rs
ranges_few U V lo hi rs ss e = omega (arith, length-ranges U V ss, length-ranges U V rs, ap (λ t. length t) e, pieces_few lo hi (range_msgs {U = U} {V = V} rs))

-- ---- sorted lists with the pivot between them

module _ {U V : Type 0} (p : List ℕ) (rs ss : List Span) (es fs : List (List ℕ × List (KeyOp U V))) (front back : List (Msg U V)) (f : sorted_msgs rs es ≡ front) (b : sorted_msgs ss fs ≡ back) (low : LieIn [] (Some p) front) (high : LieIn p None back) where
  front_in : LieIn [] (Some p) (sorted_msgs rs es)
  front_in = subst (λ t. LieIn [] (Some p) t) (sym f) low

  back_in : LieIn p None (sorted_msgs ss fs)
  back_in = subst (λ t. LieIn p None t) (sym b) high

  pub front_ranges : LieIn [] (Some p) (range_msgs {U = U} {V = V} rs)
  front_ranges = in_left [] (Some p) (range_msgs rs) (point_msgs es) front_in

  front_points : LieIn [] (Some p) (point_msgs es)
  front_points = in_right [] (Some p) (range_msgs rs) (point_msgs es) front_in

  pub back_ranges : LieIn p None (range_msgs {U = U} {V = V} ss)
  back_ranges = in_left p None (range_msgs ss) (point_msgs fs) back_in

  back_points : LieIn p None (point_msgs fs)
  back_points = in_right p None (range_msgs ss) (point_msgs fs) back_in

  pub points_rise : AreRuns es → AreRuns fs → Rises es → Rises fs → Rises (es ++ fs)
  points_rise r s x y = rise_both p es fs (keys_in [] (Some p) (λ k. before k p ≡ true) es (λ k w. (both (reaches [] k) (before k p) w).1) r front_points) (keys_in p None (λ k. reaches p k ≡ true) fs (λ k w. (both (reaches p k) true w).0) s back_points) x y

  pub few_both : (length rs + point_count es) + (length ss + point_count fs) ≡ length front + length back
  few_both = omega (arith, ap (λ t. length t) f, ap (λ t. length t) b, length-sorted rs es, length-sorted ss fs)

  pub both_joined : (gs : List Span) (hs : List (List ℕ × List (KeyOp U V))) → IsJoined p (range_msgs {U = U} {V = V} rs) (range_msgs ss) (range_msgs gs) → hs ≡ es ++ fs → IsJoined p front back (sorted_msgs gs hs)
  both_joined gs hs g h =
      let points : IsJoined p (point_msgs es) (point_msgs fs) (point_msgs hs) = subst (λ t. IsJoined p (point_msgs es) (point_msgs fs) t) (sym (ap (λ (t : List (List ℕ × List (KeyOp U V))). point_msgs t) h ∙ msgs_append es fs)) (joined_ends p (point_msgs es) (point_msgs fs) front_points back_points) in
      subst (λ t. IsJoined p front t (sorted_msgs gs hs)) b (subst (λ t. IsJoined p t (sorted_msgs ss fs) (sorted_msgs gs hs)) f (joined_both p (range_msgs rs) (point_msgs es) (range_msgs ss) (point_msgs fs) (range_msgs gs) (point_msgs hs) g points))
