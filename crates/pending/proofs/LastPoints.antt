-- The last key with a message for it alone.
use Rattle.std.proofs.Common.{◌≡◌, ℕ, ◌+◌, ◌<◌, ◌≤◌, Bool, true, false, List, [], ◌∷◌, ◌++◌, length, take, get_or, refl, ap, sym, ◌∙◌, subst, Option, Some, None, cond}
use Rattle.std.specs.Prelude.{◌&&◌, IfSome}
use Rattle.std.specs.List.{AllByRecursion}
use Rattle.std.specs.Map.{keys_of}
use Rattle.std.specs.Option.{option_or}
use Rattle.std.specs.Ordering.{is_lt}
use Rattle.std.specs.declared.cmp.Ordering.TheVariants.{Less}
use Rattle.std.proofs.lemmas.Bool.{or_from, or_left, or_right}
use Rattle.std.proofs.lemmas.List.{take_more, take_all}
use Rattle.std.proofs.lemmas.List.Elements.{All-head, All-tail}
use Rattle.std.proofs.lemmas.Map.Keys.{sorted_head, sorted_tail}
use Rattle.pathkey.specs.Order.{by_bytes}
use Rattle.pathkey.specs.Keys.{is_below}
use Rattle.pathkey.proofs.KeyOrder.{le_le, le_lt, lt_le, reaches-from_before, reaches-from_not_before}
use Rattle.pathkey.proofs.OrderFacts.{same_itself}
use Rattle.cow_map.specs.Places.{Rises}
use Rattle.message.specs.declared.msg.Msg.{Msg}
use Rattle.message.specs.Effects.{point_key}
use Rattle.message.specs.Ranges.{reaches, before, within}
use Rattle.message.specs.PointKeys.{has_point}
use Rattle.message.specs.Stretches.{is_for, is_key}
use Rattle.message.proofs.KeyOrder.{both, unlike_earlier}
use Rattle.message.proofs.NextKey.{by_bool, in_range}
use Rattle.message.proofs.PointKeys.{has_point-append, or_none}
use Rattle.message.proofs.SortedStretches.{outside_key}
use Rattle.point_ops.specs.Changes.{KeyOp, run_msgs}
use Rattle.point_ops.specs.PointOps.{point_msgs, last_below, AreRuns}
use Rattle.range_set.specs.Disjoint.{Span, range_msgs}
use Rattle.pending.specs.LastPoint.{later_point, point_within, IsLastPoint}
use Rattle.pending.specs.SortedMsgs.{sorted_msgs}
use Rattle.pending.proofs.Stretching.{run_points, ranges_point}

-- ---- lists of messages

past : (lo q k : List ℕ) (hi : Option (List ℕ)) → within lo hi q ≡ true → before q k ≡ true → is_below k hi ≡ true → within lo hi k ≡ true
past lo q k hi w b h = in_range lo k hi (le_le lo q k (both (reaches lo q) (is_below q hi) w).0 (reaches-from_before q k b)) h

module _ {U V : Type 0} where
  -- messages for one key, or none
  pub last_one : (ms : List (Msg U V)) (o : Option (List ℕ)) (lo : List ℕ) (hi : Option (List ℕ)) → ((k : List ℕ) → has_point ms k ≡ is_key o k) → IsLastPoint ms lo hi (point_within o lo hi)
  last_one ms None lo hi e = λ k h. e k
  last_one ms (Some q) lo hi e = (elim (within lo hi q) as (λ c. within lo hi q ≡ c → IsLastPoint ms lo hi (cond c (Some q) None)) [
    | true ↦ λ w. (w, e q ∙ same_itself q, λ k b h. e k ∙ unlike_earlier q k b)
    | false ↦ λ w k h. e k ∙ outside_key lo hi q k w h
  ]) refl

  neither : (xs ys : List (Msg U V)) (k : List ℕ) → has_point xs k ≡ false → has_point ys k ≡ false → has_point (xs ++ ys) k ≡ false
  neither xs ys k x y = has_point-append xs ys k ∙ or_from (has_point xs k) (has_point ys k) x y

  in_earlier : (xs ys : List (Msg U V)) (k : List ℕ) → has_point xs k ≡ true → has_point (xs ++ ys) k ≡ true
  in_earlier xs ys k x = has_point-append xs ys k ∙ or_left (has_point xs k) (has_point ys k) x

  in_later : (xs ys : List (Msg U V)) (k : List ℕ) → has_point ys k ≡ true → has_point (xs ++ ys) k ≡ true
  in_later xs ys k y = has_point-append xs ys k ∙ or_right (has_point xs k) (has_point ys k) y

  -- some messages, and then others
  pub last_then : (xs ys : List (Msg U V)) (lo : List ℕ) (hi a b : Option (List ℕ)) → IsLastPoint xs lo hi a → IsLastPoint ys lo hi b → IsLastPoint (xs ++ ys) lo hi (later_point a b)
  last_then xs ys lo hi None None x y = λ k h. neither xs ys k (x k h) (y k h)
  last_then xs ys lo hi None (Some q) x y = (y.0, in_later xs ys q y.1, λ k b h. neither xs ys k (x k (past lo q k hi y.0 b h)) (y.2 k b h))
  last_then xs ys lo hi (Some p) None x y = (x.0, in_earlier xs ys p x.1, λ k b h. neither xs ys k (x.2 k b h) (y k (past lo p k hi x.0 b h)))
  last_then xs ys lo hi (Some p) (Some q) x y = (elim (before p q) as (λ c. before p q ≡ c → IsLastPoint (xs ++ ys) lo hi (Some (cond c q p))) [
    | true ↦ λ t. (y.0, in_later xs ys q y.1, λ k b h. neither xs ys k (x.2 k (lt_le p q k t (reaches-from_before q k b)) h) (y.2 k b h))
    | false ↦ λ f. (x.0, in_earlier xs ys p x.1, λ k b h. neither xs ys k (x.2 k b h) (y.2 k (le_lt q p k (reaches-from_not_before p q f) b) h))
  ]) refl

  -- one turn of a loop over the messages
  pub last_more : (ms : List (Msg U V)) (i : ℕ) (m : Msg U V) (o : Option (List ℕ)) (lo : List ℕ) (hi old one new : Option (List ℕ)) → i < length ms → m ≡ get_or ms i m → o ≡ point_key m → IsLastPoint (take i ms) lo hi old → one ≡ point_within o lo hi → new ≡ later_point old one → IsLastPoint (take (i + 1) ms) lo hi new
  last_more ms i m o lo hi old one new h g p x is then =
      let parts : take (i + 1) ms ≡ take i ms ++ m ∷ [] = take_more ms i m h ∙ ap (λ (z : Msg U V). take i ms ++ z ∷ []) (sym g) in
      let last : IsLastPoint (m ∷ []) lo hi one = subst (IsLastPoint (m ∷ []) lo hi) (sym (is ∙ ap (λ z. point_within z lo hi) p)) (last_one (m ∷ []) (point_key m) lo hi (λ k. or_none (is_for m k))) in
      subst (λ (xs : List (Msg U V)). IsLastPoint xs lo hi new) (sym parts) (subst (IsLastPoint (take i ms ++ m ∷ []) lo hi) (sym then) (last_then (take i ms) (m ∷ []) lo hi old one x last))

  pub last_whole : (ms : List (Msg U V)) (i : ℕ) (lo : List ℕ) (hi last : Option (List ℕ)) → length ms ≤ i → IsLastPoint (take i ms) lo hi last → IsLastPoint ms lo hi last
  last_whole ms i lo hi last h x = subst (λ (xs : List (Msg U V)). IsLastPoint xs lo hi last) (take_all i ms h) x

-- ---- sorted lists

-- the last key of an entry and of those after it
last_cons : (x lo : List ℕ) (hi o : Option (List ℕ)) → IfSome o (λ q. (before x q ≡ true) × (is_below q hi ≡ true)) → later_point (point_within (Some x) lo hi) (point_within o lo hi) ≡ point_within (option_or o (cond (is_below x hi) (Some x) None)) lo hi
last_cons x lo hi None p = by_bool (is_below x hi) (later_point (point_within (Some x) lo hi) None ≡ point_within (cond (is_below x hi) (Some x) None) lo hi)
    (λ t. alone (point_within (Some x) lo hi) ∙ sym (ap (λ c. point_within (cond c (Some x) None) lo hi) t))
    (λ f. ap (λ c. later_point (cond (reaches lo x && c) (Some x) None) None) f ∙ ap (λ c. later_point (cond c (Some x) None) None) (neither (reaches lo x)) ∙ sym (ap (λ c. point_within (cond c (Some x) None) lo hi) f))
  where
    alone : (o : Option (List ℕ)) → later_point o None ≡ o
    alone None = refl
    alone (Some q) = refl

    neither : (b : Bool) → (b && false) ≡ false
    neither true = refl
    neither false = refl
last_cons x lo hi (Some q) p = by_bool (reaches lo q) (later_point (point_within (Some x) lo hi) (point_within (Some q) lo hi) ≡ point_within (Some q) lo hi)
    (λ t.
    let in_q : point_within (Some q) lo hi ≡ Some q = ap (λ c. cond c (Some q) None) (in_range lo q hi t p.1) in
    ap (later_point (point_within (Some x) lo hi)) in_q ∙ later_by (within lo hi x) ∙ sym in_q)
    (λ f.
    let no_q : point_within (Some q) lo hi ≡ None = ap (λ c. cond (c && is_below q hi) (Some q) None) f in
    let no_x : reaches lo x ≡ false = by_bool (reaches lo x) (reaches lo x ≡ false) (λ t. absurd (let y : reaches lo q ≡ true = le_le lo x q t (reaches-from_before x q p.0) in cc)) (λ n. n) in
    ap (λ c. later_point (cond (c && is_below x hi) (Some x) None) (point_within (Some q) lo hi)) no_x ∙ no_q ∙ sym no_q)
  where
    later_by : (c : Bool) → later_point (cond c (Some x) None) (Some q) ≡ Some q
    later_by true = ap (λ c. Some (cond c q x)) p.0
    later_by false = refl

module _ {X : Type 0} where
  -- a last key is after what all keys are after, and below the end
  last_past : (x : List ℕ) (hi : Option (List ℕ)) (es : List (List ℕ × X)) → AllByRecursion (λ y. by_bytes x y ≡ Less) (keys_of es) → IfSome (last_below hi es) (λ q. (before x q ≡ true) × (is_below q hi ≡ true))
  last_past x hi [] a = tt
  last_past x hi (e ∷ es) a = either (last_below hi es) (cond (is_below e.0 hi) (Some e.0) None) (last_past x hi es a.1) ((elim (is_below e.0 hi) as (λ c. is_below e.0 hi ≡ c → IfSome (cond c (Some e.0) None) (λ q. (before x q ≡ true) × (is_below q hi ≡ true))) [
    | true ↦ λ t. (ap is_lt a.0, t)
    | false ↦ λ f. tt
  ]) refl)
    where
      either : (o p : Option (List ℕ)) → IfSome o (λ q. (before x q ≡ true) × (is_below q hi ≡ true)) → IfSome p (λ q. (before x q ≡ true) × (is_below q hi ≡ true)) → IfSome (option_or o p) (λ q. (before x q ≡ true) × (is_below q hi ≡ true))
      either None p a b = b
      either (Some q) p a b = a

-- entries with the same keys have the same last one below an end
pub last_below_keys : {X : Type 0} (hi : Option (List ℕ)) (es fs : List (List ℕ × X)) → keys_of es ≡ keys_of fs → last_below hi es ≡ last_below hi fs
last_below_keys hi [] [] e = refl
last_below_keys hi [] (f ∷ fs) e = absurd (cc)
last_below_keys hi (x ∷ es) [] e = absurd (cc)
last_below_keys hi (x ∷ es) (f ∷ fs) e =
    let head : x.0 ≡ f.0 = cc in
    let tail : keys_of es ≡ keys_of fs = cc in
    ap (λ q. option_or (last_below hi es) (cond (is_below q hi) (Some q) None)) head ∙ ap (λ o. option_or o (cond (is_below f.0 hi) (Some f.0) None)) (last_below_keys hi es fs tail)

module _ {U V : Type 0} where
  points_last : (lo : List ℕ) (hi : Option (List ℕ)) (es : List (List ℕ × List (KeyOp U V))) → Rises es → AreRuns es → IsLastPoint (point_msgs es) lo hi (point_within (last_below hi es) lo hi)
  points_last lo hi [] s r = λ k h. refl
  points_last lo hi (e ∷ es) s r =
      let some : 0 < length e.1 = All-head (λ (x : List ℕ × List (KeyOp U V)). 0 < length x.1) e es r in
      let rest = points_last lo hi es (sorted_tail by_bytes e.0 (keys_of es) s) (All-tail (λ (x : List ℕ × List (KeyOp U V)). 0 < length x.1) e es r) in
      let here : IsLastPoint (run_msgs e.0 e.1) lo hi (point_within (Some e.0) lo hi) = last_one (run_msgs e.0 e.1) (Some e.0) lo hi (λ k. run_points e.0 e.1 k some) in
      let is = last_cons e.0 lo hi (last_below hi es) (last_past e.0 hi es (sorted_head by_bytes e.0 (keys_of es) s)) in
      subst (IsLastPoint (point_msgs (e ∷ es)) lo hi) is (last_then (run_msgs e.0 e.1) (point_msgs es) lo hi (point_within (Some e.0) lo hi) (point_within (last_below hi es) lo hi) here rest)

  pub sorted_last : (rs : List Span) (es : List (List ℕ × List (KeyOp U V))) (lo : List ℕ) (hi last : Option (List ℕ)) → Rises es → AreRuns es → last ≡ point_within (last_below hi es) lo hi → IsLastPoint (sorted_msgs rs es) lo hi last
  sorted_last rs es lo hi last s r is =
      subst (IsLastPoint (sorted_msgs rs es) lo hi) (sym is) (last_then (range_msgs rs) (point_msgs es) lo hi None (point_within (last_below hi es) lo hi) (last_one (range_msgs rs) None lo hi (λ k. ranges_point U V rs k)) (points_last lo hi es s r))
