-- What messages add to a log, and what of it lies behind a position.
use Rattle.std.proofs.Common.{◌≡◌, ℕ, ◌≤◌, ◌+◌, Bool, true, false, ◌||◌, List, [], ◌∷◌, ◌++◌, length, take, drop, get_or, suc, zero, arith, refl, sym, ap, ◌∙◌, subst, ◌<◌, length-append}
use Rattle.std.specs.List.{list_any}
use Rattle.std.proofs.lemmas.Bool.{or_from, or_parts}
use Rattle.std.proofs.lemmas.List.{drop-append-le, take_more}
use Rattle.std.proofs.lemmas.List.Folds.{list_any-append}
use Rattle.message.specs.Effects.{any_touches, touches}
use Rattle.message.specs.declared.msg.Msg.{Msg}
use Rattle.message.specs.declared.msg.Msg.TheVariants.{Put, Del, DelRange, Edit}
use Rattle.pathkey.specs.Keys.{Key, is_in}
use Rattle.pathkey.specs.Order.{same}
use Rattle.pathkey.specs.declared.range.KeyRange.{KeyRange}
use Rattle.change_log.specs.KeyLogs.{IsPast, since}
use Rattle.change_log.specs.Touched.{Touched, is_touched, with_key, with_msg, with_msgs, with_range}
use Rattle.change_log.specs.declared.key_log.LogPosition.{LogPosition}

-- ---- what is behind a position

key_past : (p : LogPosition) (k : Key) (t : Touched) → IsPast t p → IsPast (with_key k t) p
key_past p k t h = (omega (arith, h.0, length-append t.keys (k ∷ [])), h.1)

key_since : (p : LogPosition) (k : Key) (t : Touched) → IsPast t p → since p (with_key k t) ≡ with_key k (since p t)
key_since p k t h = ap (λ (ks : List Key). record { keys = ks; ranges = drop p.ranges t.ranges }) (drop-append-le p.keys t.keys (k ∷ []) h.0)

range_past : (p : LogPosition) (r : KeyRange) (t : Touched) → IsPast t p → IsPast (with_range r t) p
range_past p r t h = (h.0, omega (arith, h.1, length-append t.ranges (r ∷ [])))

range_since : (p : LogPosition) (r : KeyRange) (t : Touched) → IsPast t p → since p (with_range r t) ≡ with_range r (since p t)
range_since p r t h = ap (λ (rs : List KeyRange). record { keys = drop p.keys t.keys; ranges = rs }) (drop-append-le p.ranges t.ranges (r ∷ []) h.1)

-- ---- what is touched

-- a key that is not touched with one key more is neither that key nor touched before
apart_key : (q k : Key) (t : Touched) → is_touched (with_key q t) k ≡ false → (is_touched t k ≡ false) × (same q k ≡ false)
apart_key q k t h =
    let test : Key → Bool = λ y. same y k in
    let parts = or_parts (list_any test (t.keys ++ q ∷ [])) (list_any (λ r. is_in r k) t.ranges) h in
    let keys = or_parts (list_any test t.keys) (test q || false) (sym (list_any-append test t.keys (q ∷ [])) ∙ parts.0) in
    (or_from (list_any test t.keys) (list_any (λ r. is_in r k) t.ranges) keys.0 parts.1, (or_parts (test q) false keys.1).0)

apart_range : (q : KeyRange) (k : Key) (t : Touched) → is_touched (with_range q t) k ≡ false → (is_touched t k ≡ false) × (is_in q k ≡ false)
apart_range q k t h =
    let test : KeyRange → Bool = λ r. is_in r k in
    let parts = or_parts (list_any (λ y. same y k) t.keys) (list_any test (t.ranges ++ q ∷ [])) h in
    let ranges = or_parts (list_any test t.ranges) (test q || false) (sym (list_any-append test t.ranges (q ∷ [])) ∙ parts.1) in
    (or_from (list_any (λ y. same y k) t.keys) (list_any test t.ranges) parts.0 ranges.0, (or_parts (test q) false ranges.1).0)

module _ {U V : Type 0} where
  msg_past : (p : LogPosition) (m : Msg U V) (t : Touched) → IsPast t p → IsPast (with_msg m t) p
  msg_past p (Put k v) t h = key_past p k t h
  msg_past p (Del k) t h = key_past p k t h
  msg_past p (DelRange r) t h = range_past p r t h
  msg_past p (Edit k u) t h = key_past p k t h

  msg_since : (p : LogPosition) (m : Msg U V) (t : Touched) → IsPast t p → since p (with_msg m t) ≡ with_msg m (since p t)
  msg_since p (Put k v) t h = key_since p k t h
  msg_since p (Del k) t h = key_since p k t h
  msg_since p (DelRange r) t h = range_since p r t h
  msg_since p (Edit k u) t h = key_since p k t h

  apart_msg : (m : Msg U V) (k : Key) (t : Touched) → is_touched (with_msg m t) k ≡ false → (is_touched t k ≡ false) × (touches m k ≡ false)
  apart_msg (Put q v) k t h = apart_key q k t h
  apart_msg (Del q) k t h = apart_key q k t h
  apart_msg (DelRange r) k t h = apart_range r k t h
  apart_msg (Edit q u) k t h = apart_key q k t h

  -- the log still was at a position
  pub msgs_past : (p : LogPosition) (ms : List (Msg U V)) (t : Touched) → IsPast t p → IsPast (with_msgs ms t) p
  msgs_past p [] t h = h
  msgs_past p (m ∷ ms) t h = msgs_past p ms (with_msg m t) (msg_past p m t h)

  -- what messages add is behind each position
  pub msgs_since : (p : LogPosition) (ms : List (Msg U V)) (t : Touched) → IsPast t p → since p (with_msgs ms t) ≡ with_msgs ms (since p t)
  msgs_since p [] t h = refl
  msgs_since p (m ∷ ms) t h = msgs_since p ms (with_msg m t) (msg_past p m t h) ∙ ap (λ (x : Touched). with_msgs ms x) (msg_since p m t h)

  -- a key that is not touched after messages was not before, and none of them touches it
  pub apart_msgs : (ms : List (Msg U V)) (k : Key) (t : Touched) → is_touched (with_msgs ms t) k ≡ false → (is_touched t k ≡ false) × (any_touches ms k ≡ false)
  apart_msgs [] k t h = (h, refl)
  apart_msgs (m ∷ ms) k t h =
      let rest = apart_msgs ms k (with_msg m t) h in
      let one = apart_msg m k t rest.0 in
      (one.0, or_from (touches m k) (any_touches ms k) one.1 rest.1)

  -- one message more
  msgs_push : (ms : List (Msg U V)) (m : Msg U V) (t : Touched) → with_msgs (ms ++ m ∷ []) t ≡ with_msg m (with_msgs ms t)
  msgs_push [] m t = refl
  msgs_push (n ∷ ms) m t = msgs_push ms m (with_msg n t)

  -- one turn of a loop over messages
  pub msgs_turn : (ms : List (Msg U V)) (i : ℕ) (m : Msg U V) (t a b : Touched) → i < length ms → m ≡ get_or ms i m → a ≡ with_msgs (take i ms) t → b ≡ with_msg m a → b ≡ with_msgs (take (i + 1) ms) t
  msgs_turn ms i m t a b lt is before one =
      one ∙ ap (λ (x : Touched). with_msg m x) before ∙ sym (msgs_push (take i ms) m t)
      ∙ ap (λ (l : List (Msg U V)). with_msgs l t) (ap (λ (x : Msg U V). take i ms ++ x ∷ []) is ∙ sym (take_more ms i m lt))
