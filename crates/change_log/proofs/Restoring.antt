-- What a log knows once the live tree is that of a snapshot.
use Rattle.std.proofs.Common.{◌≡◌, ℕ, ◌<◌, ◌≤◌, ◌+◌, ◌-◌, Bool, false, ◌||◌, List, [], ◌∷◌, map, length, drop, get_or, suc, zero, arith, refl, sym, ap, ◌∙◌, subst}
use Rattle.std.specs.Prelude.{min}
use Rattle.std.specs.List.{AllByRecursion, Contains, list_any}
use Rattle.std.proofs.lemmas.Bool.{or_from, or_parts}
use Rattle.std.specs.Global.{Vec}
use Rattle.std.specs.Vec.{with_items}
use Rattle.std.proofs.lemmas.List.{drop-drop, length-map, with_items_is}
use Rattle.pathkey.specs.Keys.{Key, is_in}
use Rattle.pathkey.specs.Order.{same}
use Rattle.change_log.specs.KeyLogs.{IsPast, earlier, since}
use Rattle.change_log.specs.Snapshots.{ArePast, IsBoth, IsPositionOf, IsRestored, Restores, Since, lowered, since_position}
use Rattle.change_log.specs.Touched.{Touched, is_touched}
use Rattle.change_log.specs.declared.change_log.SnapshotPosition.{SnapshotPosition}
use Rattle.change_log.specs.declared.key_log.LogPosition.{LogPosition}
use Rattle.change_log.proofs.Known.{known}

-- ---- an earlier position

none_dropped : {X : Type 0} (test : X → Bool) (n : ℕ) (xs : List X) → list_any test xs ≡ false → list_any test (drop n xs) ≡ false
none_dropped test zero xs h = h
none_dropped test (suc n) [] h = refl
none_dropped test (suc n) (x ∷ xs) h = none_dropped test n xs (or_parts (test x) (list_any test xs) h).1

none_later : {X : Type 0} (test : X → Bool) (m n : ℕ) (xs : List X) → m ≤ n → list_any test (drop m xs) ≡ false → list_any test (drop n xs) ≡ false
none_later test m n xs le h =
    let behind : drop (n - m) (drop m xs) ≡ drop n xs = drop-drop (n - m) m xs ∙ ap (λ i. drop i xs) (omega (arith, le)) in
    subst (λ l. list_any test l ≡ false) behind (none_dropped test (n - m) (drop m xs) h)

-- what is not touched since a position is not since a later one
untouched_later : (p q : LogPosition) (t : Touched) (k : Key) → p.keys ≤ q.keys → p.ranges ≤ q.ranges → is_touched (since p t) k ≡ false → is_touched (since q t) k ≡ false
untouched_later p q t k keys ranges h =
    let parts = or_parts (list_any (λ x. same x k) (drop p.keys t.keys)) (list_any (λ r. is_in r k) (drop p.ranges t.ranges)) h in
    or_from (list_any (λ x. same x k) (drop q.keys t.keys)) (list_any (λ r. is_in r k) (drop q.ranges t.ranges))
    (none_later (λ x. same x k) p.keys q.keys t.keys keys parts.0) (none_later (λ r. is_in r k) p.ranges q.ranges t.ranges ranges parts.1)

untouched_both : (p q : LogPosition) (t : Touched) (k : Key) → is_touched (since (earlier p q) t) k ≡ false → (is_touched (since p t) k ≡ false) × (is_touched (since q t) k ≡ false)
untouched_both p q t k h = (
  untouched_later (earlier p q) p t k (omega arith) (omega arith) h,
  untouched_later (earlier p q) q t k (omega arith) (omega arith) h,
)

-- ---- all positions

pub lowered_past : (meta block : LogPosition) (a b : Touched) (ps : List SnapshotPosition) → ArePast a b ps → ArePast a b (map (λ p. lowered meta block p) ps)
lowered_past meta block a b [] h = tt
lowered_past meta block a b (p ∷ ps) h = (((omega (arith, h.0.0.0), omega (arith, h.0.0.1)), (omega (arith, h.0.1.0), omega (arith, h.0.1.1))), lowered_past meta block a b ps h.1)

-- what is written back to the vector
pub lowered_items : (v : Vec SnapshotPosition) (meta block : LogPosition) (seen new : List SnapshotPosition) → seen ≡ v.items → new ≡ map (λ p. lowered meta block p) seen → (with_items v new).items ≡ map (λ p. lowered meta block p) v.items
lowered_items v meta block seen new is made =
    let all : new ≡ map (λ p. lowered meta block p) v.items = made ∙ ap (λ (ps : List SnapshotPosition). map (λ p. lowered meta block p) ps) is in
    with_items_is v new (ap (λ (ps : List SnapshotPosition). length ps) all ∙ length-map v.items (λ p. lowered meta block p) ∙ sym v.ok.0) ∙ all

-- a position that is there gives what is known of it
pub known_at : (a b : Touched) (ps : List SnapshotPosition) (p : SnapshotPosition) → Contains ps p → Contains (known a b ps) (since_position a b p)
known_at a b [] p there = absurd (omega (arith, there.1))
known_at a b (q ∷ ps) p (zero, lt, is) = (0, omega arith, ap (λ (x : SnapshotPosition). since_position a b x) is)
known_at a b (q ∷ ps) p (suc i, lt, is) = let rest = known_at a b ps p (i, omega (arith, lt), is) in (suc rest.0, omega (arith, rest.1), rest.2)

one_restored : (name : List ℕ) (old : List Since) (a b : Touched) (q p : SnapshotPosition) → q.name ≡ name → Contains old (since_position a b q) → Contains old (since_position a b p) → IsRestored name old (since_position a b (lowered q.meta q.block p))
one_restored name old a b q p is_name base there = record {
  before = since_position a b p;
  base = since_position a b q;
  known = there;
  base_known = base;
  same = refl;
  base_same = is_name;
  both = record { meta = λ k h. untouched_both p.meta q.meta a k h; block = λ k h. untouched_both p.block q.block b k h };
}

all_restored : (name : List ℕ) (old : List Since) (a b : Touched) (q : SnapshotPosition) → q.name ≡ name → Contains old (since_position a b q) → (ps : List SnapshotPosition)
    → ((p : SnapshotPosition) → Contains ps p → Contains old (since_position a b p)) → Restores name old (known a b (map (λ p. lowered q.meta q.block p) ps))
all_restored name old a b q is_name base [] there = tt
all_restored name old a b q is_name base (p ∷ ps) there = (
  one_restored name old a b q p is_name base (there p (0, omega arith, refl)),
  all_restored name old a b q is_name base ps (λ x h. there x (suc h.0, omega (arith, h.1), h.2)),
)

pub restores : (name : List ℕ) (a b : Touched) (meta block : LogPosition) (ps : List SnapshotPosition) → IsPositionOf name meta block ps → Restores name (known a b ps) (known a b (map (λ p. lowered meta block p) ps))
restores name a b meta block ps (q, there, is_name, is_meta, is_block) =
    subst (λ (x : LogPosition). Restores name (known a b ps) (known a b (map (λ p. lowered x block p) ps))) is_meta
    (subst (λ (x : LogPosition). Restores name (known a b ps) (known a b (map (λ p. lowered q.meta x p) ps))) is_block
    (all_restored name (known a b ps) a b q is_name (known_at a b ps q there) ps (λ p h. known_at a b ps p h)))
