-- Snapshots of a world: when one is taken or removed, and how many there are after a list of new ones.
use Rattle.std.proofs.Common.{◌≡◌, ℕ, ◌+◌, ◌<◌, List, [], ◌∷◌, ◌++◌, length, map, Bool, true, false, cond, ◌&&◌, not, ap, refl, ◌∙◌, Option, Some, None, arith}
use Rattle.std.specs.Prelude.{Ok, Err, nat_le, nat_lt}
use Rattle.std.specs.Option.{is_some}
use Rattle.std.specs.FinMap as finmap
use Rattle.std.proofs.lemmas.Bool.{and_parts, ltb-true, not-true}
use Rattle.std.proofs.lemmas.Bool.Decides.{nat_tests}
use Rattle.std.proofs.lemmas.Cmp.{nat_list_cmp_total}
use Rattle.pathkey.specs.Order.{by_bytes}
use Rattle.pathkey.specs.declared.errno.Errno.TheVariants.{ENOENT, EEXIST, ENOSPC}
use Rattle.pathkey.proofs.OrderFacts.{same_itself}
use Rattle.reference.specs.Tree.{Name, Tree}
use Rattle.reference.specs.Rows.{happens_all}
use Rattle.reference.specs.Worlds.{World, Snapped, Event, TakeSnapshot, Answer, Settled, snapshot, drop_snapshot}

abbrev pub Kept : Type 0
Kept = finmap.FinMap by_bytes Tree

-- the world with that live tree and those snapshots
abbrev pub world : Tree → Kept → World
world t m = record { live = t; snapshots = m }

none_is : (o : Option Tree) → o ≡ None → is_some o ≡ false
none_is o e = ap is_some e

-- ---- one snapshot
-- a new name, where there are fewer than 64
pub takes : (t : Tree) (m : Kept) (s : Name) → is_some (finmap.get m s) ≡ false → nat_le 64 (finmap.len m) ≡ false → snapshot (world t m) s ≡ (world t (finmap.insert m s t), Ok tt)
takes t m s new few = rw (new, few) refl

pub takes_no_name_twice : (t : Tree) (m : Kept) (s : Name) → is_some (finmap.get m s) ≡ true → snapshot (world t m) s ≡ (world t m, Err EEXIST)
takes_no_name_twice t m s old = rw old refl

pub takes_no_more : (t : Tree) (m : Kept) (s : Name) → is_some (finmap.get m s) ≡ false → nat_le 64 (finmap.len m) ≡ true → snapshot (world t m) s ≡ (world t m, Err ENOSPC)
takes_no_more t m s new many = rw (new, many) refl

pub drops : (t : Tree) (m : Kept) (s : Name) → is_some (finmap.get m s) ≡ true → drop_snapshot (world t m) s ≡ (world t (finmap.remove m s), Ok tt)
drops t m s old = rw old refl

pub drops_none : (t : Tree) (m : Kept) (s : Name) → is_some (finmap.get m s) ≡ false → drop_snapshot (world t m) s ≡ (world t m, Err ENOENT)
drops_none t m s new = rw new refl

-- the first snapshot is taken
pub takes_first : (t : Tree) (s : Name) → snapshot (world t finmap.empty) s ≡ (world t (finmap.insert finmap.empty s t), Ok tt)
takes_first t s = takes t finmap.empty s (none_is _ (finmap.get-empty by_bytes s)) (ap (nat_le 64) (finmap.len-empty by_bytes Tree))

-- and its tree is found under its name
pub get_itself : (m : Kept) (s : Name) (t : Tree) → finmap.get (finmap.insert m s t) s ≡ Some t
get_itself m s t = finmap.get-insert nat_list_cmp_total m s t s ∙ ap (λ (b : Bool). cond b (Some t) (finmap.get m s)) (same_itself s)

-- ---- a list of new ones
abbrev pub Snapshots : Type 0
Snapshots = List (Name × Tree)

abbrev pub kept : Snapshots → Kept
kept es = finmap.from_entries es

-- the snapshots es and then those of t under the names
abbrev pub with_all : Tree → Snapshots → List Name → Snapshots
with_all t es [] = es
with_all t es (n ∷ ns) = with_all t ((n, t) ∷ es) ns

-- each name is new, and none comes where there are 64
abbrev pub have_room : Tree → Snapshots → List Name → Bool
have_room t es [] = true
have_room t es (n ∷ ns) = (not (is_some (finmap.find by_bytes n es)) && nat_lt (length es) 64) && have_room t ((n, t) ∷ es) ns

below_64 : (n : ℕ) → nat_lt n 64 ≡ true → nat_le 64 n ≡ false
below_64 n h = let l : n < 64 = ltb-true n 64 h in grind (arith, nat_tests)

pub is_kept : (es : Snapshots) (s : Name) → is_some (finmap.get (kept es) s) ≡ is_some (finmap.find by_bytes s es)
is_kept es s = ap is_some (finmap.get-from_entries nat_list_cmp_total es s)

one_more : (t : Tree) (es : Snapshots) (n : Name) → finmap.len (kept es) ≡ length es → is_some (finmap.get (kept es) n) ≡ false → finmap.len (kept ((n, t) ∷ es)) ≡ length ((n, t) ∷ es)
one_more t es n l new =
    let e : finmap.len (finmap.insert (kept es) n t) ≡ finmap.len (kept es) + 1 = finmap.len-insert nat_list_cmp_total (kept es) n t ∙ ap (λ (b : Bool). cond b (finmap.len (kept es)) (finmap.len (kept es) + 1)) new in
    omega arith

-- what a list of names with room says of its first name
record HasRoom (t : Tree) (es : Snapshots) (n : Name) (ns : List Name) : Type 0 where
  new : is_some (finmap.get (kept es) n) ≡ false
  few : nat_le 64 (length es) ≡ false
  rest : have_room t ((n, t) ∷ es) ns ≡ true

has_room : (t : Tree) (es : Snapshots) (n : Name) (ns : List Name) → have_room t es (n ∷ ns) ≡ true → HasRoom t es n ns
has_room t es n ns h =
    let parts : ((not (is_some (finmap.find by_bytes n es)) && nat_lt (length es) 64) ≡ true) × (have_room t ((n, t) ∷ es) ns ≡ true) = and_parts _ _ h in
    let first : (not (is_some (finmap.find by_bytes n es)) ≡ true) × (nat_lt (length es) 64 ≡ true) = and_parts _ _ parts.0 in
    record { new = is_kept es n ∙ not-true _ first.0; few = below_64 (length es) first.1; rest = parts.1 }

-- what was settled, before the answers of the events that follow
abbrev pub settled_first : World × Snapped → List Event → List Answer
settled_first o events = Settled o.1 ∷ (happens_all o.0 events).1

pub takes_all : (t : Tree) (es : Snapshots) (ns : List Name) (events : List Event) → finmap.len (kept es) ≡ length es → have_room t es ns ≡ true
    → (happens_all (world t (kept es)) (map TakeSnapshot ns ++ events)).1 ≡ map (λ n. Settled (Ok tt)) ns ++ (happens_all (world t (kept (with_all t es ns))) events).1
takes_all t es [] events l h = refl
takes_all t es (n ∷ ns) events l h =
    let room : HasRoom t es n ns = has_room t es n ns h in
    ap (λ (o : World × Snapped). settled_first o (map TakeSnapshot ns ++ events)) (takes t (kept es) n room.new (ap (nat_le 64) l ∙ room.few))
    ∙ ap (λ (z : List Answer). Settled (Ok tt) ∷ z) (takes_all t ((n, t) ∷ es) ns events (one_more t es n l room.new) room.rest)

pub len_with_all : (t : Tree) (es : Snapshots) (ns : List Name) → finmap.len (kept es) ≡ length es → have_room t es ns ≡ true → finmap.len (kept (with_all t es ns)) ≡ length (with_all t es ns)
len_with_all t es [] l h = l
len_with_all t es (n ∷ ns) l h =
    let room : HasRoom t es n ns = has_room t es n ns h in
    len_with_all t ((n, t) ∷ es) ns (one_more t es n l room.new) room.rest
