-- The worked rows with snapshots: each step at a map of snapshots is a lemma, the rest computes.
use Rattle.std.proofs.Common.{◌≡◌, ℕ, List, [], ◌∷◌, ◌++◌, ◌-◌, length, map, Bool, true, false, cond, ap, ◌∙◌, refl, Option, Some, None}
use Rattle.std.specs.Prelude.{Ok, Err, codes, option_map, nat_le}
use Rattle.std.specs.Option.{is_some}
use Rattle.std.proofs.lemmas.Cmp.{nat_list_cmp_total}
use Rattle.pathkey.specs.Order.{by_bytes, same}
use Rattle.pathkey.proofs.OrderFacts.{same_itself}
use Rattle.std.specs.FinMap as finmap
use Rattle.pathkey.specs.declared.errno.Errno.TheVariants.{ENOENT, EEXIST, ENOSPC}
use Rattle.reference.specs.Tree.{Name, Tree, Dir, File, nothing, entry}
use Rattle.reference.specs.Calls.{changed, does}
use Rattle.reference.specs.Rows.{path, happens_all, sixty_four_names, SnapshotNames, SnapshotKeepsItsTree, SnapshotIsRead}
use Rattle.reference.specs.Worlds.{World, Snapped, Event, Ask, TakeSnapshot, DropSnapshot, RestoreSnapshot, Answer, Replied, Settled, restored}
use Rattle.reference.specs.declared.call.Call.TheVariants.{Rmtree, Stat as AskStat, Readdir}
use Rattle.reference.specs.declared.reply.Reply.{Reply}
use Rattle.reference.specs.declared.reply.Reply.TheVariants.{Done, Fault}
use Rattle.reference.proofs.Snapshots.{Kept, Snapshots, world, kept, with_all, have_room, settled_first, takes, takes_no_name_twice, takes_no_more, drops, drops_none, takes_first, get_itself, is_kept, takes_all, len_with_all}

-- `/a` with an empty file `x`
abbrev kept_tree : Tree
kept_tree = Dir 0 (entry (codes "a") (Dir 0 (entry (codes "x") (File 0 []) nothing)) nothing)

-- the answers by what the snapshot gave
abbrev from_snapshot : World × Snapped → List Answer
from_snapshot o = Replied Done ∷ Replied Done ∷ Settled o.1 ∷ (happens_all o.0 (Ask (Rmtree (path "/a")) 0 ∷ Ask (AskStat (path "/a")) 0 ∷ RestoreSnapshot (codes "s") ∷ Ask (Readdir (path "/a")) 0 ∷ [])).1

-- and by what the snapshot's tree is
abbrev from_restore : Option Tree → List Answer
from_restore o =
    let w : World × Snapped = restored (world (Dir 0 nothing) (finmap.insert finmap.empty (codes "s") kept_tree)) o in
    Replied Done ∷ Replied Done ∷ Settled (Ok tt) ∷ Replied Done ∷ Replied (Fault ENOENT) ∷ Settled w.1 ∷ (happens_all w.0 (Ask (Readdir (path "/a")) 0 ∷ [])).1

pub snapshot_keeps_its_tree : SnapshotKeepsItsTree
unfolding does changed
snapshot_keeps_its_tree = ap from_snapshot (takes_first kept_tree (codes "s")) ∙ ap from_restore (get_itself finmap.empty (codes "s") kept_tree)

-- what is read in the snapshot, by what the snapshot gave
abbrev read_after : World × Snapped → Option Reply
read_after o = option_map (λ t. (does 0 t (Readdir (path "/a"))).1) (finmap.get (happens_all o.0 (Ask (Rmtree (path "/a")) 0 ∷ [])).0.snapshots (codes "s"))

pub snapshot_is_read : SnapshotIsRead
unfolding does changed
snapshot_is_read = ap read_after (takes_first kept_tree (codes "s")) ∙ ap (option_map (λ t. (does 0 t (Readdir (path "/a"))).1)) (get_itself finmap.empty (codes "s") kept_tree)

-- ---- 64 snapshots and more
-- what is answered where 64 snapshots stand, a among them, and neither b nor z
last_answers : (t : Tree) (m : Kept) (a b z : Name) → finmap.len m ≡ 64 → is_some (finmap.get m a) ≡ true → is_some (finmap.get m b) ≡ false → is_some (finmap.get m z) ≡ false → same z a ≡ false
    → (happens_all (world t m) (TakeSnapshot b ∷ TakeSnapshot a ∷ DropSnapshot a ∷ TakeSnapshot a ∷ DropSnapshot z ∷ [])).1 ≡ Settled (Err ENOSPC) ∷ Settled (Err EEXIST) ∷ Settled (Ok tt) ∷ Settled (Ok tt) ∷ Settled (Err ENOENT) ∷ []
last_answers t m a b z l old new none apart =
    let gone : is_some (finmap.get (finmap.remove m a) a) ≡ false = ap is_some (finmap.get-remove nat_list_cmp_total m a a ∙ ap (λ (x : Bool). cond x None (finmap.get m a)) (same_itself a)) in
    let fewer : finmap.len (finmap.remove m a) ≡ 63 = finmap.len-remove nat_list_cmp_total m a ∙ ap (λ (x : Bool). cond x (finmap.len m - 1) (finmap.len m)) old ∙ ap (λ (x : ℕ). x - 1) l in
    let absent : is_some (finmap.get (finmap.insert (finmap.remove m a) a t) z) ≡ false =
    ap is_some (finmap.get-insert nat_list_cmp_total (finmap.remove m a) a t z
    ∙ ap (λ (x : Bool). cond x (Some t) (finmap.get (finmap.remove m a) z)) apart
    ∙ finmap.get-remove nat_list_cmp_total m a z
    ∙ ap (λ (x : Bool). cond x None (finmap.get m z)) apart) ∙ none in
    ap (λ (o : World × Snapped). settled_first o (TakeSnapshot a ∷ DropSnapshot a ∷ TakeSnapshot a ∷ DropSnapshot z ∷ [])) (takes_no_more t m b new (ap (nat_le 64) l))
    ∙ ap (λ (o : World × Snapped). Settled (Err ENOSPC) ∷ settled_first o (DropSnapshot a ∷ TakeSnapshot a ∷ DropSnapshot z ∷ [])) (takes_no_name_twice t m a old)
    ∙ ap (λ (o : World × Snapped). Settled (Err ENOSPC) ∷ Settled (Err EEXIST) ∷ settled_first o (TakeSnapshot a ∷ DropSnapshot z ∷ [])) (drops t m a old)
    ∙ ap (λ (o : World × Snapped). Settled (Err ENOSPC) ∷ Settled (Err EEXIST) ∷ Settled (Ok tt) ∷ settled_first o (DropSnapshot z ∷ [])) (takes t (finmap.remove m a) a gone (ap (nat_le 64) fewer))
    ∙ ap (λ (o : World × Snapped). Settled (Err ENOSPC) ∷ Settled (Err EEXIST) ∷ Settled (Ok tt) ∷ Settled (Ok tt) ∷ settled_first o []) (drops_none t (finmap.insert (finmap.remove m a) a t) z absent)

all_new : have_room (Dir 0 nothing) [] sixty_four_names ≡ true
all_new = refl

-- the row's snapshots once 64 are taken
all_taken : Snapshots
all_taken = with_all (Dir 0 nothing) [] sixty_four_names

length-all_taken : length all_taken ≡ 64
unfolding all_taken
length-all_taken = refl

has_first : is_some (finmap.find by_bytes (codes "s1") all_taken) ≡ true
unfolding all_taken
has_first = refl

lacks_more : is_some (finmap.find by_bytes (codes "s65") all_taken) ≡ false
unfolding all_taken
lacks_more = refl

lacks_other : is_some (finmap.find by_bytes (codes "zz") all_taken) ≡ false
unfolding all_taken
lacks_other = refl

pub snapshot_names : SnapshotNames
unfolding all_taken
snapshot_names =
    let none : finmap.len (kept []) ≡ 0 = finmap.len-empty by_bytes Tree in
    let events : List Event = TakeSnapshot (codes "s65") ∷ TakeSnapshot (codes "s1") ∷ DropSnapshot (codes "s1") ∷ TakeSnapshot (codes "s1") ∷ DropSnapshot (codes "zz") ∷ [] in
    takes_all (Dir 0 nothing) [] sixty_four_names events none all_new
    ∙ ap (λ (r : List Answer). map (λ n. Settled (Ok tt)) sixty_four_names ++ r)
    (last_answers (Dir 0 nothing) (kept all_taken) (codes "s1") (codes "s65") (codes "zz")
    (len_with_all (Dir 0 nothing) [] sixty_four_names none all_new ∙ length-all_taken)
    (is_kept all_taken (codes "s1") ∙ has_first) (is_kept all_taken (codes "s65") ∙ lacks_more) (is_kept all_taken (codes "zz") ∙ lacks_other) refl)
