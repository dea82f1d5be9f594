-- Entries that come and go and hold nothing: `mkdir`, `create`, `rmdir` and `unlink` on the two indexes.
use Rattle.std.proofs.Common.{◌≡◌, ◌≢◌, ◌<◌, ℕ, List, [], false, sym, ap, refl, ◌∙◌, subst, Option, Some, None}
use Rattle.std.specs.Prelude.{option_map}
use Rattle.reference.specs.Tree.{Path, Tree, Dir, File, nothing, entry, At, Found, Missing, Blocked, entry_at, edited}
use Rattle.reference.specs.Calls.{Outcome, is_found, is_file, is_full, path_fault, made, changed}
use Rattle.reference.specs.Shape.{IsTree}
use Rattle.reference.specs.Reads.{Directory, Bytes, Sight, Seen, look_of, sighted}
use Rattle.pathkey.specs.Names.{IsPath}
use Rattle.pathkey.specs.Keys.{enc, block_key, blocks_from}
use Rattle.reference.specs.Indexes.{Metadata, Blocks, MetaMeans, most_blocks, Hold, BlocksMean, put_at, deleted_at, cleared}
use Rattle.reference.specs.declared.call.Call.TheVariants.{Mkdir, Create, Unlink, Rmdir}
use Rattle.reference.specs.declared.reply.Reply.TheVariants.{Done}
use Rattle.reference.specs.declared.reply.Meta.TheVariants.{Dir as DirMeta, File as FileMeta}
use Rattle.reference.proofs.Edits.{look_sighted, unseen}
use Rattle.reference.proofs.Standing.{parent_from_found}
use Rattle.reference.proofs.CallCases.{made_cases, directory_removed_cases, unlinked_cases}
use Rattle.reference.proofs.CallAnswers.{Gives, not_done}
use Rattle.reference.proofs.TreeEdits.{not_root_there}
use Rattle.reference.proofs.Points.{Bare, bare_none, bare_empty, bare_file, Became, file_from, point_from_edit}
use Rattle.reference.proofs.PointIndexes.{meta_at_point, blocks_at_point, no_bytes, no_blocks, unchanged}
use Rattle.reference.proofs.BlockRanges.{blocks_cleared}

-- ---- what the calls change in the tree
-- where nothing stands nothing is seen
pub nothing_seen : (a : At) → is_found a ≡ false → sighted a ≡ None
nothing_seen (Found x) h = absurd (cc)
nothing_seen Missing h = refl
nothing_seen Blocked h = refl

-- a new entry that holds nothing is seen where nothing was
pub made_becomes : (t t' : Tree) (p : Path) (x : Tree) → Bare (Found x) → made t p x ≡ (t', Done) → Became t t' p None (sighted (Found x))
made_becomes t t' p x bare = made_cases (Gives t' Done (Became t t' p None (sighted (Found x)))) t p x (not_done t t' (Became t t' p None (sighted (Found x)))) (λ ne parent_is none e. record {
  before = nothing_seen (entry_at t p) none;
  point = point_from_edit t t' p (Some x) ne parent_is (bare_none (entry_at t p) none) bare (ap (λ (o : Outcome). o.0) e);
})

-- what is no file and not full is an empty directory
empty_from : (a : At) → path_fault a ≡ None → is_file a ≡ false → is_full a ≡ false → (date : ℕ) × (a ≡ Found (Dir date nothing))
empty_from (Found (Dir date nothing)) h g f = (date, refl)
empty_from (Found (Dir date (entry n x es))) h g f = absurd (cc)
empty_from (Found (File date b)) h g f = absurd (cc)
empty_from Missing h g f = absurd (cc)
empty_from Blocked h g f = absurd (cc)

-- what holds nothing was taken out
out_becomes : (t t' : Tree) (p : Path) (a : At) → p ≢ [] → path_fault (entry_at t p) ≡ None → entry_at t p ≡ a → Bare a → edited t p None ≡ t' → Became t t' p (sighted a) None
out_becomes t t' p a ne stands is bare e = record {
  before = ap sighted is;
  point = point_from_edit t t' p None ne (parent_from_found p t ne stands) (subst (λ (x : At). Bare x) (sym is) bare) (bare_none Missing refl) e;
}

-- an empty directory goes
abbrev pub DirectoryGone : Tree → Tree → Path → Type 0
DirectoryGone t t' p = (date : ℕ) × Became t t' p (Some (Seen Directory date)) None

pub rmdir_becomes : (at : ℕ) (t t' : Tree) (p : Path) → ◌≡◌ {A = Outcome} (changed at t (Rmdir p)) (t', Done) → DirectoryGone t t' p
unfolding changed
rmdir_becomes at t t' p = directory_removed_cases (Gives t' Done (DirectoryGone t t' p)) t p (not_done t t' (DirectoryGone t t' p)) (λ ne there no_file not_full e.
    let f : (date : ℕ) × (entry_at t p ≡ Found (Dir date nothing)) = empty_from (entry_at t p) there no_file not_full in
    (f.0, out_becomes t t' p (Found (Dir f.0 nothing)) ne there f.1 (bare_empty f.0) (ap (λ (o : Outcome). o.0) e)))

-- a file goes
abbrev pub FileGone : Tree → Tree → Path → Type 0
FileGone t t' p = (date : ℕ) × (b : List ℕ) × Became t t' p (Some (Seen (Bytes b) date)) None

pub unlink_becomes : (at : ℕ) (t t' : Tree) (p : Path) → IsTree t → ◌≡◌ {A = Outcome} (changed at t (Unlink p)) (t', Done) → FileGone t t' p
unfolding changed
unlink_becomes at t t' p is = unlinked_cases (Gives t' Done (FileGone t t' p)) t p (not_done t t' (FileGone t t' p)) (λ there file e.
    let f : (date : ℕ) × (b : List ℕ) × (entry_at t p ≡ Found (File date b)) = file_from (entry_at t p) there file in
    (f.0, f.1, out_becomes t t' p (Found (File f.0 f.1)) (not_root_there t p is file) there f.2 (bare_file f.0 f.1) (ap (λ (o : Outcome). o.0) e)))

-- ---- the metadata index
-- a directory is put
pub mkdir_meta : (at : ℕ) (t t' : Tree) (p : Path) (m : Metadata) → MetaMeans t m → IsPath p → ◌≡◌ {A = Outcome} (changed at t (Mkdir p)) (t', Done) → MetaMeans t' (put_at (enc p) (DirMeta at) m)
unfolding changed
mkdir_meta at t t' p m old is_path e = meta_at_point t t' p (Some (Seen Directory at)) (λ o. Some (DirMeta at)) m is_path (made_becomes t t' p (Dir at nothing) (bare_empty at) e).point refl old

-- a file of length 0 is put
pub create_meta : (at : ℕ) (t t' : Tree) (p : Path) (m : Metadata) → MetaMeans t m → IsPath p → ◌≡◌ {A = Outcome} (changed at t (Create p)) (t', Done) → MetaMeans t' (put_at (enc p) (FileMeta 0 at) m)
unfolding changed
create_meta at t t' p m old is_path e = meta_at_point t t' p (Some (Seen (Bytes []) at)) (λ o. Some (FileMeta 0 at)) m is_path (made_becomes t t' p (File at []) (bare_file at []) e).point refl old

-- the metadata of what is taken out go
pub rmdir_meta : (at : ℕ) (t t' : Tree) (p : Path) (m : Metadata) → MetaMeans t m → IsPath p → ◌≡◌ {A = Outcome} (changed at t (Rmdir p)) (t', Done) → MetaMeans t' (deleted_at (enc p) m)
rmdir_meta at t t' p m old is_path e = meta_at_point t t' p None (λ o. None) m is_path (rmdir_becomes at t t' p e).1.point refl old

-- of a file too
pub unlink_meta : (at : ℕ) (t t' : Tree) (p : Path) (m : Metadata) → IsTree t → MetaMeans t m → IsPath p → ◌≡◌ {A = Outcome} (changed at t (Unlink p)) (t', Done) → MetaMeans t' (deleted_at (enc p) m)
unlink_meta at t t' p m tree old is_path e = meta_at_point t t' p None (λ o. None) m is_path (unlink_becomes at t t' p tree e).2.point refl old

-- ---- the block index
-- where neither before nor after a file stands at the path, the blocks stay
pub no_file_blocks : (t t' : Tree) (p : Path) (old new : Option Sight) (d : Blocks) → ((b : List ℕ) → option_map look_of old ≡ Some (Bytes b) → ⊥) → ((b : List ℕ) → option_map look_of new ≡ Some (Bytes b) → ⊥) → BlocksMean t d → IsPath p → Became t t' p old new → BlocksMean t' d
no_file_blocks t t' p old new d was now means is_path b = blocks_at_point t t' p new (λ i o. o) d d is_path b.point (unchanged p d)
    (record {
      hold = λ x e. absurd (now x e);
      file = λ i v li e. absurd (no_blocks t p d is_path (λ x f. was x (ap (option_map look_of) (sym b.before) ∙ sym (look_sighted t p) ∙ f)) means i v li e);
    })
    means

-- a directory comes without blocks
pub mkdir_blocks : (at : ℕ) (t t' : Tree) (p : Path) (d : Blocks) → BlocksMean t d → IsPath p → ◌≡◌ {A = Outcome} (changed at t (Mkdir p)) (t', Done) → BlocksMean t' d
unfolding changed
mkdir_blocks at t t' p d means is_path e = no_file_blocks t t' p None (Some (Seen Directory at)) d (λ b. (λ f. cc)) (λ b. (λ f. cc)) means is_path (made_becomes t t' p (Dir at nothing) (bare_empty at) e)

-- and goes without
pub rmdir_blocks : (at : ℕ) (t t' : Tree) (p : Path) (d : Blocks) → BlocksMean t d → IsPath p → ◌≡◌ {A = Outcome} (changed at t (Rmdir p)) (t', Done) → BlocksMean t' d
rmdir_blocks at t t' p d means is_path e =
    let gone : DirectoryGone t t' p = rmdir_becomes at t t' p e in
    no_file_blocks t t' p (Some (Seen Directory gone.0)) None d (λ b. (λ f. cc)) (λ b. (λ f. cc)) means is_path gone.1

-- a new file has no bytes and so no blocks
pub create_blocks : (at : ℕ) (t t' : Tree) (p : Path) (d : Blocks) → BlocksMean t d → IsPath p → ◌≡◌ {A = Outcome} (changed at t (Create p)) (t', Done) → BlocksMean t' d
unfolding changed
create_blocks at t t' p d means is_path e =
    blocks_at_point t t' p (Some (Seen (Bytes []) at)) (λ i o. o) d d is_path b.point (unchanged p d) (record { hold = λ x f. let is : [] ≡ x = cc in subst (λ (y : List ℕ). Hold (λ i. d (block_key p i)) y) is none; file = λ i v li f. ([], refl) }) means
  where
    b : Became t t' p None (Some (Seen (Bytes []) at))
    b = made_becomes t t' p (File at []) (bare_file at []) e

    absent : (i : ℕ) (o : Option (List ℕ)) → i < most_blocks → d (block_key p i) ≡ o → o ≡ None
    absent i None li f = refl
    absent i (Some v) li f = absurd (no_blocks t p d is_path (λ x g. let z : None ≡ Some (Bytes x) = sym (unseen t p b.before) ∙ g in cc) means i v li f)

    none : Hold (λ i. d (block_key p i)) []
    none = no_bytes (λ i. d (block_key p i)) (λ i li. absent i (d (block_key p i)) li refl)

-- the blocks of a file that is taken out go
pub unlink_blocks : (at : ℕ) (t t' : Tree) (p : Path) (d : Blocks) → IsTree t → BlocksMean t d → IsPath p → ◌≡◌ {A = Outcome} (changed at t (Unlink p)) (t', Done) → BlocksMean t' (cleared (blocks_from p 0) d)
unlink_blocks at t t' p d tree means is_path e =
    blocks_at_point t t' p None (λ i o. None) d (cleared (blocks_from p 0) d) is_path (unlink_becomes at t t' p tree e).2.point (blocks_cleared t p d is_path means) (record { hold = λ b f. absurd (cc); file = λ i v li f. absurd (cc) }) means
