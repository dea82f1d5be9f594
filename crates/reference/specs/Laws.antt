-- Laws of the definitions: what an edit changes, what a call preserves, what is visible at the paths of a tree, and which
-- changes of two indexes mean which call.
use Rattle.std.specs.Prelude.{◌≡◌, ◌≢◌, ◌↔◌, ℕ, ◌+◌, ◌≤◌, false, length, List, [], ◌∷◌, ◌++◌, Option, Some, None, option_map, Contains}
use Rattle.pathkey.specs.Enc.{enc}
use Rattle.pathkey.specs.Names.{IsPath}
use Rattle.pathkey.specs.Keys.{subtree, blocks_from}
use Rattle.pathkey.specs.declared.errno.Errno.{Errno}
use Rattle.pathkey.specs.declared.errno.Errno.TheVariants.{ENOMEM}
use Rattle.reference.specs.Tree.{Name, Path, Tree, Dir, Entries, nothing, edited, touched, all_touched, Found, Missing, Blocked, found, named, entry_at}
use Rattle.reference.specs.Calls.{Outcome, same_path, is_empty, parent_fault, listing, changed, parents_of, does}
use Rattle.reference.specs.Shape.{IsMoment, Rising, IsTree, IsCall}
use Rattle.reference.specs.Image.{Version, Second, image, as_reported}
use Rattle.reference.specs.Reads.{Directory, Bytes, seen, look, kind_at, rest_of, look_of, sight, sight_after, sight_touched}
use Rattle.reference.specs.Indexes.{Metadata, Blocks, IndexesMean, put_at, deleted_at, cleared, edit_at, moved, grow, set_len, touch, touch_at, patched, cut_block, BlocksChange}
use Rattle.reference.specs.declared.call.Call.{Call}
use Rattle.reference.specs.declared.call.Call.TheVariants.{Mkdir, Create, Write, Truncate, Unlink, Rmdir, Rename, Rmtree, Read, Stat as AskStat, Readdir}
use Rattle.reference.specs.declared.reply.Reply.TheVariants.{Done, Count, Fault}
use Rattle.reference.specs.declared.reply.Kind.{Kind}
use Rattle.reference.specs.declared.reply.Meta.TheVariants.{Dir as DirMeta, File as FileMeta}

-- ---- edits

-- what is visible in a tree after one entry was added or removed, if its parent is a directory
abbrev pub EditLaw : Type 0
EditLaw = (t : Tree) (p : Path) (o : Option Tree) (q : Path) → p ≢ [] → parent_fault t p ≡ None → sight (edited t p o) q ≡ sight_after (rest_of p q) o (sight t q)

-- what is visible in a tree after the mtime was set at a path: that mtime there, and all else unchanged
abbrev pub TouchedLaw : Type 0
TouchedLaw = (at : ℕ) (t : Tree) (p q : Path) → sight (touched at t p) q ≡ sight_touched at (rest_of p q) (sight t q)

-- adding an entry keeps the names of each directory sorted
abbrev pub PutRisesLaw : Type 0
PutRisesLaw = (t : Tree) (p : Path) (x : Tree) → Rising x → Rising t → Rising (edited t p (Some x))

-- and so does removing an entry
abbrev pub OutRisesLaw : Type 0
OutRisesLaw = (t : Tree) (p : Path) → Rising t → Rising (edited t p None)

-- ---- calls

-- each of the eleven calls maps a directory tree to a directory tree
abbrev pub CallLaw : Type 0
CallLaw = (at : ℕ) (t : Tree) (c : Call) → IsMoment at → IsTree t → IsCall c → IsTree (does at t c).0

-- a call that fails changes nothing
abbrev pub FaultLaw : Type 0
FaultLaw = (at : ℕ) (t : Tree) (c : Call) (e : Errno) → (does at t c).1 ≡ Fault e → (does at t c).0 ≡ t

-- a call that reads, a write of no bytes, and a rename onto itself change nothing
abbrev pub ReadingLaw : Type 0
ReadingLaw = (at : ℕ) (t : Tree) (p : Path) (off n : ℕ) →
    ((does at t (Read p off n)).0 ≡ t) × ((does at t (AskStat p)).0 ≡ t) × ((does at t (Readdir p)).0 ≡ t) × ((does at t (Write p off [])).0 ≡ t) × ((does at t (Rename p p)).0 ≡ t)

-- the table of calls never returns ENOMEM: that comes only from an allocation that failed
abbrev pub NeverLacksLaw : Type 0
NeverLacksLaw = (at : ℕ) (t : Tree) (c : Call) → (does at t c).1 ≢ Fault ENOMEM

-- a call that succeeds changes the tree except for its directories' mtimes, and those become the time of the call
abbrev pub DoneLaw : Type 0
DoneLaw = (at : ℕ) (t t' : Tree) (c : Call) → ◌≡◌ {A = Outcome} (does at t c) (t', Done)
    → (u : Tree) × (◌≡◌ {A = Outcome} (changed at t c) (u, Done)) × (t' ≡ all_touched at u (parents_of c))

-- ---- what is visible

-- two sorted trees with the same entry visible at each path, mtimes included, are equal
abbrev pub OneTreeLaw : Type 0
OneTreeLaw = (t u : Tree) → Rising t → Rising u → ((p : Path) → sight t p ≡ sight u p) → t ≡ u

-- what is visible apart from its mtime is visible
abbrev pub SightLaw : Type 0
SightLaw = (t : Tree) (p : Path) → look t p ≡ option_map look_of (sight t p)

-- below a file the way is blocked
abbrev pub BlockedLaw : Type 0
BlockedLaw = (t : Tree) (p : Path) (n : Name) (r : Path) (b : List ℕ) → look t p ≡ Some (Bytes b) → entry_at t (p ++ n ∷ r) ≡ Blocked

-- at a name that a directory lacks, and below it, there is no entry
abbrev pub MissingLaw : Type 0
MissingLaw = (t : Tree) (p : Path) (n : Name) (r : Path) → look t p ≡ Some Directory → look t (p ++ n ∷ []) ≡ None → entry_at t (p ++ n ∷ r) ≡ Missing

-- what is visible one name below a directory is its entry of that name
abbrev pub ChildLaw : Type 0
ChildLaw = (t : Tree) (p : Path) (date : ℕ) (es : Entries) (n : Name) → entry_at t p ≡ Found (Dir date es) → look t (p ++ n ∷ []) ≡ seen (found (named n es))

-- a directory lists exactly the names at which an entry is visible, each with its kind
abbrev pub ListingLaw : Type 0
ListingLaw = (t : Tree) (p : Path) (date : ℕ) (es : Entries) (k : Kind) (n : Name) → Rising t → entry_at t p ≡ Found (Dir date es) → Contains (listing es) (k, n) ↔ (kind_at t (p ++ n ∷ []) ≡ Some k)

-- ---- images

-- two directory trees with the same image are equal, as far as its version records them: in version 1 except for mtimes
abbrev pub OneImageLaw : Type 0
OneImageLaw = (v : Version) (t u : Tree) → IsTree t → IsTree u → image v t ≡ image v u → as_reported v t ≡ as_reported v u

-- version 2 records the whole tree
abbrev pub ReportedLaw : Type 0
ReportedLaw = (t : Tree) → as_reported Second t ≡ t

-- ---- indexes

-- two indexes mean at most one tree
abbrev pub OneMeaningLaw : Type 0
OneMeaningLaw = (t u : Tree) (m : Metadata) (d : Blocks) → IndexesMean t m d → IndexesMean u m d → t ≡ u

-- the root's metadata alone, and no block, mean the empty tree
abbrev pub FreshLaw : Type 0
FreshLaw = IndexesMean (Dir 0 nothing) (put_at (enc []) (DirMeta 0) (λ k. None)) (λ k. None)

-- if two indexes mean a tree, an mtime set in the metadata is one set in the tree
abbrev pub TouchLaw : Type 0
TouchLaw = (at : ℕ) (t : Tree) (p : Path) (m : Metadata) (d : Blocks) → IsMoment at → IndexesMean t m d → IsPath p → IndexesMean (touched at t p) (edit_at (enc p) (touch at) m) d

-- if two indexes mean a tree, these changes of them mean these calls when they succeed: the change of the call itself, and then
-- the mtimes of its directories
abbrev pub MkdirLaw : Type 0
MkdirLaw = (at : ℕ) (t t' : Tree) (p : Path) (m : Metadata) (d : Blocks) → IsMoment at → IndexesMean t m d → IsCall (Mkdir p) → ◌≡◌ {A = Outcome} (does at t (Mkdir p)) (t', Done)
    → IndexesMean t' (touch_at at (parents_of (Mkdir p)) (put_at (enc p) (DirMeta at) m)) d

abbrev pub CreateLaw : Type 0
CreateLaw = (at : ℕ) (t t' : Tree) (p : Path) (m : Metadata) (d : Blocks) → IsMoment at → IndexesMean t m d → IsCall (Create p) → ◌≡◌ {A = Outcome} (does at t (Create p)) (t', Done)
    → IndexesMean t' (touch_at at (parents_of (Create p)) (put_at (enc p) (FileMeta 0 at) m)) d

abbrev pub WriteLaw : Type 0
WriteLaw = (at : ℕ) (t t' : Tree) (p : Path) (off : ℕ) (w : List ℕ) (m : Metadata) (d d' : Blocks) → IsMoment at → IndexesMean t m d → IsCall (Write p off w) → is_empty w ≡ false → BlocksChange (patched off w) p d d'
    → ◌≡◌ {A = Outcome} (does at t (Write p off w)) (t', Count (length w)) → IndexesMean t' (edit_at (enc p) (grow (off + length w) at) m) d'

abbrev pub TruncateLaw : Type 0
TruncateLaw = (at : ℕ) (t t' : Tree) (p : Path) (n : ℕ) (m : Metadata) (d d' : Blocks) → IsMoment at → IndexesMean t m d → IsCall (Truncate p n) → BlocksChange (cut_block n) p d d'
    → ◌≡◌ {A = Outcome} (does at t (Truncate p n)) (t', Done) → IndexesMean t' (edit_at (enc p) (set_len n at) m) d'

-- extending a file changes no block
abbrev pub LengthenLaw : Type 0
LengthenLaw = (at : ℕ) (t t' : Tree) (p : Path) (n : ℕ) (b : List ℕ) (m : Metadata) (d : Blocks) → IsMoment at → IndexesMean t m d → IsCall (Truncate p n) → look t p ≡ Some (Bytes b) → length b ≤ n
    → ◌≡◌ {A = Outcome} (does at t (Truncate p n)) (t', Done) → IndexesMean t' (edit_at (enc p) (set_len n at) m) d

abbrev pub UnlinkLaw : Type 0
UnlinkLaw = (at : ℕ) (t t' : Tree) (p : Path) (m : Metadata) (d : Blocks) → IsMoment at → IndexesMean t m d → IsCall (Unlink p) → ◌≡◌ {A = Outcome} (does at t (Unlink p)) (t', Done)
    → IndexesMean t' (touch_at at (parents_of (Unlink p)) (deleted_at (enc p) m)) (cleared (blocks_from p 0) d)

abbrev pub RmdirLaw : Type 0
RmdirLaw = (at : ℕ) (t t' : Tree) (p : Path) (m : Metadata) (d : Blocks) → IsMoment at → IndexesMean t m d → IsCall (Rmdir p) → ◌≡◌ {A = Outcome} (does at t (Rmdir p)) (t', Done)
    → IndexesMean t' (touch_at at (parents_of (Rmdir p)) (deleted_at (enc p) m)) d

abbrev pub RmtreeLaw : Type 0
RmtreeLaw = (at : ℕ) (t t' : Tree) (p : Path) (m : Metadata) (d : Blocks) → IsMoment at → IndexesMean t m d → IsCall (Rmtree p) → ◌≡◌ {A = Outcome} (does at t (Rmtree p)) (t', Done)
    → IndexesMean t' (touch_at at (parents_of (Rmtree p)) (cleared (subtree p) m)) (cleared (subtree p) d)

abbrev pub RenameLaw : Type 0
RenameLaw = (at : ℕ) (t t' : Tree) (o n : Path) (m : Metadata) (d : Blocks) → IsMoment at → IndexesMean t m d → IsCall (Rename o n) → same_path o n ≡ false → ◌≡◌ {A = Outcome} (does at t (Rename o n)) (t', Done)
    → IndexesMean t' (touch_at at (parents_of (Rename o n)) (moved o n m)) (moved o n d)
