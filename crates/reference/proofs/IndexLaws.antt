-- Which changes of two indexes mean which call: both halves, and the tree after the call.
use Rattle.std.proofs.Common.{◌≡◌, ◌≤◌, ℕ, List, [], ◌∷◌, length, true, false, cond, sym, ap, refl, subst, arith, Option, Some, None}
use Rattle.pathkey.specs.Names.{IsPath, text_len}
use Rattle.pathkey.specs.Keys.{enc, subtree, blocks_from}
use Rattle.pathkey.proofs.PathFacts.{parent_names, parent_len}
use Rattle.reference.specs.Tree.{Path, Tree, touched, all_touched}
use Rattle.reference.specs.Calls.{Outcome, parent, same_path, once, parents_of, changed, does}
use Rattle.reference.specs.Shape.{IsMoment, IsTree, IsCall}
use Rattle.reference.specs.Reads.{Directory, Bytes, Sight, Seen, sight, redated}
use Rattle.reference.specs.Indexes.{Metadata, Blocks, IndexesMean, meta_of, put_at, deleted_at, cleared, edit_at, moved, touch, touch_at}
use Rattle.reference.specs.Laws.{TouchLaw, MkdirLaw, CreateLaw, WriteLaw, TruncateLaw, LengthenLaw, UnlinkLaw, RmdirLaw, RmtreeLaw, RenameLaw}
use Rattle.reference.specs.declared.call.Call.{Call}
use Rattle.reference.specs.declared.call.Call.TheVariants.{Mkdir, Create, Write, Truncate, Unlink, Rmdir, Rename, Rmtree}
use Rattle.reference.specs.declared.reply.Reply.{Reply}
use Rattle.reference.specs.declared.reply.Reply.TheVariants.{Done, Count}
use Rattle.reference.specs.declared.reply.Meta.TheVariants.{Dir as DirMeta, File as FileMeta}
use Rattle.reference.proofs.CallTrees.{changed_tree}
use Rattle.reference.proofs.Edits.{touched_look}
use Rattle.reference.proofs.Entries.{mkdir_meta, mkdir_blocks, create_meta, create_blocks, unlink_meta, unlink_blocks, rmdir_meta, rmdir_blocks}
use Rattle.reference.proofs.MovedKeys.{moved_meta, moved_blocks}
use Rattle.reference.proofs.PointIndexes.{meta_at_point, blocks_alike}
use Rattle.reference.proofs.Points.{point_from_touch}
use Rattle.reference.proofs.Removal.{rmtree_meta, rmtree_blocks}
use Rattle.reference.proofs.RenameLooks.{IsMoved, rename_moves}
use Rattle.reference.proofs.Rewrites.{write_meta, write_blocks, truncate_meta, truncate_blocks, lengthen_blocks}
use Rattle.reference.proofs.Touching.{done_law}
use Rattle.reference.proofs.TreeEdits.{touched_tree}

-- a call's change makes a directory tree
tree_after : (at : ℕ) (t u : Tree) (c : Call) (r : Reply) → IsMoment at → IsTree t → IsCall c → ◌≡◌ {A = Outcome} (changed at t c) (u, r) → IsTree u
tree_after at t u c r early is ok e = subst IsTree (ap (λ (o : Outcome). o.0) e) (changed_tree at t c early is ok)

-- ---- a moment that is set
fits : (at : ℕ) (s : Option Sight) → touch at (meta_of s) ≡ meta_of (redated at s)
fits at None = refl
fits at (Some (Seen Directory date)) = refl
fits at (Some (Seen (Bytes b) date)) = refl

pub touch_law : TouchLaw
touch_law at t p m d early i path = record {
  tree = touched_tree at t p early i.tree;
  meta = meta_at_point t (touched at t p) p (redated at (sight t p)) (touch at) m path (point_from_touch at t p) (fits at (sight t p)) i.meta;
  blocks = blocks_alike t (touched at t p) d (touched_look at t p) i.blocks;
}

abbrev ArePaths : List Path → Type 0
ArePaths [] = Unit {0}
ArePaths (p ∷ ps) = IsPath p × ArePaths ps

touch_all : (at : ℕ) (ps : List Path) (t : Tree) (m : Metadata) (d : Blocks) → IsMoment at → ArePaths ps → IndexesMean t m d → IndexesMean (all_touched at t ps) (touch_at at ps m) d
touch_all at [] t m d early paths i = i
touch_all at (p ∷ ps) t m d early paths i = touch_all at ps (touched at t p) (edit_at (enc p) (touch at) m) d early paths.1 (touch_law at t p m d early i paths.0)

parent_is : (p : Path) → IsPath p → IsPath (parent p)
parent_is p h = record { names = parent_names p h.names; fits = let short : text_len (parent p) ≤ text_len p = parent_len p in let few : text_len p ≤ 1023 = h.fits in omega arith }

once_paths : (p q : Path) → IsPath p → IsPath q → ArePaths (once p q)
once_paths p q u v = elim (same_path p q) as (λ b. ArePaths (cond b (p ∷ []) (p ∷ q ∷ []))) [
  | true ↦ (u, tt)
  | false ↦ (u, (v, tt))
]

both_paths : (o n : Path) → IsPath o → IsPath n → ArePaths (cond (same_path o n) [] (once (parent o) (parent n)))
both_paths o n u v = elim (same_path o n) as (λ b. ArePaths (cond b [] (once (parent o) (parent n)))) [
  | true ↦ tt
  | false ↦ once_paths (parent o) (parent n) (parent_is o u) (parent_is n v)
]

-- what a call's change means, and then the moments of its directories
finish : (at : ℕ) (t t' : Tree) (c : Call) (m : Metadata) (d : Blocks) → IsMoment at → ArePaths (parents_of c) → ◌≡◌ {A = Outcome} (does at t c) (t', Done)
    → ((u : Tree) → ◌≡◌ {A = Outcome} (changed at t c) (u, Done) → IndexesMean u m d) → IndexesMean t' (touch_at at (parents_of c) m) d
finish at t t' c m d early paths e means =
    let done : (u : Tree) × (◌≡◌ {A = Outcome} (changed at t c) (u, Done)) × (t' ≡ all_touched at u (parents_of c)) = done_law at t t' c e in
    subst (λ (z : Tree). IndexesMean z (touch_at at (parents_of c) m) d) (sym done.2) (touch_all at (parents_of c) done.0 m d early paths (means done.0 done.1))

-- ---- calls that put or take out an entry
-- mkdir: the directory is put
pub mkdir_law : MkdirLaw
mkdir_law at t t' p m d early i ok e = finish at t t' (Mkdir p) (put_at (enc p) (DirMeta at) m) d early (parent_is p ok, tt) e (λ u f. record { tree = tree_after at t u (Mkdir p) Done early i.tree ok f; meta = mkdir_meta at t u p m i.meta ok f; blocks = mkdir_blocks at t u p d i.blocks ok f })

-- create: a file of length 0 is put
pub create_law : CreateLaw
create_law at t t' p m d early i ok e = finish at t t' (Create p) (put_at (enc p) (FileMeta 0 at) m) d early (parent_is p ok, tt) e (λ u f. record { tree = tree_after at t u (Create p) Done early i.tree ok f; meta = create_meta at t u p m i.meta ok f; blocks = create_blocks at t u p d i.blocks ok f })

-- unlink: the file is deleted and its blocks are cleared
pub unlink_law : UnlinkLaw
unlink_law at t t' p m d early i ok e = finish at t t' (Unlink p) (deleted_at (enc p) m) (cleared (blocks_from p 0) d) early (parent_is p ok, tt) e (λ u f. record { tree = tree_after at t u (Unlink p) Done early i.tree ok f; meta = unlink_meta at t u p m i.tree i.meta ok f; blocks = unlink_blocks at t u p d i.tree i.blocks ok f })

-- rmdir: the directory is deleted
pub rmdir_law : RmdirLaw
rmdir_law at t t' p m d early i ok e = finish at t t' (Rmdir p) (deleted_at (enc p) m) d early (parent_is p ok, tt) e (λ u f. record { tree = tree_after at t u (Rmdir p) Done early i.tree ok f; meta = rmdir_meta at t u p m i.meta ok f; blocks = rmdir_blocks at t u p d i.blocks ok f })

-- rmtree: the subtree is cleared in both indexes
pub rmtree_law : RmtreeLaw
rmtree_law at t t' p m d early i ok e = finish at t t' (Rmtree p) (cleared (subtree p) m) (cleared (subtree p) d) early (parent_is p ok, tt) e (λ u f. record { tree = tree_after at t u (Rmtree p) Done early i.tree ok f; meta = rmtree_meta at t u p m i.meta ok f; blocks = rmtree_blocks at t u p d i.blocks ok f })

-- rename: the subtree is moved in both indexes
pub rename_law : RenameLaw
rename_law at t t' o n m d early i ok differ e = finish at t t' (Rename o n) (moved o n m) (moved o n d) early (both_paths o n ok.0 ok.1) e (λ u f.
    let is : IsMoved t u o n = rename_moves at t u o n differ f in
    record { tree = tree_after at t u (Rename o n) Done early i.tree ok f; meta = moved_meta t u o n i.tree ok.0 ok.1 is m i.meta; blocks = moved_blocks t u o n i.tree ok.0 ok.1 is d i.blocks })

-- ---- calls that change a file
-- write: the length is raised and the blocks are patched
pub write_law : WriteLaw
unfolding does
write_law at t t' p off w m d d' early i ok some new e = record { tree = tree_after at t t' (Write p off w) (Count (length w)) early i.tree ok e; meta = write_meta at t t' p off w m i.tree i.meta ok.0 some e; blocks = write_blocks at t t' p off w d d' i.tree i.blocks ok.0 some new e }

-- truncate: the length is set and the blocks are cut
pub truncate_law : TruncateLaw
unfolding does
truncate_law at t t' p n m d d' early i ok new e = record { tree = tree_after at t t' (Truncate p n) Done early i.tree ok e; meta = truncate_meta at t t' p n m i.tree i.meta ok e; blocks = truncate_blocks at t t' p n d d' i.tree i.blocks ok new e }

-- truncate to no less than the length: the length is set
pub lengthen_law : LengthenLaw
unfolding does
lengthen_law at t t' p n b m d early i ok file longer e = record { tree = tree_after at t t' (Truncate p n) Done early i.tree ok e; meta = truncate_meta at t t' p n m i.tree i.meta ok e; blocks = lengthen_blocks at t t' p n b d i.tree i.blocks ok file longer e }
