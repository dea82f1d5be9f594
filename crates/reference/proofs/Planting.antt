-- An entry that is planted, or the root's moment, on the two indexes.
use Rattle.std.proofs.Common.{◌≡◌, ◌≢◌, ℕ, zero, suc, ◌-◌, ◌<◌, ◌≤◌, List, [], ◌∷◌, length, replicate, false, sym, ap, subst, refl, ◌∙◌, Option, Some, None, arith}
use Rattle.std.proofs.lemmas.Bool.{ltb-false}
use Rattle.std.proofs.lemmas.List.{length-replicate}
use Rattle.pathkey.specs.Keys.{enc, block_key}
use Rattle.pathkey.specs.Names.{Name, IsPath}
use Rattle.pathkey.specs.declared.errno.Errno.{Errno}
use Rattle.pathkey.specs.declared.errno.Errno.TheVariants.{EEXIST, EFBIG}
use Rattle.reference.specs.Calls.{is_found, parent_fault, first_fault, when, greatest_file}
use Rattle.reference.specs.Indexes.{Metadata, Blocks, meta_of, Hold, BlocksMean, most_blocks, IndexesMean, put_at}
use Rattle.reference.specs.Reads.{Directory, Bytes, Seen, sighted, sight, redated}
use Rattle.reference.specs.Shape.{IsDirectory, IsMoment}
use Rattle.reference.specs.Plant.{is_too_long, faults_of_plant, PlantLaw}
use Rattle.reference.specs.Tree.{Path, Tree, Dir, File, nothing, Found, entry_at, edited, sized, dated}
use Rattle.reference.specs.declared.reply.Meta.{Meta}
use Rattle.reference.specs.declared.reply.Meta.TheVariants.{Dir as DirMeta, File as FileMeta}
use Rattle.reference.proofs.Contents.{zeros}
use Rattle.reference.proofs.Entries.{nothing_seen, no_file_blocks}
use Rattle.reference.proofs.Edits.{unseen, touched_look}
use Rattle.reference.proofs.FileBlocks.{lengthen_holds}
use Rattle.reference.proofs.NoFaults.{when_none}
use Rattle.reference.proofs.PointIndexes.{meta_at_point, blocks_at_point, blocks_alike, no_bytes, no_blocks, unchanged}
use Rattle.reference.proofs.Points.{Bare, bare_none, bare_empty, bare_file, Became, point_from_edit, point_from_touch}
use Rattle.reference.proofs.TreeEdits.{put_directory, put_file, touched_tree}

-- what stands ready where nothing keeps an entry from being planted
pub record MayPlant (t : Tree) (p : Path) (x : Meta) : Type 0 where
  pub some : p ≢ []
  pub parent_there : parent_fault t p ≡ None
  pub free : is_found (entry_at t p) ≡ false
  pub short : is_too_long x ≡ false

first_none : (o : Option Errno) (faults : List (Option Errno)) → first_fault (o ∷ faults) ≡ None → (o ≡ None) × (first_fault faults ≡ None)
first_none None faults h = (refl, h)
first_none (Some e) faults h = absurd (cc)

pub may_plant : (t : Tree) (n : Name) (q : Path) (x : Meta) → first_fault (faults_of_plant t (n ∷ q) x) ≡ None → MayPlant t (n ∷ q) x
may_plant t n q x h =
    let p : Path = n ∷ q in
    let found : Option Errno = when (is_found (entry_at t p)) EEXIST in
    let long : Option Errno = when (is_too_long x) EFBIG in
    let above : (parent_fault t p ≡ None) × (first_fault (found ∷ long ∷ []) ≡ None) = first_none (parent_fault t p) (found ∷ long ∷ []) h in
    let here : (found ≡ None) × (first_fault (long ∷ []) ≡ None) = first_none found (long ∷ []) above.1 in
    let len : (long ≡ None) × (first_fault [] ≡ None) = first_none long [] here.1 in
    record {
      some = λ e. cc;
      parent_there = above.0;
      free = when_none (is_found (entry_at t p)) EEXIST here.0;
      short = when_none (is_too_long x) EFBIG len.0;
    }

-- and nothing keeps it where all that stands ready
pub no_fault_to_plant : (t : Tree) (p : Path) (x : Meta) → MayPlant t p x → first_fault (faults_of_plant t p x) ≡ None
no_fault_to_plant t [] x h = absurd (h.some refl)
no_fault_to_plant t (n ∷ p) x h = rw (h.parent_there, h.free, h.short) refl

sized_none : (n : ℕ) → sized [] n ≡ replicate n 0
sized_none zero = refl
sized_none (suc n) = ap (λ (k : ℕ). replicate {A = ℕ} k 0) (let e : suc n - 0 ≡ suc n = omega arith in e)

becomes : (t : Tree) (p : Path) (x : Tree) (m : Meta) → MayPlant t p m → Bare (Found x) → Became t (edited t p (Some x)) p None (sighted (Found x))
becomes t p x m h bare = record {
  before = nothing_seen (entry_at t p) h.free;
  point = point_from_edit t (edited t p (Some x)) p (Some x) h.some h.parent_there (bare_none (entry_at t p) h.free) bare refl;
}

zeros_held : (t : Tree) (p : Path) (n date : ℕ) (d : Blocks) → IsPath p → BlocksMean t d → MayPlant t p (FileMeta n date) → BlocksMean (edited t p (Some (File date (replicate n 0)))) d
zeros_held t p n date d is_path means h =
    blocks_at_point t (edited t p (Some (File date (replicate n 0)))) p (Some (Seen (Bytes (replicate n 0)) date)) (λ i o. o) d d is_path b.point (unchanged p d)
    (record { hold = λ x f. let is : replicate n 0 ≡ x = cc in subst (λ (y : List ℕ). Hold (λ i. d (block_key p i)) y) is held; file = λ i v li f. (replicate n 0, refl) }) means
  where
    b : Became t (edited t p (Some (File date (replicate n 0)))) p None (Some (Seen (Bytes (replicate n 0)) date))
    b = becomes t p (File date (replicate n 0)) (FileMeta n date) h (bare_file date (replicate n 0))

    absent : (i : ℕ) (o : Option (List ℕ)) → i < most_blocks → d (block_key p i) ≡ o → o ≡ None
    absent i None li f = refl
    absent i (Some v) li f = absurd (no_blocks t p d is_path (λ x g. let z : None ≡ Some (Bytes x) = sym (unseen t p b.before) ∙ g in cc) means i v li f)

    held : Hold (λ i. d (block_key p i)) (replicate n 0)
    held = subst (λ (y : List ℕ). Hold (λ i. d (block_key p i)) y) (sized_none n) (lengthen_holds n (λ i. d (block_key p i)) [] (omega arith) (no_bytes (λ i. d (block_key p i)) (λ i li. absent i (d (block_key p i)) li refl)))

zeros_meta : (n date : ℕ) → FileMeta n date ≡ FileMeta (length (replicate {A = ℕ} n 0)) date
zeros_meta n date = ap (λ (l : ℕ). FileMeta l date) (sym (length-replicate n 0))

-- the root's moment that is put is one that is set
root_sighted : (at : ℕ) (t : Tree) → IsDirectory t → meta_of (redated at (sight t [])) ≡ Some (DirMeta at)
root_sighted at (Dir date es) h = refl
root_sighted at (File date b) h = absurd h

root_planted : (at : ℕ) (t : Tree) (m : Metadata) (d : Blocks) → IsMoment at → IndexesMean t m d → IsPath [] → IndexesMean (dated at t) (put_at (enc []) (DirMeta at) m) d
root_planted at t m d early means is_path = record {
  tree = touched_tree at t [] early means.tree;
  meta = meta_at_point t (dated at t) [] (redated at (sight t [])) (λ o. Some (DirMeta at)) m is_path (point_from_touch at t []) (sym (root_sighted at t means.tree.root)) means.meta;
  blocks = blocks_alike t (dated at t) d (touched_look at t []) means.blocks;
}

pub plant_law : PlantLaw
plant_law t [] (DirMeta at) m d early means is_path none = root_planted at t m d early means is_path
plant_law t [] (FileMeta n at) m d early means is_path none = absurd (cc)
plant_law t (k ∷ q) (DirMeta at) m d early means is_path none =
    let p : Path = k ∷ q in
    let h : MayPlant t p (DirMeta at) = may_plant t k q (DirMeta at) none in
    let b : Became t (edited t p (Some (Dir at nothing))) p None (Some (Seen Directory at)) = becomes t p (Dir at nothing) (DirMeta at) h (bare_empty at) in
    record {
      tree = put_directory t p at means.tree is_path early h.some h.parent_there;
      meta = meta_at_point t (edited t p (Some (Dir at nothing))) p (Some (Seen Directory at)) (λ o. Some (DirMeta at)) m is_path b.point refl means.meta;
      blocks = no_file_blocks t (edited t p (Some (Dir at nothing))) p None (Some (Seen Directory at)) d (λ b. (λ f. cc)) (λ b. (λ f. cc)) means.blocks is_path b;
    }
plant_law t (k ∷ q) (FileMeta n at) m d early means is_path none =
    let p : Path = k ∷ q in
    let h : MayPlant t p (FileMeta n at) = may_plant t k q (FileMeta n at) none in
    let few : n ≤ greatest_file = ltb-false greatest_file n h.short in
    let x : List ℕ = replicate n 0 in
    let b : Became t (edited t p (Some (File at x))) p None (Some (Seen (Bytes x) at)) = becomes t p (File at x) (FileMeta n at) h (bare_file at x) in
    let long : length x ≡ n = length-replicate n 0 in
    record {
      tree = put_file t p at x means.tree is_path early (record { few = omega arith; bytes = zeros n }) h.some h.parent_there;
      meta = meta_at_point t (edited t p (Some (File at x))) p (Some (Seen (Bytes x) at)) (λ o. Some (FileMeta n at)) m is_path b.point (ap Some (zeros_meta n at)) means.meta;
      blocks = zeros_held t p n at d is_path means.blocks h;
    }
