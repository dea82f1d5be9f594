-- Files that get new bytes: `write` and `truncate` on the two indexes.
use Rattle.std.proofs.Common.{◌≡◌, ◌≢◌, ◌+◌, ◌≤◌, ℕ, List, [], true, false, length, sym, ap, refl, ◌∙◌, subst, Option, Some, None}
use Rattle.reference.specs.Tree.{Path, Tree, File, At, Found, entry_at, edited, over, sized}
use Rattle.reference.specs.Calls.{Outcome, is_directory, is_empty, bytes_of, path_fault, changed}
use Rattle.reference.specs.Shape.{IsTree}
use Rattle.reference.specs.Reads.{Bytes, look, Sight, Seen, sighted}
use Rattle.pathkey.specs.Names.{IsPath}
use Rattle.pathkey.specs.Keys.{enc, block_key}
use Rattle.reference.specs.Indexes.{Metadata, Blocks, meta_of, MetaMeans, Hold, BlocksMean, edit_at, grow, set_len, patched, cut_block, BlocksChange}
use Rattle.reference.specs.declared.call.Call.TheVariants.{Write, Truncate}
use Rattle.reference.specs.declared.reply.Reply.TheVariants.{Done, Count}
use Rattle.reference.specs.declared.reply.Meta.{Meta}
use Rattle.reference.specs.declared.reply.Meta.TheVariants.{File as FileMeta}
use Rattle.reference.proofs.Edits.{look_from}
use Rattle.reference.proofs.Standing.{parent_from_found}
use Rattle.reference.proofs.CallCases.{written_cases, truncated_cases}
use Rattle.reference.proofs.CallAnswers.{Gives, not_refused, not_done}
use Rattle.reference.proofs.TreeEdits.{not_root_there}
use Rattle.reference.proofs.Contents.{length-over, length-sized}
use Rattle.reference.proofs.Points.{Bare, bare_file, Became, file_from, point_from_edit}
use Rattle.reference.proofs.PointIndexes.{meta_at_point, blocks_at_point, unchanged}
use Rattle.reference.proofs.FileBlocks.{write_holds, cut_holds, lengthen_holds}

-- the bytes of a file at p became what f makes of them, and its moment became at
abbrev pub Rewritten : ℕ → Tree → Tree → Path → (List ℕ → List ℕ) → Type 0
Rewritten at t t' p f = (date : ℕ) × (b : List ℕ) × Became t t' p (Some (Seen (Bytes b) date)) (Some (Seen (Bytes (f b)) at))

-- ---- what the calls change in the tree
-- a file that is put where a file stood
rewritten : (at : ℕ) (t t' : Tree) (p : Path) (f : List ℕ → List ℕ) → IsTree t → path_fault (entry_at t p) ≡ None → is_directory (entry_at t p) ≡ false → edited t p (Some (File at (f (bytes_of (entry_at t p))))) ≡ t' → Rewritten at t t' p f
rewritten at t t' p f is there file e =
    let a : (date : ℕ) × (b : List ℕ) × (entry_at t p ≡ Found (File date b)) = file_from (entry_at t p) there file in
    let ne : p ≢ [] = not_root_there t p is file in (
      a.0,
      a.1,
      record {
        before = ap sighted a.2;
        point = point_from_edit t t' p (Some (File at (f a.1))) ne (parent_from_found p t ne there) (subst (λ (x : At). Bare x) (sym a.2) (bare_file a.0 a.1)) (bare_file at (f a.1)) (ap (λ (x : At). edited t p (Some (File at (f (bytes_of x))))) (sym a.2) ∙ e);
      },
    )

-- a write lays the bytes over those of the file
pub write_becomes : (at : ℕ) (t t' : Tree) (p : Path) (off : ℕ) (w : List ℕ) → IsTree t → is_empty w ≡ false → ◌≡◌ {A = Outcome} (changed at t (Write p off w)) (t', Count (length w)) → Rewritten at t t' p (λ b. over b off w)
unfolding changed
write_becomes at t t' p off w is some = written_cases (Gives t' (Count (length w)) (Rewritten at t t' p (λ b. over b off w))) at t p off w
    (not_refused t t' (Count (length w)) (Rewritten at t t' p (λ b. over b off w)) (λ x. (λ f. cc)))
    (λ none e. absurd (let f : true ≡ false = sym none ∙ some in cc))
    (λ there file more short e. rewritten at t t' p (λ b. over b off w) is there file (ap (λ (o : Outcome). o.0) e))

-- a truncate cuts or lengthens them
pub truncate_becomes : (at : ℕ) (t t' : Tree) (p : Path) (n : ℕ) → IsTree t → ◌≡◌ {A = Outcome} (changed at t (Truncate p n)) (t', Done) → Rewritten at t t' p (λ b. sized b n)
unfolding changed
truncate_becomes at t t' p n is = truncated_cases (Gives t' Done (Rewritten at t t' p (λ b. sized b n))) at t p n (not_done t t' (Rewritten at t t' p (λ b. sized b n)))
    (λ there file short e. rewritten at t t' p (λ b. sized b n) is there file (ap (λ (o : Outcome). o.0) e))

-- ---- the metadata index
-- a length that changes as the file's does
file_meta : (at : ℕ) (t t' : Tree) (p : Path) (f : List ℕ → List ℕ) (g : Option Meta → Option Meta) (m : Metadata) → ((b : List ℕ) (date : ℕ) → g (Some (FileMeta (length b) date)) ≡ Some (FileMeta (length (f b)) at)) → MetaMeans t m → IsPath p → Rewritten at t t' p f → MetaMeans t' (edit_at (enc p) g m)
file_meta at t t' p f g m fits old is_path r = meta_at_point t t' p (Some (Seen (Bytes (f r.1)) at)) g m is_path r.2.point (ap (λ (l : Option Sight). g (meta_of l)) r.2.before ∙ fits r.1 r.0) old

-- a write raises the length
pub write_meta : (at : ℕ) (t t' : Tree) (p : Path) (off : ℕ) (w : List ℕ) (m : Metadata) → IsTree t → MetaMeans t m → IsPath p → is_empty w ≡ false → ◌≡◌ {A = Outcome} (changed at t (Write p off w)) (t', Count (length w)) → MetaMeans t' (edit_at (enc p) (grow (off + length w) at) m)
write_meta at t t' p off w m tree old is_path some e = file_meta at t t' p (λ b. over b off w) (grow (off + length w) at) m (λ b date. ap (λ (l : ℕ). Some (FileMeta l at)) (sym (length-over b off w))) old is_path (write_becomes at t t' p off w tree some e)

-- a truncate sets it
pub truncate_meta : (at : ℕ) (t t' : Tree) (p : Path) (n : ℕ) (m : Metadata) → IsTree t → MetaMeans t m → IsPath p → ◌≡◌ {A = Outcome} (changed at t (Truncate p n)) (t', Done) → MetaMeans t' (edit_at (enc p) (set_len n at) m)
truncate_meta at t t' p n m tree old is_path e = file_meta at t t' p (λ b. sized b n) (set_len n at) m (λ b date. ap (λ (l : ℕ). Some (FileMeta l at)) (sym (length-sized b n))) old is_path (truncate_becomes at t t' p n tree e)

-- ---- the block index
-- blocks that change as the file's bytes do
file_blocks : (at : ℕ) (t t' : Tree) (p : Path) (f : List ℕ → List ℕ) (change : ℕ → Option (List ℕ) → Option (List ℕ)) (d d' : Blocks) → ((b : List ℕ) → look t p ≡ Some (Bytes b) → Hold (λ i. d (block_key p i)) b → Hold (λ i. change i (d (block_key p i))) (f b))
    → BlocksChange change p d d' → BlocksMean t d → IsPath p → Rewritten at t t' p f → BlocksMean t' d'
file_blocks at t t' p f change d d' holds new means is_path r =
    let was : look t p ≡ Some (Bytes r.1) = look_from t p (Seen (Bytes r.1) r.0) r.2.before in
    blocks_at_point t t' p (Some (Seen (Bytes (f r.1)) at)) change d d' is_path r.2.point new
    (record {
      hold = λ b e. let is : f r.1 ≡ b = cc in subst (λ (y : List ℕ). Hold (λ i. change i (d (block_key p i))) y) is (holds r.1 was (means.blocks p r.1 is_path was));
      file = λ i v li e. (f r.1, refl);
    })
    means

-- a write patches the blocks that it reaches
pub write_blocks : (at : ℕ) (t t' : Tree) (p : Path) (off : ℕ) (w : List ℕ) (d d' : Blocks) → IsTree t → BlocksMean t d → IsPath p → is_empty w ≡ false → BlocksChange (patched off w) p d d' → ◌≡◌ {A = Outcome} (changed at t (Write p off w)) (t', Count (length w)) → BlocksMean t' d'
write_blocks at t t' p off w d d' tree means is_path some new e =
    file_blocks at t t' p (λ b. over b off w) (patched off w) d d' (λ b h hold. write_holds off w (λ i. d (block_key p i)) b hold) new means is_path (write_becomes at t t' p off w tree some e)

-- a truncate cuts the blocks
pub truncate_blocks : (at : ℕ) (t t' : Tree) (p : Path) (n : ℕ) (d d' : Blocks) → IsTree t → BlocksMean t d → IsPath p → BlocksChange (cut_block n) p d d' → ◌≡◌ {A = Outcome} (changed at t (Truncate p n)) (t', Done) → BlocksMean t' d'
truncate_blocks at t t' p n d d' tree means is_path new e =
    file_blocks at t t' p (λ b. sized b n) (cut_block n) d d' (λ b h hold. cut_holds n (λ i. d (block_key p i)) b hold) new means is_path (truncate_becomes at t t' p n tree e)

-- to lengthen a file changes no block
pub lengthen_blocks : (at : ℕ) (t t' : Tree) (p : Path) (n : ℕ) (b : List ℕ) (d : Blocks) → IsTree t → BlocksMean t d → IsPath p → look t p ≡ Some (Bytes b) → length b ≤ n → ◌≡◌ {A = Outcome} (changed at t (Truncate p n)) (t', Done) → BlocksMean t' d
lengthen_blocks at t t' p n b d tree means is_path file longer e =
    file_blocks at t t' p (λ b. sized b n) (λ i o. o) d d
    (λ c h hold. let is : b ≡ c = (let g : Some (Bytes b) ≡ Some (Bytes c) = sym file ∙ h in cc) in lengthen_holds n (λ i. d (block_key p i)) c (subst (λ (y : List ℕ). length y ≤ n) is longer) hold)
    (unchanged p d) means is_path (truncate_becomes at t t' p n tree e)
