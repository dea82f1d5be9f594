-- A block of a file that gets new bytes while the file keeps its mtime.
use Rattle.std.proofs.Common.{◌≡◌, ℕ, ◌+◌, ◌-◌, ◌*◌, ◌<◌, ◌≤◌, ◌^◌, min, [], ◌∷◌, List, length, take, drop, false, None, Option, Some, arith, refl, sym, ap, ◌∙◌, subst}
use Rattle.std.specs.Prelude.{nat_lt}
use Rattle.std.proofs.lemmas.Bool.{le-ltb}
use Rattle.reference.specs.Calls.{Outcome, greatest_file, is_directory, is_empty, path_fault, changed, does}
use Rattle.reference.specs.Reads.{Bytes, Seen, sight}
use Rattle.reference.specs.Shape.{IsTree}
use Rattle.reference.specs.Tree.{File, Found, Path, Tree, entry_at, over, sized}
use Rattle.reference.specs.declared.call.Call.TheVariants.{Read, Write}
use Rattle.reference.specs.declared.reply.Reply.TheVariants.{Count, Data}
use Rattle.reference.proofs.Contents.{length-sized}
use Rattle.reference.proofs.Points.{IsPoint}
use Rattle.reference.proofs.Rewrites.{Rewritten, write_becomes}
use Rattle.reference.proofs.Standing.{file_sighted}
use Rattle.edits.specs.Edits.{FitsBlock, block_at, rewritten}
use Rattle.edits.specs.declared.edit.Change.TheVariants.{Block}
use Rattle.edits.specs.declared.edit.Edit.{Edit}
use Rattle.edits.proofs.BlockFacts.{length-block}
use Rattle.edits.proofs.Ways.{CarriesOut, carries_done, done_from, edited_at}

some_bytes : (w : List ℕ) → 0 < length w → is_empty w ≡ false
some_bytes [] h = absurd (omega arith)
some_bytes (x ∷ w) h = refl

-- a write into a file that does not get too long
write_done : (at : ℕ) (t : Tree) (p : Path) (off date : ℕ) (w b : List ℕ) → entry_at t p ≡ Found (File date b) → 0 < length w → off + length w ≤ 2 ^ 40 → (changed at t (Write p off w)).1 ≡ Count (length w)
unfolding changed
write_done at t p off date w b is some few =
    let there : path_fault (entry_at t p) ≡ None = ap path_fault is in
    let file : is_directory (entry_at t p) ≡ false = ap is_directory is in
    let more : is_empty w ≡ false = some_bytes w some in
    let short : nat_lt greatest_file (off + length w) ≡ false = le-ltb greatest_file (off + length w) few in
    rw (there, file, more, short) refl

-- a write touches no directory
write_alone : (at : ℕ) (t : Tree) (p : Path) (off : ℕ) (w : List ℕ) → does at t (Write p off w) ≡ changed at t (Write p off w)
unfolding does
write_alone at t p off w = refl

-- a file that was rewritten at its own mtime
rewritten_seen : (t u : Tree) (p : Path) (i at : ℕ) (new b : List ℕ) → sight t p ≡ Some (Seen (Bytes b) at) → Rewritten at t u p (λ c. over c (4096 * i) (sized new (length (block_at i b)))) → IsPoint t u p (rewritten i new (sight t p))
rewritten_seen t u p i at new b seen r =
    let one : Some (Seen (Bytes b) at) ≡ Some (Seen (Bytes r.1) r.0) = sym seen ∙ r.2.before in
    let bytes : r.1 ≡ b = cc in
    subst (IsPoint t u p) (ap (λ (c : List ℕ). Some (Seen (Bytes (over c (4096 * i) (sized new (length (block_at i b))))) at)) bytes ∙ ap (rewritten i new) (sym seen)) r.2.point

-- a write of the new bytes, with zeros behind them, rewrites the block
pub write_carries : (t : Tree) (p : Path) (i at : ℕ) (old : Option (List ℕ)) (new b : List ℕ) → IsTree t → sight t p ≡ Some (Seen (Bytes b) at) → FitsBlock i old new b
    → CarriesOut (record { path = p; change = Block i old new }) t (does at t (Write p (4096 * i) (sized new (length (block_at i b)))))
write_carries t p i at old new b is seen fits =
    carries_done e t o.0 (Count (length w)) o whole refl
    (λ tree. edited_at e t o.0 (rewritten i new (sight t p)) tree (b, at, seen, fits) refl (rewritten_seen t o.0 p i at new b seen (write_becomes at t o.0 p off w is (some_bytes w some) (sym alone ∙ whole))))
  where
    e : Edit
    e = record { path = p; change = Block i old new }

    off : ℕ
    off = 4096 * i

    w : List ℕ
    w = sized new (length (block_at i b))

    o : Outcome
    o = does at t (Write p off w)

    alone : ◌≡◌ {A = Outcome} (does at t (Write p off w)) (changed at t (Write p off w))
    alone = write_alone at t p off w

    there : entry_at t p ≡ Found (File at b)
    there = file_sighted (entry_at t p) b at seen

    size : length w ≡ min 4096 (length b - 4096 * i)
    size = length-sized new (length (block_at i b)) ∙ length-block i b

    some : 0 < length w
    some = omega (arith, size, fits.inside)

    few : off + length w ≤ 2 ^ 40
    few = let short : length b ≤ 2 ^ 40 = (is.files p at b there).few in omega (arith, size, fits.inside, short)

    whole : ◌≡◌ {A = Outcome} o (o.0, Count (length w))
    whole = done_from o (Count (length w)) (ap (λ (z : Outcome). z.1) alone ∙ write_done at t p off at w b there some few)

-- ---- the block as it is

-- a file is read where no more bytes are asked for than may be
pub block_read : (at : ℕ) (t : Tree) (p : Path) (off date : ℕ) (b : List ℕ) → sight t p ≡ Some (Seen (Bytes b) date) → (does at t (Read p off 4096)).1 ≡ Data (take 4096 (drop off b))
unfolding does changed
block_read at t p off date b seen =
    let there : entry_at t p ≡ Found (File date b) = file_sighted (entry_at t p) b date seen in
    rw there refl
