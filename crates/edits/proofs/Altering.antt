-- An entry that gets other metadata: a directory another mtime, a file another length and mtime.
use Rattle.std.proofs.Common.{◌≡◌, ℕ, ◌≤◌, ◌^◌, [], ◌∷◌, List, length, false, None, Some, arith, refl, sym, ap, ◌∙◌}
use Rattle.std.specs.Prelude.{nat_lt}
use Rattle.std.proofs.lemmas.Bool.{le-ltb}
use Rattle.reference.specs.Calls.{Outcome, greatest_file, is_directory, path_fault, unless, changed, does}
use Rattle.reference.specs.Indexes.{meta_of}
use Rattle.reference.specs.Reads.{Bytes, Directory, Seen, redated, sight, sighted}
use Rattle.reference.specs.Shape.{IsContent, IsTree}
use Rattle.reference.specs.Tree.{At, Blocked, Dir, File, Found, Missing, Path, Tree, entry_at, sized, touched}
use Rattle.reference.specs.declared.call.Call.TheVariants.{Truncate}
use Rattle.reference.specs.declared.reply.Meta.TheVariants.{Dir as DirMeta, File as FileMeta}
use Rattle.reference.specs.declared.reply.Reply.TheVariants.{Done}
use Rattle.reference.proofs.CallCases.{truncated_cases}
use Rattle.reference.proofs.Contents.{length-sized}
use Rattle.reference.proofs.Points.{IsPoint, point_from_touch}
use Rattle.reference.proofs.Rewrites.{truncate_becomes}
use Rattle.reference.proofs.Standing.{file_sighted}
use Rattle.edits.specs.Edits.{IsEdited, altered}
use Rattle.edits.specs.declared.edit.Change.TheVariants.{Alter}
use Rattle.edits.specs.declared.edit.Edit.{Edit}
use Rattle.edits.proofs.Removing.{no_directory_from, there_from}
use Rattle.edits.proofs.Ways.{CarriesOut, carries_done, done_from, edited_at, is_fault}

-- ---- directories

redated_directory : (a : At) (date at : ℕ) → meta_of (sighted a) ≡ Some (DirMeta date) → redated at (sighted a) ≡ Some (Seen Directory at)
redated_directory (Found (Dir stamp es)) date at h = refl
redated_directory (Found (File stamp b)) date at h = absurd (cc)
redated_directory Missing date at h = absurd (cc)
redated_directory Blocked date at h = absurd (cc)

altered_directory : (a : At) (date at : ℕ) → meta_of (sighted a) ≡ Some (DirMeta date) → altered (DirMeta at) (sighted a) ≡ Some (Seen Directory at)
altered_directory (Found (Dir stamp es)) date at h = refl
altered_directory (Found (File stamp b)) date at h = absurd (cc)
altered_directory Missing date at h = absurd (cc)
altered_directory Blocked date at h = absurd (cc)

-- an mtime that is set alters the directory that is seen
pub mtime_carries : (at : ℕ) (t : Tree) (p : Path) (date : ℕ) → meta_of (sight t p) ≡ Some (DirMeta date) → CarriesOut (record { path = p; change = Alter (DirMeta date) (DirMeta at) }) t (unless t (path_fault (entry_at t p) ∷ []) (touched at t p, Done))
mtime_carries at t p date fits =
    let there : path_fault (entry_at t p) ≡ None = there_from (entry_at t p) (DirMeta date) fits in
    let point : IsPoint t (touched at t p) p (redated at (sight t p)) = point_from_touch at t p in
    let after : altered (DirMeta at) (sight t p) ≡ redated at (sight t p) = altered_directory (entry_at t p) date at fits ∙ sym (redated_directory (entry_at t p) date at fits) in
    carries_done (record { path = p; change = Alter (DirMeta date) (DirMeta at) }) t (touched at t p) Done (unless t (path_fault (entry_at t p) ∷ []) (touched at t p, Done)) (rw there refl) refl
    (λ tree. edited_at (record { path = p; change = Alter (DirMeta date) (DirMeta at) }) t (touched at t p) (redated at (sight t p)) tree (fits, tt) after point)

-- ---- files

-- the bytes of a file whose metadata are seen
pub file_of : (a : At) (n date : ℕ) → meta_of (sighted a) ≡ Some (FileMeta n date) → (b : List ℕ) × (sighted a ≡ Some (Seen (Bytes b) date)) × (length b ≡ n)
file_of (Found (Dir stamp es)) n date h = absurd (cc)
file_of (Found (File stamp b)) n date h = let when : stamp ≡ date = cc in let size : length b ≡ n = cc in (b, ap (λ (x : ℕ). Some (Seen (Bytes b) x)) when, size)
file_of Missing n date h = absurd (cc)
file_of Blocked n date h = absurd (cc)

truncate_reply : (at : ℕ) (t : Tree) (p : Path) (n : ℕ) → is_fault (changed at t (Truncate p n)).1 ≡ false → (changed at t (Truncate p n)).1 ≡ Done
unfolding changed
truncate_reply at t p n = truncated_cases (λ o. is_fault o.1 ≡ false → o.1 ≡ Done) at t p n (λ e f. absurd (cc)) (λ there file short f. refl)

truncate_done : (at : ℕ) (t : Tree) (p : Path) (n len date : ℕ) → meta_of (sight t p) ≡ Some (FileMeta len date) → n ≤ 2 ^ 40 → (changed at t (Truncate p n)).1 ≡ Done
unfolding changed
truncate_done at t p n len date fits few =
    let there : path_fault (entry_at t p) ≡ None = there_from (entry_at t p) (FileMeta len date) fits in
    let file : is_directory (entry_at t p) ≡ false = no_directory_from (entry_at t p) len date fits in
    let short : nat_lt greatest_file n ≡ false = le-ltb greatest_file n few in
    rw (there, file, short) refl

-- a truncate touches no directory
truncate_alone : (at : ℕ) (t : Tree) (p : Path) (n : ℕ) → does at t (Truncate p n) ≡ changed at t (Truncate p n)
unfolding does
truncate_alone at t p n = refl

-- a file that is made is not too long
few_bytes : (t u : Tree) (p : Path) (len date n at : ℕ) → meta_of (sight t p) ≡ Some (FileMeta len date) → IsEdited (record { path = p; change = Alter (FileMeta len date) (FileMeta n at) }) t u → n ≤ 2 ^ 40
few_bytes t u p len date n at fits h =
    let file = file_of (entry_at t p) len date fits in
    let seen : sight u p ≡ Some (Seen (Bytes (sized file.0 n)) at) = h.itself ∙ ap (altered (FileMeta n at)) file.1 in
    let content : IsContent (sized file.0 n) = h.tree.files p at (sized file.0 n) (file_sighted (entry_at u p) (sized file.0 n) at seen) in
    omega (arith, content.few, length-sized file.0 n)

-- `truncate` alters the file that is seen, unless it gets too long
pub truncate_carries : (at : ℕ) (t : Tree) (p : Path) (n len date : ℕ) → IsTree t → meta_of (sight t p) ≡ Some (FileMeta len date) → CarriesOut (record { path = p; change = Alter (FileMeta len date) (FileMeta n at) }) t (does at t (Truncate p n))
truncate_carries at t p n len date is fits = record {
  done = λ none tree.
      let reply : o.1 ≡ Done = ap (λ (z : Outcome). z.1) alone ∙ truncate_reply at t p n (ap (λ (z : Outcome). is_fault z.1) (sym alone) ∙ none) in
      let b = truncate_becomes at t o.0 p n is (sym alone ∙ done_from o Done reply) in
      edited_at e t o.0 (Some (Seen (Bytes (sized b.1 n)) at)) tree (fits, tt) (ap (altered (FileMeta n at)) b.2.before) b.2.point;
  possible = λ u h. ap (λ (z : Outcome). is_fault z.1) alone ∙ ap is_fault (truncate_done at t p n len date fits (few_bytes t u p len date n at fits h));
}
  where
    e : Edit
    e = record { path = p; change = Alter (FileMeta len date) (FileMeta n at) }

    o : Outcome
    o = does at t (Truncate p n)

    alone : ◌≡◌ {A = Outcome} (does at t (Truncate p n)) (changed at t (Truncate p n))
    alone = truncate_alone at t p n
