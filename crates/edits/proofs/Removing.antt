-- An entry that is removed while its parent keeps its mtime.
use Rattle.std.proofs.Common.{◌≡◌, ◌≢◌, ℕ, [], ◌∷◌, ◌++◌, length, Bool, false, cond, Option, Some, None, arith, length-append, append-nil, sym, refl, ap, ◌∙◌, subst}
use Rattle.pathkey.specs.Names.{parent}
use Rattle.pathkey.proofs.OrderFacts.{same_itself}
use Rattle.reference.specs.Calls.{Outcome, is_directory, is_file, is_found, is_full, path_fault, changed, does}
use Rattle.reference.specs.Indexes.{meta_of}
use Rattle.reference.specs.Reads.{Directory, Look, Seen, Sight, redated, rest_of, sight, sight_touched, sighted}
use Rattle.reference.specs.Shape.{IsDirectory, IsTree}
use Rattle.reference.specs.Tree.{At, Blocked, Dir, Entries, File, Found, Missing, Name, Path, Tree, entry, entry_at, found, named, nothing, onward, touched}
use Rattle.reference.specs.declared.call.Call.TheVariants.{Rmdir, Unlink}
use Rattle.reference.specs.declared.reply.Meta.{Meta}
use Rattle.reference.specs.declared.reply.Meta.TheVariants.{Dir as DirMeta, File as FileMeta}
use Rattle.reference.specs.declared.reply.Reply.TheVariants.{Done}
use Rattle.reference.proofs.CallCases.{directory_removed_cases}
use Rattle.reference.proofs.Edits.{touched_law}
use Rattle.reference.proofs.Entries.{rmdir_becomes, unlink_becomes}
use Rattle.reference.proofs.EntryPaths.{along, last_name, rest_of_from}
use Rattle.reference.proofs.Points.{Bare, IsPoint, bare_none}
use Rattle.reference.proofs.Touching.{done_law, reply_is}
use Rattle.edits.specs.Edits.{IsEdited}
use Rattle.edits.specs.declared.edit.Change.TheVariants.{Remove}
use Rattle.edits.proofs.Ways.{CarriesOut, carries_done, done_from, edited_at, is_fault}

-- ---- what is seen at a path

-- an entry whose metadata are seen is there
pub there_from : (a : At) (m : Meta) → meta_of (sighted a) ≡ Some m → path_fault a ≡ None
there_from (Found x) m h = refl
there_from Missing m h = absurd (cc)
there_from Blocked m h = absurd (cc)

pub no_directory_from : (a : At) (n date : ℕ) → meta_of (sighted a) ≡ Some (FileMeta n date) → is_directory a ≡ false
no_directory_from (Found (Dir stamp es)) n date h = absurd (cc)
no_directory_from (Found (File stamp b)) n date h = refl
no_directory_from Missing n date h = absurd (cc)
no_directory_from Blocked n date h = absurd (cc)

no_file_from : (a : At) (date : ℕ) → meta_of (sighted a) ≡ Some (DirMeta date) → is_file a ≡ false
no_file_from (Found (Dir stamp es)) date h = refl
no_file_from (Found (File stamp b)) date h = absurd (cc)
no_file_from Missing date h = absurd (cc)
no_file_from Blocked date h = absurd (cc)

pub unfound_from : (a : At) → sighted a ≡ None → is_found a ≡ false
unfound_from (Found (Dir date es)) h = absurd (cc)
unfound_from (Found (File date b)) h = absurd (cc)
unfound_from Missing h = refl
unfound_from Blocked h = refl

some_seen : (x : Tree) → sighted (Found x) ≡ None → ⊥
some_seen (Dir date es) h = cc
some_seen (File date b) h = cc

-- ---- paths

-- a longer path is another
longer_apart : (p : Path) (n : Name) → p ++ n ∷ [] ≢ p
longer_apart p n e = let l : length (p ++ n ∷ []) ≡ length p = ap length e in absurd (omega (arith, length-append p (n ∷ []), l))

pub parent_apart : (p : Path) → p ≢ [] → parent p ≢ p
parent_apart p ne e =
    let last : (n : Name) × (p ≡ parent p ++ n ∷ []) = last_name p ne in
    longer_apart p last.0 (ap (λ (q : Path). q ++ last.0 ∷ []) (sym e) ∙ sym last.1)

-- the root of a directory tree is seen
pub root_seen : (u : Tree) → IsDirectory u → sight u [] ≡ None → ⊥
root_seen (Dir date es) root h = cc
root_seen (File date b) root h = root

-- ---- the parent keeps its mtime

-- an mtime that is set to itself is not seen
touch_itself : (at : ℕ) (t m : Tree) (p pp : Path) (s : Option Sight) (l : Look) → IsPoint t m p s → pp ≢ p → sight t pp ≡ Some (Seen l at) → IsPoint t (touched at m pp) p s
touch_itself at t m p pp s l point apart there = record {
  other = λ q off. touched_law at pp m q ∙ elim (rest_of pp q) as (λ c. rest_of pp q ≡ c → sight_touched at c (sight m q) ≡ sight t q) [
    | None ↦ λ e. point.other q off
    | Some r ↦ λ e. tail q r off (rest_of_from pp q r e)
  ] refl;
  itself = touched_law at pp m p ∙ elim (rest_of pp p) as (λ c. rest_of pp p ≡ c → sight_touched at c (sight m p) ≡ s) [
    | None ↦ λ e. point.itself
    | Some r ↦ λ e. at_p r (rest_of_from pp p r e)
  ] refl;
}
  where
    tail : (q r : Path) → q ≢ p → q ≡ pp ++ r → sight_touched at (Some r) (sight m q) ≡ sight t q
    tail q [] off e =
        let one : q ≡ pp = e ∙ append-nil pp in
        let kept : sight m pp ≡ Some (Seen l at) = point.other pp apart ∙ there in
        ap (λ (x : Path). redated at (sight m x)) one ∙ ap (redated at) kept ∙ sym there ∙ ap (sight t) (sym one)
    tail q (k ∷ r) off e = point.other q off

    at_p : (r : Path) → p ≡ pp ++ r → sight_touched at (Some r) (sight m p) ≡ s
    at_p [] e = absurd (apart (sym (e ∙ append-nil pp)))
    at_p (k ∷ r) e = point.itself

-- what was removed at the mtime of its parent
removed_at : (at : ℕ) (t u : Tree) (p : Path) (m : Meta) → p ≢ [] → meta_of (sight t p) ≡ Some m → sight t (parent p) ≡ Some (Seen Directory at) → IsPoint t u p None → IsTree (touched at u (parent p)) → IsEdited (record { path = p; change = Remove m }) t (touched at u (parent p))
removed_at at t u p m ne fits above point tree = edited_at (record { path = p; change = Remove m }) t (touched at u (parent p)) None tree fits refl (touch_itself at t u p (parent p) None Directory point (parent_apart p ne) above)

-- ---- files

unlink_done : (at : ℕ) (t : Tree) (p : Path) (n date : ℕ) → meta_of (sight t p) ≡ Some (FileMeta n date) → (changed at t (Unlink p)).1 ≡ Done
unfolding changed
unlink_done at t p n date fits =
    let there : path_fault (entry_at t p) ≡ None = there_from (entry_at t p) (FileMeta n date) fits in
    let file : is_directory (entry_at t p) ≡ false = no_directory_from (entry_at t p) n date fits in
    rw (there, file) refl

not_root_file : (t : Tree) (p : Path) (n date : ℕ) → IsTree t → meta_of (sight t p) ≡ Some (FileMeta n date) → p ≢ []
not_root_file t [] n date is fits = absurd (root t is.root fits)
  where
    root : (x : Tree) → IsDirectory x → meta_of (sight x []) ≡ Some (FileMeta n date) → ⊥
    root (Dir stamp es) h f = cc
    root (File stamp b) h f = h
not_root_file t (k ∷ p) n date is fits = λ e. cc

-- `unlink` removes the file that is seen
pub unlink_carries : (at : ℕ) (t : Tree) (p : Path) (n date : ℕ) → IsTree t → meta_of (sight t p) ≡ Some (FileMeta n date) → sight t (parent p) ≡ Some (Seen Directory at) → CarriesOut (record { path = p; change = Remove (FileMeta n date) }) t (does at t (Unlink p))
unlink_carries at t p n date is fits above =
    let o : Outcome = does at t (Unlink p) in
    let reply : o.1 ≡ Done = reply_is at t (Unlink p) ∙ unlink_done at t p n date fits in
    let whole : ◌≡◌ {A = Outcome} o (o.0, Done) = done_from o Done reply in
    let d = done_law at t o.0 (Unlink p) whole in
    let gone = unlink_becomes at t d.0 p is d.1 in
    carries_done (record { path = p; change = Remove (FileMeta n date) }) t (touched at d.0 (parent p)) Done o (whole ∙ ap {B = Outcome} (λ (x : Tree). (x, Done)) d.2) refl
    (removed_at at t d.0 p (FileMeta n date) (not_root_file t p n date is fits) fits above gone.2.point)

-- ---- directories

-- where an entry goes and all else stays, nothing was below it
nothing_below : (t u : Tree) (p : Path) → sight u p ≡ None → ((q : Path) → q ≢ p → sight u q ≡ sight t q) → is_full (entry_at t p) ≡ false
unfolding Bare
nothing_below t u p none other = cases (entry_at t p) refl
  where
    child : (date : ℕ) (n : Name) (x : Tree) (es : Entries) → entry_at t p ≡ Found (Dir date (entry n x es)) → ⊥
    child date n x es e =
        let there : entry_at t (p ++ n ∷ []) ≡ Found x = along t p (n ∷ []) ∙ ap (λ (a : At). onward a n) e ∙ ap (λ (b : Bool). found (cond b (Some x) (named n es))) (same_itself n) in
        let gone : sight u (p ++ n ∷ []) ≡ None = ap sighted (along u p (n ∷ [])) ∙ bare_none (entry_at u p) (unfound_from (entry_at u p) none) n [] in
        some_seen x (ap sighted (sym there) ∙ sym (other (p ++ n ∷ []) (longer_apart p n)) ∙ gone)

    cases : (a : At) → entry_at t p ≡ a → is_full a ≡ false
    cases (Found (Dir date nothing)) e = refl
    cases (Found (Dir date (entry n x es))) e = absurd (child date n x es e)
    cases (Found (File date b)) e = refl
    cases Missing e = refl
    cases Blocked e = refl

-- `rmdir` that is no fault is done
rmdir_reply : (at : ℕ) (t : Tree) (p : Path) → is_fault (changed at t (Rmdir p)).1 ≡ false → (changed at t (Rmdir p)).1 ≡ Done
unfolding changed
rmdir_reply at t p = directory_removed_cases (λ o. is_fault o.1 ≡ false → o.1 ≡ Done) t p (λ e f. absurd (cc)) (λ ne there file full f. refl)

rmdir_done : (at : ℕ) (t u : Tree) (p : Path) (date : ℕ) → p ≢ [] → meta_of (sight t p) ≡ Some (DirMeta date) → IsEdited (record { path = p; change = Remove (DirMeta date) }) t u → (changed at t (Rmdir p)).1 ≡ Done
unfolding changed
rmdir_done at t u [] date ne fits h = absurd (ne refl)
rmdir_done at t u (k ∷ q) date ne fits h =
    let there : path_fault (entry_at t (k ∷ q)) ≡ None = there_from (entry_at t (k ∷ q)) (DirMeta date) fits in
    let file : is_file (entry_at t (k ∷ q)) ≡ false = no_file_from (entry_at t (k ∷ q)) date fits in
    let full : is_full (entry_at t (k ∷ q)) ≡ false = nothing_below t u (k ∷ q) h.itself h.other in
    rw (there, file, full) refl

-- `rmdir` removes the directory that is seen, unless it has an entry
pub rmdir_carries : (at : ℕ) (t : Tree) (p : Path) (date : ℕ) → p ≢ [] → meta_of (sight t p) ≡ Some (DirMeta date) → sight t (parent p) ≡ Some (Seen Directory at) → CarriesOut (record { path = p; change = Remove (DirMeta date) }) t (does at t (Rmdir p))
rmdir_carries at t p date ne fits above = record {
  done = λ none tree.
      let reply : o.1 ≡ Done = reply_is at t (Rmdir p) ∙ rmdir_reply at t p (ap is_fault (sym (reply_is at t (Rmdir p))) ∙ none) in
      let d = done_law at t o.0 (Rmdir p) (done_from o Done reply) in
      let gone = rmdir_becomes at t d.0 p d.1 in
      subst (IsEdited (record { path = p; change = Remove (DirMeta date) }) t) (sym d.2) (removed_at at t d.0 p (DirMeta date) ne fits above gone.1.point (subst IsTree d.2 tree));
  possible = λ u h. ap is_fault (reply_is at t (Rmdir p) ∙ rmdir_done at t u p date ne fits h);
}
  where
    o : Outcome
    o = does at t (Rmdir p)
