-- The calls on a file: `write`, `truncate`, `unlink` and `read`.
use Rattle.std.proofs.Common.{◌≡◌, ℕ, suc, ◌+◌, ◌≤◌, ◌<◌, List, [], ◌∷◌, length, take, drop, Bool, true, false, refl, sym, ap, ◌∙◌, subst, arith, inr, get_or, Fits, w8}
use Rattle.std.specs.Prelude.{nat_le, nat_lt, ◌==◌, ◌&&◌, Result, Ok, Err, Some, IfOk}
use Rattle.std.proofs.lemmas.Bool.{and_from, and_parts, eqb-true, eq-eqb, ltb-false, ltb-true, leb-false, leb-true, lt-ltb, le-ltb, ne_eqb}
use Rattle.std.proofs.lemmas.List.Elements.{All-from_get_or}
use Rattle.block_index.specs.Changed.{Changes, CutsWhereMeant, patches}
use Rattle.block_index.specs.Means.{blocks}
use Rattle.block_index.specs.Updates.{means as block_means}
use Rattle.block_index.specs.declared.update.BlockUpdate.{BlockUpdate}
use Rattle.message.specs.declared.msg.Msg.{Msg}
use Rattle.message.specs.declared.msg.Msg.TheVariants.{Del, DelRange, Edit}
use Rattle.message.specs.Effects.{effects}
use Rattle.meta_index.specs.declared.update.MetaUpdate.TheVariants.{SetLen}
use Rattle.meta_index.specs.Means.{metadata, IsMeantBy}
use Rattle.pathkey.specs.Enc.{enc}
use Rattle.pathkey.specs.Keys.{Key, blocks_from}
use Rattle.pathkey.specs.Names.{Path, IsPath}
use Rattle.pathkey.specs.declared.errno.Errno.{Errno}
use Rattle.pathkey.specs.declared.errno.Errno.TheVariants.{EISDIR, EPERM, EINVAL, EFBIG}
use Rattle.reference.specs.Tree.{Tree, Dir, File, At, Found, Missing, Blocked, entry_at}
use Rattle.reference.specs.Calls.{Outcome, is_empty, bytes_of, first_fault, faults_of_file, greatest_file, greatest_read, parent, does}
use Rattle.reference.specs.Indexes.{BlocksMean, cleared, meta_of, patched, set_len}
use Rattle.reference.specs.Reads.{Bytes, look, seen, sighted}
use Rattle.reference.specs.Shape.{IsDirectory, AreBytes, IsMoment, IsTree}
use Rattle.reference.specs.declared.call.Call.TheVariants.{Write, Truncate, Unlink, Read}
use Rattle.reference.specs.declared.reply.Meta.TheVariants.{File as FileMeta}
use Rattle.reference.specs.declared.reply.Reply.{Reply}
use Rattle.reference.specs.declared.reply.Reply.TheVariants.{Done, Count, Data, Fault}
use Rattle.reference.proofs.CallTrees.{reading_law}
use Rattle.reference.proofs.IndexLaws.{write_law, truncate_law, lengthen_law, unlink_law}
use Rattle.call_compiler.specs.declared.files.FoundFile.{FoundFile}
use Rattle.call_compiler.specs.declared.indexes.Indexes.{Indexes}
use Rattle.call_compiler.specs.Compiled.{Messages, no_messages, touches, AreClear, blocks_after, has_grown, has_grown_at, meta_has_grown, write_messages, MeanTree, IsCompiled}
use Rattle.call_compiler.specs.Files.{TellsFile, TellsGrowth, IsShort}
use Rattle.call_compiler.proofs.Compiling.{After, meta_meant, nothing_sent, compiled_kept, compiled_refused, compiled_done}
use Rattle.call_compiler.proofs.Idle.{after_alike, idle_edit, grown_alike}
use Rattle.call_compiler.proofs.Faults.{write_refused, write_too_large, write_nothing, write_done, truncate_refused, truncate_too_large, truncate_done, unlink_refused, unlink_done, read_refused, read_too_much, read_done}

-- ---- the file at a path

-- the root is a directory
root_fault : (t : Tree) (e : Errno) → IsDirectory t → first_fault (faults_of_file (entry_at t []) e) ≡ Some e
root_fault (Dir date es) e is = refl
root_fault (File date b) e is = absurd is

-- so it is not a file
pub root_reported : (t : Tree) (p : Path) (e : Errno) (file : Result FoundFile Errno) → IsTree t → p ≡ [] → file ≡ Err e → TellsFile (entry_at t p) e file
root_reported t p e file is root h =
    subst (λ (f : Result FoundFile Errno). TellsFile (entry_at t p) e f) (sym h) (ap (λ (q : Path). first_fault (faults_of_file (entry_at t q) e)) root ∙ root_fault t e is.root)

-- a file of a tree has at most 2^40 bytes
pub short_there : (t : Tree) (p : Path) → IsTree t → IsShort (entry_at t p)
short_there t p is date b e = (is.files p date b e).few

-- what `find_file` returns, in every tree to which the indexes abstract
abbrev pub Finds : Indexes → Path → Errno → Result FoundFile Errno → Type 0
Finds i p e file = (t : Tree) → IsMeantBy t i.meta → TellsFile (entry_at t p) e file

-- why there is none
why : (i : Indexes) (p : Path) (e fault : Errno) (file : Result FoundFile Errno) → Finds i p e file → file ≡ Err fault → (t : Tree) → MeanTree i t → first_fault (faults_of_file (entry_at t p) e) ≡ Some fault
why i p e fault file finds is t means = subst (λ (f : Result FoundFile Errno). TellsFile (entry_at t p) e f) is (finds t (meta_meant i t means))

-- a file with that length and mtime
unfoldable FileOf : Tree → Path → FoundFile → Type 0
FileOf t p f = (b : List ℕ) × (entry_at t p ≡ Found (File f.modified b)) × (length b ≡ f.len)

which : (i : Indexes) (p : Path) (e : Errno) (f : FoundFile) (file : Result FoundFile Errno) → Finds i p e file → file ≡ Ok f → (t : Tree) → MeanTree i t → FileOf t p f
unfolding FileOf
which i p e f file finds is t means = subst (λ (r : Result FoundFile Errno). TellsFile (entry_at t p) e r) is (finds t (meta_meant i t means))

-- its metadata
file_meta : (i : Indexes) (t : Tree) (p : Path) (f : FoundFile) → IsPath p → MeanTree i t → FileOf t p f → metadata i.meta (enc p) ≡ Some (FileMeta f.len f.modified)
unfolding FileOf
file_meta i t p f is_path means there = means.meta.paths p is_path ∙ ap (λ (a : At). meta_of (sighted a)) there.1 ∙ ap (λ (n : ℕ). Some (FileMeta n f.modified)) there.2

-- whether the entry there has a length and an mtime
has_there : (n at : ℕ) (here : At) → meta_has_grown n at (meta_of (sighted here)) ≡ has_grown_at n at here
has_there n at (Found (Dir date es)) = refl
has_there n at (Found (File date b)) = refl
has_there n at Missing = refl
has_there n at Blocked = refl

-- its metadata say so
pub growth_reported : (i : Indexes) (t : Tree) (p : Path) (n at : ℕ) → IsPath p → MeanTree i t → meta_has_grown n at (metadata i.meta (enc p)) ≡ has_grown_at n at (entry_at t p)
growth_reported i t p n at is_path means = ap (meta_has_grown n at) (means.meta.paths p is_path) ∙ has_there n at (entry_at t p)

found_look : (t : Tree) (p : Path) (date : ℕ) (b : List ℕ) → entry_at t p ≡ Found (File date b) → look t p ≡ Some (Bytes b)
found_look t p date b is = ap seen is

-- ---- `write`

-- bytes are below 256
pub are_bytes : (w : List ℕ) → ((i : ℕ) → Fits w8 (get_or w i 0)) → AreBytes w
are_bytes w fits = All-from_get_or (λ b. b < 256) w 0 (λ i h. let at : Fits w8 (get_or w i 0) = fits i in omega arith)

-- a list is empty if its length is 0
pub empty_is : (w : List ℕ) (empty : Bool) → empty ≡ (length w == 0) → is_empty w ≡ empty
empty_is [] empty h = sym h
empty_is (b ∷ w) empty h = sym (h ∙ ne_eqb (suc (length w)) 0 (λ e. cc))

module _ (i : Indexes) (p : Path) (off : ℕ) (w : List ℕ) (at : ℕ) (reply : Reply) (msgs : Messages) (file : Result FoundFile Errno) (finds : Finds i p EISDIR file) where
  pub write_is_refused : (fault : Errno) → file ≡ Err fault → reply ≡ Fault fault → msgs ≡ no_messages → IsCompiled i (Write p off w) at reply msgs
  write_is_refused fault is = compiled_refused i (Write p off w) at reply msgs fault (λ t means. write_refused at t p off w fault (why i p EISDIR fault file finds is t means))

  module _ (found : FoundFile) (is : file ≡ Ok found) where
    pub write_is_too_large : is_empty w ≡ false → nat_le (off + length w) greatest_file ≡ false → reply ≡ Fault EFBIG → msgs ≡ no_messages → IsCompiled i (Write p off w) at reply msgs
    unfolding FileOf
    write_is_too_large some large = compiled_refused i (Write p off w) at reply msgs EFBIG
        (λ t means. let f : FileOf t p found = which i p EISDIR found file finds is t means in
        write_too_large at t p off w found.modified f.0 f.1 some (lt-ltb greatest_file (off + length w) (leb-false (off + length w) greatest_file large)))

    pub write_is_empty : is_empty w ≡ true → reply ≡ Count 0 → msgs ≡ no_messages → IsCompiled i (Write p off w) at reply msgs
    unfolding FileOf
    write_is_empty empty r = compiled_kept i (Write p off w) at reply msgs
        (λ t means. let f : FileOf t p found = which i p EISDIR found file finds is t means in r ∙ sym (ap (λ (o : Outcome). o.1) (write_nothing at t p off w found.modified f.0 f.1 empty)))
        (λ t means. let f : FileOf t p found = which i p EISDIR found file finds is t means in ap (λ (o : Outcome). o.0) (write_nothing at t p off w found.modified f.0 f.1 empty))

    -- the file already has the length and the mtime
    abbrev pub has : Bool
    has = has_grown (off + length w) at found.len found.modified

    tells_grown : IfOk file (TellsGrowth (metadata i.meta (enc p))) → off + length w ≤ greatest_file → has ≡ meta_has_grown (off + length w) at (metadata i.meta (enc p))
    tells_grown grown short = subst (λ (f : Result FoundFile Errno). IfOk f (TellsGrowth (metadata i.meta (enc p)))) is grown (off + length w) at short

    write_makes : IsMoment at → IsPath p → AreBytes w → is_empty w ≡ false → Changes (patched off w) p (patches p off w) → (t : Tree) → MeanTree i t → ◌≡◌ {A = Outcome} (does at t (Write p off w)) ((does at t (Write p off w)).0, Count (length w)) → After i (write_messages p off w at has) (does at t (Write p off w)).0
    unfolding FileOf
    write_makes early is_path are_bytes some changes t means e =
        let f : FileOf t p found = which i p EISDIR found file finds is t means in
        after_alike i (write_messages p off w at false) (write_messages p off w at has) (does at t (Write p off w)).0
        (grown_alike (off + length w) at found.len found.modified (enc p) (metadata i.meta) (file_meta i t p found is_path means f))
        (λ k. refl)
        (write_law at t (does at t (Write p off w)).0 p off w (metadata i.meta) (blocks i.block) (blocks_after (write_messages p off w at false) (blocks i.block)) early means (is_path, are_bytes) some (changes (blocks i.block)) e)

    pub write_is_done : IsMoment at → IsPath p → AreBytes w → is_empty w ≡ false → nat_le (off + length w) greatest_file ≡ true → IfOk file (TellsGrowth (metadata i.meta (enc p))) → Changes (patched off w) p (patches p off w) → reply ≡ Count (length w) → msgs ≡ write_messages p off w at has → IsCompiled i (Write p off w) at reply msgs
    unfolding FileOf
    write_is_done early is_path are_bytes some short grown changes = compiled_done i (Write p off w) at reply msgs (Count (length w)) (write_messages p off w at has) (λ e. (λ f. cc))
        (λ t means. let f : FileOf t p found = which i p EISDIR found file finds is t means in
        write_done at t p off w found.modified f.0 f.1 some (le-ltb greatest_file (off + length w) (leb-true (off + length w) greatest_file short)))
        (λ t means e. write_makes early is_path are_bytes some changes t means e)
        (inr (ap (write_messages p off w at) (tells_grown grown (leb-true (off + length w) greatest_file short))))

-- ---- `truncate`

module _ (i : Indexes) (p : Path) (n : ℕ) (at : ℕ) (reply : Reply) (msgs : Messages) (file : Result FoundFile Errno) (finds : Finds i p EISDIR file) where
  pub truncate_is_refused : (fault : Errno) → file ≡ Err fault → reply ≡ Fault fault → msgs ≡ no_messages → IsCompiled i (Truncate p n) at reply msgs
  truncate_is_refused fault is = compiled_refused i (Truncate p n) at reply msgs fault (λ t means. truncate_refused at t p n fault (why i p EISDIR fault file finds is t means))

  module _ (found : FoundFile) (is : file ≡ Ok found) where
    pub truncate_is_too_large : greatest_file < n → reply ≡ Fault EFBIG → msgs ≡ no_messages → IsCompiled i (Truncate p n) at reply msgs
    unfolding FileOf
    truncate_is_too_large large = compiled_refused i (Truncate p n) at reply msgs EFBIG
        (λ t means. let f : FileOf t p found = which i p EISDIR found file finds is t means in truncate_too_large at t p n found.modified f.0 f.1 (lt-ltb greatest_file n large))

    -- the file already has the length and the mtime
    pub truncate_is_idle : IsMoment at → IsPath p → n ≤ greatest_file → (found.len == n && (found.modified == at)) ≡ true → reply ≡ Done → msgs ≡ no_messages → IsCompiled i (Truncate p n) at reply msgs
    unfolding FileOf
    truncate_is_idle early is_path short idle = compiled_done i (Truncate p n) at reply msgs Done no_messages (λ e. (λ f. cc))
        (λ t means. let f : FileOf t p found = which i p EISDIR found file finds is t means in truncate_done at t p n found.modified f.0 f.1 (le-ltb greatest_file n short))
        (λ t means e.
        let f : FileOf t p found = which i p EISDIR found file finds is t means in
        let both = and_parts (found.len == n) (found.modified == at) idle in
        let same_len : found.len ≡ n = eqb-true found.len n both.0 in
        let same_moment : found.modified ≡ at = eqb-true found.modified at both.1 in
        let set : set_len n at (Some (FileMeta found.len found.modified)) ≡ Some (FileMeta found.len found.modified) = ap (λ (l : ℕ). Some (FileMeta l at)) (sym same_len) ∙ ap (λ (date : ℕ). Some (FileMeta found.len date)) (sym same_moment) in
        let value : metadata i.meta (enc p) ≡ Some (FileMeta found.len found.modified) = file_meta i t p found is_path means f in
        after_alike i (record { meta = Edit (enc p) (SetLen n at) ∷ []; block = [] }) no_messages (does at t (Truncate p n)).0
        (idle_edit (enc p) (set_len n at) (metadata i.meta) (ap (set_len n at) value ∙ set ∙ sym value))
        (λ k. refl)
        (lengthen_law at t (does at t (Truncate p n)).0 p n f.0 (metadata i.meta) (blocks i.block) early means is_path (found_look t p found.modified f.0 f.1) (omega (arith, f.2, same_len)) e))
        (nothing_sent i (Truncate p n) at)

    module _ (block : List (Msg BlockUpdate (List ℕ))) (cut : n < found.len → CutsWhereMeant n p block) (kept : found.len ≤ n → block ≡ []) where
      truncate_makes : IsMoment at → IsPath p → (t : Tree) → MeanTree i t → ◌≡◌ {A = Outcome} (does at t (Truncate p n)) ((does at t (Truncate p n)).0, Done) → After i (record { meta = Edit (enc p) (SetLen n at) ∷ []; block = block }) (does at t (Truncate p n)).0
      unfolding FileOf
      truncate_makes early is_path t means e =
          let f : FileOf t p found = which i p EISDIR found file finds is t means in
          elim (nat_lt n found.len) as (λ x. nat_lt n found.len ≡ x → After i (record { meta = Edit (enc p) (SetLen n at) ∷ []; block = block }) (does at t (Truncate p n)).0) [
            | true ↦ λ h. truncate_law at t (does at t (Truncate p n)).0 p n (metadata i.meta) (blocks i.block) (blocks_after (record { meta = Edit (enc p) (SetLen n at) ∷ []; block = block }) (blocks i.block)) early means is_path (cut (ltb-true n found.len h) t (blocks i.block) means.blocks) e
            | false ↦ λ h. subst (λ (x : List (Msg BlockUpdate (List ℕ))). After i (record { meta = Edit (enc p) (SetLen n at) ∷ []; block = x }) (does at t (Truncate p n)).0) (sym (kept (ltb-false n found.len h)))
                (lengthen_law at t (does at t (Truncate p n)).0 p n f.0 (metadata i.meta) (blocks i.block) early means is_path (found_look t p found.modified f.0 f.1) (omega (arith, f.2, ltb-false n found.len h)) e)
          ] refl

      pub truncate_is_done : IsMoment at → IsPath p → n ≤ greatest_file → length block ≤ 2 → (found.len == n && (found.modified == at)) ≡ false → reply ≡ Done → msgs ≡ record { meta = Edit (enc p) (SetLen n at) ∷ []; block = block } → IsCompiled i (Truncate p n) at reply msgs
      unfolding FileOf
      truncate_is_done early is_path short few other = compiled_done i (Truncate p n) at reply msgs Done (record { meta = Edit (enc p) (SetLen n at) ∷ []; block = block }) (λ e. (λ f. cc))
          (λ t means. let f : FileOf t p found = which i p EISDIR found file finds is t means in truncate_done at t p n found.modified f.0 f.1 (le-ltb greatest_file n short))
          (λ t means e. truncate_makes early is_path t means e) (
            omega arith,
            λ t means longer.
                let f : FileOf t p found = which i p EISDIR found file finds is t means in
                let same : length (bytes_of (entry_at t p)) ≡ found.len = ap (λ (a : At). length (bytes_of a)) f.1 ∙ f.2 in
                let none : length block ≡ 0 = ap length (kept (omega arith)) in
                omega arith,
            λ t means b there long.
                let f : FileOf t p found = which i p EISDIR found file finds is t means in
                let one : Found (File found.modified f.0) ≡ Found (File at b) = sym f.1 ∙ there in
                let date : found.modified ≡ at = cc in
                let bytes : f.0 ≡ b = cc in
                let both : true ≡ false = sym (and_from (found.len == n) (found.modified == at) (eq-eqb found.len n (sym f.2 ∙ ap length bytes ∙ long)) (eq-eqb found.modified at date)) ∙ other in
                absurd (cc),
          )

-- ---- `unlink`

module _ (i : Indexes) (p : Path) (at : ℕ) (reply : Reply) (msgs : Messages) (file : Result FoundFile Errno) (finds : Finds i p EPERM file) where
  pub unlink_is_refused : (fault : Errno) → file ≡ Err fault → reply ≡ Fault fault → msgs ≡ no_messages → IsCompiled i (Unlink p) at reply msgs
  unlink_is_refused fault is = compiled_refused i (Unlink p) at reply msgs fault (λ t means. unlink_refused at t p fault (why i p EPERM fault file finds is t means))

  pub unlink_is_done : (found : FoundFile) → file ≡ Ok found → IsMoment at → IsPath p → (block : List (Msg BlockUpdate (List ℕ))) → ((k : Key) → effects block_means block k (blocks i.block k) ≡ cleared (blocks_from p 0) (blocks i.block) k) → length block ≤ 1 → (found.len ≡ 0 → AreClear (blocks i.block) (blocks_from p 0) → block ≡ []) → reply ≡ Done → msgs ≡ record { meta = Del (enc p) ∷ touches at (parent p ∷ []); block = block } → IsCompiled i (Unlink p) at reply msgs
  unfolding FileOf
  unlink_is_done found is early is_path block clears few none = compiled_done i (Unlink p) at reply msgs Done (record { meta = Del (enc p) ∷ touches at (parent p ∷ []); block = block }) (λ e. (λ f. cc))
      (λ t means. let f : FileOf t p found = which i p EPERM found file finds is t means in unlink_done at t p found.modified f.0 f.1)
      (λ t means e. after_alike i (record { meta = Del (enc p) ∷ touches at (parent p ∷ []); block = DelRange (blocks_from p 0) ∷ [] }) (record { meta = Del (enc p) ∷ touches at (parent p ∷ []); block = block }) (does at t (Unlink p)).0
      (λ k. refl) clears
      (unlink_law at t (does at t (Unlink p)).0 p (metadata i.meta) (blocks i.block) early means is_path e)) (
        omega arith,
        λ t means empty clear.
            let f : FileOf t p found = which i p EPERM found file finds is t means in
            none (sym (ap (λ (a : At). length (bytes_of a)) f.1 ∙ f.2) ∙ ap length empty) clear,
      )

-- ---- `read`

-- a read changes nothing
read_changes_nothing : (at : ℕ) (t : Tree) (p : Path) (off n : ℕ) → (does at t (Read p off n)).0 ≡ t
read_changes_nothing at t p off n = (reading_law at t p off n).0

module _ (i : Indexes) (p : Path) (off n : ℕ) (at : ℕ) (reply : Reply) (msgs : Messages) (file : Result FoundFile Errno) (finds : Finds i p EISDIR file) where
  pub read_is_refused : (fault : Errno) → file ≡ Err fault → reply ≡ Fault fault → msgs ≡ no_messages → IsCompiled i (Read p off n) at reply msgs
  read_is_refused fault is = compiled_refused i (Read p off n) at reply msgs fault (λ t means. read_refused at t p off n fault (why i p EISDIR fault file finds is t means))

  module _ (found : FoundFile) (is : file ≡ Ok found) where
    pub read_is_too_much : greatest_read < n → reply ≡ Fault EINVAL → msgs ≡ no_messages → IsCompiled i (Read p off n) at reply msgs
    unfolding FileOf
    read_is_too_much large = compiled_refused i (Read p off n) at reply msgs EINVAL
        (λ t means. let f : FileOf t p found = which i p EISDIR found file finds is t means in read_too_much at t p off n found.modified f.0 f.1 (lt-ltb greatest_read n large))

    pub read_is_done : (v : List ℕ) → n ≤ greatest_read → ((t : Tree) (b : List ℕ) → BlocksMean t (blocks i.block) → look t p ≡ Some (Bytes b) → length b ≡ found.len → v ≡ take n (drop off b)) → reply ≡ Data v → msgs ≡ no_messages → IsCompiled i (Read p off n) at reply msgs
    unfolding FileOf
    read_is_done v few reads r = compiled_kept i (Read p off n) at reply msgs
        (λ t means. let f : FileOf t p found = which i p EISDIR found file finds is t means in
        r ∙ ap Data (reads t f.0 means.blocks (found_look t p found.modified f.0 f.1) f.2) ∙ sym (read_done at t p off n found.modified f.0 f.1 (le-ltb greatest_read n few)))
        (λ t means. read_changes_nothing at t p off n)
