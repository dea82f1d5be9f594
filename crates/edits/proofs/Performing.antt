-- What each kind of edit makes of a volume, by what its look-ups and its call tell.
use Rattle.std.proofs.Common.{◌≡◌, ◌≢◌, ℕ, ◌-◌, ◌*◌, ◌<◌, ◌≤◌, min, [], List, length, take, drop, Bool, true, false, Option, Some, None, Result, Ok, arith, sym, refl, ap, ◌∙◌, subst}
use Rattle.std.specs.Prelude.{IsTrue, MatchOption, ◌↔◌}
use Rattle.pathkey.specs.Names.{Path, parent}
use Rattle.pathkey.specs.declared.errno.Errno.{Errno}
use Rattle.pathkey.specs.declared.errno.NoMemory.{NoMemory}
use Rattle.call_compiler.specs.Mtimes.{mtime_set}
use Rattle.reference.specs.Calls.{does}
use Rattle.reference.specs.Indexes.{meta_of}
use Rattle.reference.specs.Plant.{planted}
use Rattle.reference.specs.Reads.{Bytes, Directory, Seen, Sight, sight}
use Rattle.reference.specs.Tree.{entry_at, sized}
use Rattle.reference.specs.Worlds.{World}
use Rattle.reference.specs.declared.call.Call.TheVariants.{Rmdir, Truncate, Unlink, Write}
use Rattle.reference.specs.declared.reply.Meta.{Meta}
use Rattle.reference.specs.declared.reply.Meta.TheVariants.{Dir as DirMeta, File as FileMeta}
use Rattle.reference.specs.declared.reply.Reply.TheVariants.{Count, Done}
use Rattle.volume.specs.Changes.{Called}
use Rattle.volume.specs.Mtimes.{SetsMtime}
use Rattle.volume.specs.Plants.{Plants}
use Rattle.volume.specs.Typed.{replied}
use Rattle.volume.specs.Volumes.{Means, PVolume}
use Rattle.edits.specs.Applies.{Performs}
use Rattle.edits.specs.Edits.{FitsBlock, block_at, block_digest}
use Rattle.edits.specs.Tried.{EachSight, WhetherDone}
use Rattle.edits.specs.declared.edit.Change.{Change}
use Rattle.edits.specs.declared.edit.Change.TheVariants.{Add, Alter, Block, Remove}
use Rattle.edits.specs.declared.edit.Edit.{Edit}
use Rattle.edits.proofs.Adding.{plant_carries, planting}
use Rattle.edits.proofs.Altering.{file_of, mtime_carries, truncate_carries}
use Rattle.edits.proofs.BlockFacts.{length-block}
use Rattle.edits.proofs.Patching.{write_carries}
use Rattle.edits.proofs.Removing.{rmdir_carries, unlink_carries}
use Rattle.edits.proofs.Trying.{call_tries, mtime_tries, plant_tries, tried, unfit}
use Rattle.edits.proofs.Ways.{CarriesOut}

-- what a call that returns nothing answers
abbrev pub Answer : Type 0
Answer = Result (Unit {0}) Errno

-- what is told of an edit
abbrev pub Told : Type 0
Told = Result Bool NoMemory

-- these metadata are seen at a path in each world of the volume
abbrev pub HasMeta : PVolume → Path → Meta → Type 0
HasMeta v p m = EachSight v p (λ s. meta_of s ≡ Some m)

-- and a directory with this mtime at its parent
abbrev pub HasParent : PVolume → Path → ℕ → Type 0
HasParent v p at = EachSight v (parent p) (λ s. s ≡ Some (Seen Directory at))

-- the length and the mtime of the file that is seen, or none if none is
abbrev FindsFile : Option (ℕ × ℕ) → Option Sight → Type 0
FindsFile found s = MatchOption found ((n date : ℕ) → meta_of s ≢ Some (FileMeta n date)) (λ file. meta_of s ≡ Some (FileMeta file.0 file.1))

-- metadata that were compared
pub has_from : (v : PVolume) (p : Path) (m m' : Meta) (there : Bool) → EachSight v p (λ s. IsTrue there ↔ (meta_of s ≡ Some m)) → there ≡ true → m ≡ m' → HasMeta v p m'
has_from v p m m' there same is e = λ w mw. (same w mw).0 is ∙ ap Some e

-- a file that was found
pub file_from : (v : PVolume) (p : Path) (found : Option (ℕ × ℕ)) (len at : ℕ) → EachSight v p (FindsFile found) → found ≡ Some (len, at) → HasMeta v p (FileMeta len at)
file_from v p found len at seen is = λ w m. subst (λ (x : Option (ℕ × ℕ)). FindsFile x (sight w.live p)) is (seen w m)

-- no file was found
pub no_file_from : (v : PVolume) (p : Path) (found : Option (ℕ × ℕ)) → EachSight v p (FindsFile found) → found ≡ None
    → EachSight v p (λ s. (n date : ℕ) → meta_of s ≢ Some (FileMeta n date))
no_file_from v p found seen is w m = subst (λ (x : Option (ℕ × ℕ)). FindsFile x (sight w.live p)) is (seen w m)

-- a change that is this one
pub one_change : (p : Path) (change same : Change) (told : Told) (old new : PVolume) → change ≡ same → Performs (record { path = p; change = same }) told old new → Performs (record { path = p; change = change }) told old new
one_change p change same told old new e h = subst (λ (x : Change). Performs (record { path = p; change = x }) told old new) (sym e) h

pub one_alter : (m m' n n' : Meta) → m ≡ m' → n ≡ n' → Alter m n ≡ Alter m' n'
one_alter m m' n n' e f = (cc)

-- a parent that was found
pub parent_from : (v : PVolume) (p : Path) (found : Option ℕ) (at : ℕ) → ((w : World) → Means v w → MatchOption found (meta_of (sight w.live p) ≡ None) (λ date. sight w.live (parent p) ≡ Some (Seen Directory date))) → found ≡ Some at → HasParent v p at
parent_from v p found at seen is = λ w m. subst (λ (x : Option ℕ). MatchOption x (meta_of (sight w.live p) ≡ None) (λ date. sight w.live (parent p) ≡ Some (Seen Directory date))) is (seen w m)

-- ---- an entry that is removed

pub directory_removed : (p : Path) (date at : ℕ) (r : Answer) (told : Told) (old new : PVolume) → p ≢ [] → HasMeta old p (DirMeta date) → HasParent old p at → Called (Rmdir p) at (replied (λ _. Done) r) old new → WhetherDone r told
    → Performs (record { path = p; change = Remove (DirMeta date) }) told old new
directory_removed p date at r told old new ne fits above h tells =
    tried (record { path = p; change = Remove (DirMeta date) }) (λ t. does at t (Rmdir p)) (λ _. Done) r told old new (λ x. refl) (call_tries (Rmdir p) at (replied (λ _. Done) r) old new h) (λ w m. rmdir_carries at w.live p date ne (fits w m) (above w m)) tells

pub file_removed : (p : Path) (n date at : ℕ) (r : Answer) (told : Told) (old new : PVolume) → HasMeta old p (FileMeta n date) → HasParent old p at → Called (Unlink p) at (replied (λ _. Done) r) old new → WhetherDone r told
    → Performs (record { path = p; change = Remove (FileMeta n date) }) told old new
file_removed p n date at r told old new fits above h tells =
    tried (record { path = p; change = Remove (FileMeta n date) }) (λ t. does at t (Unlink p)) (λ _. Done) r told old new (λ x. refl) (call_tries (Unlink p) at (replied (λ _. Done) r) old new h)
    (λ w m. unlink_carries at w.live p n date m.live.indexes.tree (fits w m) (above w m)) tells

-- ---- an entry that is added

pub entry_added : (p : Path) (m : Meta) (r : Answer) (told : Told) (old new : PVolume) → EachSight old p (λ s. s ≡ None) → Plants p m r old new → WhetherDone r told → Performs (record { path = p; change = Add m }) told old new
entry_added p m r told old new free h tells =
    tried (record { path = p; change = Add m }) (λ t. planting (planted t p m)) (λ _. Done) r told old new (λ x. refl) (plant_tries p m r old new h) (λ w mw. plant_carries w.live p m mw.live.indexes.tree (free w mw)) tells

-- ---- an entry that is altered

pub directory_altered : (p : Path) (date at : ℕ) (r : Answer) (told : Told) (old new : PVolume) → HasMeta old p (DirMeta date) → SetsMtime p at (replied (λ _. Done) r) old new → WhetherDone r told
    → Performs (record { path = p; change = Alter (DirMeta date) (DirMeta at) }) told old new
directory_altered p date at r told old new fits h tells =
    tried (record { path = p; change = Alter (DirMeta date) (DirMeta at) }) (λ t. mtime_set at t p) (λ _. Done) r told old new (λ x. refl) (mtime_tries p at (replied (λ _. Done) r) old new h) (λ w m. mtime_carries at w.live p date (fits w m)) tells

pub file_altered : (p : Path) (len date n at : ℕ) (r : Answer) (told : Told) (old new : PVolume) → HasMeta old p (FileMeta len date) → Called (Truncate p n) at (replied (λ _. Done) r) old new → WhetherDone r told
    → Performs (record { path = p; change = Alter (FileMeta len date) (FileMeta n at) }) told old new
file_altered p len date n at r told old new fits h tells =
    tried (record { path = p; change = Alter (FileMeta len date) (FileMeta n at) }) (λ t. does at t (Truncate p n)) (λ _. Done) r told old new (λ x. refl) (call_tries (Truncate p n) at (replied (λ _. Done) r) old new h)
    (λ w m. truncate_carries at w.live p n len date m.live.indexes.tree (fits w m)) tells

-- ---- a block that is rewritten

module _ (p : Path) (i : ℕ) (digest : Option (List ℕ)) (bytes : List ℕ) (v : PVolume) where
  abbrev pub rewrites : Edit
  rewrites = record { path = p; change = Block i digest bytes }

  pub no_file : EachSight v p (λ s. (n date : ℕ) → meta_of s ≢ Some (FileMeta n date)) → Performs rewrites (Ok false) v v
  no_file none = unfit rewrites v (λ w m fits. none w m (length fits.0) fits.1 (ap meta_of fits.2))

  module _ (len at : ℕ) (has : HasMeta v p (FileMeta len at)) where
    one_length : (w : World) → Means v w → (b : List ℕ) (date : ℕ) → sight w.live p ≡ Some (Seen (Bytes b) date) → length b ≡ len
    one_length w m b date seen = let e : Some (FileMeta (length b) date) ≡ Some (FileMeta len at) = sym (ap meta_of seen) ∙ has w m in cc

    pub no_room : (size : ℕ) → size ≡ min 4096 (len - 4096 * i) → size < length bytes → Performs rewrites (Ok false) v v
    no_room size is more = unfit rewrites v (λ w m fits. absurd (omega (arith, fits.3.few, length-block i fits.0, one_length w m fits.0 fits.1 fits.2, is, more)))

    pub other_digest : (start : ℕ) → start ≡ 4096 * i → EachSight v p (λ s. (b : List ℕ) (date : ℕ) → s ≡ Some (Seen (Bytes b) date) → block_digest (take 4096 (drop start b)) ≢ digest) → Performs rewrites (Ok false) v v
    other_digest start is other = unfit rewrites v (λ w m fits. other w m fits.0 fits.1 fits.2 (ap (λ (x : ℕ). block_digest (take 4096 (drop x fits.0))) is ∙ fits.3.same))

    pub block_rewritten : (start size : ℕ) (block : List ℕ) (r : Result ℕ Errno) (told : Told) (new : PVolume) → start ≡ 4096 * i → 4096 * i < len → size ≡ min 4096 (len - 4096 * i) → length bytes ≤ size
        → EachSight v p (λ s. (b : List ℕ) (date : ℕ) → s ≡ Some (Seen (Bytes b) date) → block_digest (take 4096 (drop start b)) ≡ digest)
        → block ≡ sized bytes size → Called (Write p start block) at (replied (λ n. Count n) r) v new → WhetherDone r told → Performs rewrites told v new
    block_rewritten start size block r told new from inside whole few same is h tells =
        tried rewrites (λ t. does at t (Write p start block)) (λ n. Count n) r told v new (λ n. refl) (call_tries (Write p start block) at (replied (λ n. Count n) r) v new h) carries tells
      where
        carries : (w : World) → Means v w → CarriesOut rewrites w.live (does at w.live (Write p start block))
        carries w m =
            let file = file_of (entry_at w.live p) len at (has w m) in
            let b : List ℕ = file.0 in
            let long : length b ≡ len = file.2 in
            let room : size ≡ length (block_at i b) = whole ∙ ap (λ (x : ℕ). min 4096 (x - 4096 * i)) (sym long) ∙ sym (length-block i b) in
            let fits : FitsBlock i digest bytes b = record {
              inside = omega (arith, inside, long);
              few = omega (arith, few, room);
              same = ap (λ (x : ℕ). block_digest (take 4096 (drop x b))) (sym from) ∙ same w m b at file.1;
            } in
            subst (λ (x : List ℕ). CarriesOut rewrites w.live (does at w.live (Write p start x))) (ap (sized bytes) (sym room) ∙ sym is)
            (subst (λ (x : ℕ). CarriesOut rewrites w.live (does at w.live (Write p x (sized bytes (length (block_at i b)))))) (sym from) (write_carries w.live p i at digest bytes b m.live.indexes.tree file.1 fits))
