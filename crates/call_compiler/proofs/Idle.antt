-- Messages that change nothing need not be sent.
use Rattle.std.proofs.Common.{◌≡◌, ℕ, List, max, [], ◌∷◌, true, false, cond, refl, sym, ap, ◌∙◌, subst, arith, Option, Some, None}
use Rattle.std.specs.Prelude.{◌==◌, nat_le, Ok}
use Rattle.std.proofs.Math.Nat.{max-eq_left}
use Rattle.std.proofs.lemmas.Bool.{and_parts, leb-true, eqb-true}
use Rattle.block_index.specs.Means.{blocks}
use Rattle.block_index.specs.Updates.{means as block_means}
use Rattle.block_index.specs.declared.update.BlockUpdate.{BlockUpdate}
use Rattle.message.specs.declared.msg.Msg.{Msg}
use Rattle.message.specs.declared.msg.Msg.TheVariants.{Put, DelRange}
use Rattle.message.specs.Effects.{effects}
use Rattle.meta_index.specs.Means.{metadata, moment_reported}
use Rattle.meta_index.specs.Updates.{means as meta_means}
use Rattle.meta_index.proofs.Fresh.{means_alike}
use Rattle.pathkey.specs.Enc.{enc}
use Rattle.pathkey.specs.Keys.{Key, is_in}
use Rattle.pathkey.specs.Names.{Path, IsPath, parent}
use Rattle.pathkey.specs.Order.{same}
use Rattle.pathkey.specs.declared.range.KeyRange.{KeyRange}
use Rattle.pathkey.proofs.OrderFacts.{same_true}
use Rattle.pathkey.proofs.PathFacts.{parent_len, parent_names}
use Rattle.reference.specs.Tree.{Tree, Dir, File, At, Found, Missing, Blocked, entry_at}
use Rattle.reference.specs.Indexes.{Metadata, Blocks, cleared, edit_at, grow, meta_of, touch}
use Rattle.reference.specs.Reads.{sighted}
use Rattle.reference.specs.declared.reply.Meta.{Meta}
use Rattle.reference.specs.declared.reply.Meta.TheVariants.{Dir as DirMeta, File as FileMeta}
use Rattle.call_compiler.specs.declared.indexes.Indexes.{Indexes}
use Rattle.call_compiler.specs.declared.dir_mtime.ParentDir.{ParentDir}
use Rattle.call_compiler.specs.Compiled.{Messages, metadata_after, blocks_after, touches, MeanTree, AreClear, has_grown, growth}
use Rattle.call_compiler.specs.Touches.{is_moment, needed_touches, IsDated}
use Rattle.call_compiler.proofs.Appending.{blocks_alike}
use Rattle.call_compiler.proofs.Compiling.{After}

-- messages after which each key has the same value as after others give the same tree
pub after_alike : (i : Indexes) (full sent : Messages) (t : Tree) → ((k : Key) → metadata_after sent (metadata i.meta) k ≡ metadata_after full (metadata i.meta) k) → ((k : Key) → blocks_after sent (blocks i.block) k ≡ blocks_after full (blocks i.block) k) → After i full t → After i sent t
after_alike i full sent t meta block means = record {
  tree = means.tree;
  meta = means_alike t (metadata_after full (metadata i.meta)) (metadata_after sent (metadata i.meta)) meta means.meta;
  blocks = blocks_alike t (blocks_after full (blocks i.block)) (blocks_after sent (blocks i.block)) block means.blocks;
}

-- a change that leaves the value of its key leaves all values
pub idle_edit : (q : Key) (change : Option Meta → Option Meta) (f : Metadata) → change (f q) ≡ f q → (k : Key) → f k ≡ edit_at q change f k
idle_edit q change f idle k = elim (same q k) as (λ b. same q k ≡ b → f k ≡ cond b (change (f k)) (f k)) [
  | true ↦ λ e. subst (λ (x : Key). f x ≡ change (f x)) (same_true q k e) (sym idle)
  | false ↦ λ e. refl
] refl

-- ---- mtimes of directories

parent_is : (p : Path) → IsPath p → IsPath (parent p)
parent_is p h = record { names = parent_names p h.names; fits = omega (arith, parent_len p, h.fits) }

-- the metadata of a directory whose mtime was found
dated_meta : (here : At) (date : ℕ) → moment_reported here ≡ Ok date → meta_of (sighted here) ≡ Some (DirMeta date)
dated_meta (Found (Dir d es)) date e = let same : d ≡ date = cc in ap (λ (x : ℕ). Some (DirMeta x)) same
dated_meta (Found (File d b)) date e = absurd (cc)
dated_meta Missing date e = absurd (cc)
dated_meta Blocked date e = absurd (cc)

-- a directory whose mtime is unknown needs its touch
pub unknown_touches : (at : ℕ) (d : ParentDir) (p : Path) → d.path ≡ p → d.modified ≡ None → needed_touches at d ≡ touches at (p ∷ [])
unknown_touches at d p place none = ap (λ (known : Option ℕ). cond (is_moment at known) [] (touches at (d.path ∷ []))) none ∙ ap (λ (x : Path). touches at (x ∷ [])) place

-- a touch of a directory that has the mtime is redundant, also with a new entry beside it
idle_touch : (at : ℕ) (q d : Key) (v : Meta) (f : Metadata) → touch at (Some v) ≡ Some v → touch at (f d) ≡ f d → (k : Key) → effects meta_means (Put q v ∷ []) k (f k) ≡ edit_at d (touch at) (λ j. cond (same q j) (Some v) (f j)) k
idle_touch at q d v f dated idle = idle_edit d (touch at) (λ j. cond (same q j) (Some v) (f j)) (elim (same q d) as (λ b. touch at (cond b (Some v) (f d)) ≡ cond b (Some v) (f d)) [
  | true ↦ dated
  | false ↦ idle
])

-- the needed touches have the effect of a touch
pub touched_alike : (at : ℕ) (q : Key) (p : Path) (v : Meta) (d : ParentDir) (i : Indexes) (t : Tree) → IsPath p → MeanTree i t → d.path ≡ parent p → IsDated (entry_at t (parent p)) d → touch at (Some v) ≡ Some v
    → (k : Key) → metadata_after (record { meta = Put q v ∷ needed_touches at d; block = [] }) (metadata i.meta) k ≡ metadata_after (record { meta = Put q v ∷ touches at (parent p ∷ []); block = [] }) (metadata i.meta) k
touched_alike at q p v d i t is_path means place reported dated k = by d.modified reported
  where
    full : Path → Metadata
    full x = metadata_after (record { meta = Put q v ∷ touches at (x ∷ []); block = [] }) (metadata i.meta)

    by : (known : Option ℕ) → IsDated (entry_at t (parent p)) (record { path = d.path; modified = known }) → metadata_after (record { meta = Put q v ∷ cond (is_moment at known) [] (touches at (d.path ∷ [])); block = [] }) (metadata i.meta) k ≡ full (parent p) k
    by None h = absurd h
    by (Some date) h = elim (date == at) as (λ b. (date == at) ≡ b → metadata_after (record { meta = Put q v ∷ cond b [] (touches at (d.path ∷ [])); block = [] }) (metadata i.meta) k ≡ full (parent p) k) [
      | true ↦ λ e.
          let is : date ≡ at = eqb-true date at e in
          let value : metadata i.meta (enc (parent p)) ≡ Some (DirMeta date) = means.meta.paths (parent p) (parent_is p is_path) ∙ dated_meta (entry_at t (parent p)) date h in
          let idle : touch at (metadata i.meta (enc (parent p))) ≡ metadata i.meta (enc (parent p)) = ap (touch at) value ∙ ap (λ (x : ℕ). Some (DirMeta x)) (sym is) ∙ sym value in
          idle_touch at q (enc (parent p)) v (metadata i.meta) dated idle k
      | false ↦ λ e. ap (λ (x : Path). full x k) place
    ] refl

-- ---- blocks

-- a range-delete of keys that have no value
pub idle_range : (d : Blocks) (r : KeyRange) → AreClear d r → (k : Key) → d k ≡ cleared r d k
idle_range d r none k = elim (is_in r k) as (λ b. is_in r k ≡ b → d k ≡ cond b None (d k)) [
  | true ↦ λ e. none k e
  | false ↦ λ e. refl
] refl

-- one range-delete has its effect, and so has none if no key has a value
pub range_sent : (d : Blocks) (r : KeyRange) (msgs : List (Msg BlockUpdate (List ℕ))) → msgs ≡ DelRange r ∷ [] → (k : Key) → effects block_means msgs k (d k) ≡ cleared r d k
range_sent d r msgs is k = ap (λ (ms : List (Msg BlockUpdate (List ℕ))). effects block_means ms k (d k)) is

pub range_kept : (d : Blocks) (r : KeyRange) (msgs : List (Msg BlockUpdate (List ℕ))) → msgs ≡ [] → AreClear d r → (k : Key) → effects block_means msgs k (d k) ≡ cleared r d k
range_kept d r msgs is none k = ap (λ (ms : List (Msg BlockUpdate (List ℕ))). effects block_means ms k (d k)) is ∙ idle_range d r none k

-- ---- lengths and mtimes of files

-- a growth that changes nothing
grown_already : (n at len date : ℕ) → has_grown n at len date ≡ true → grow n at (Some (FileMeta len date)) ≡ Some (FileMeta len date)
grown_already n at len date has =
    let both = and_parts (nat_le n len) (date == at) has in
    let longest : max len n ≡ len = max-eq_left (leb-true n len both.0) in
    ap (λ (l : ℕ). Some (FileMeta l at)) longest ∙ ap (λ (x : ℕ). Some (FileMeta len x)) (sym (eqb-true date at both.1))

-- the needed growth has the effect of a growth
pub grown_alike : (n at len date : ℕ) (q : Key) (f : Metadata) → f q ≡ Some (FileMeta len date) → (k : Key) → effects meta_means (growth q n at (has_grown n at len date)) k (f k) ≡ edit_at q (grow n at) f k
grown_alike n at len date q f value k = elim (has_grown n at len date) as (λ b. has_grown n at len date ≡ b → effects meta_means (growth q n at b) k (f k) ≡ edit_at q (grow n at) f k) [
  | true ↦ λ e. idle_edit q (grow n at) f (ap (grow n at) value ∙ grown_already n at len date e ∙ sym value) k
  | false ↦ λ e. refl
] refl
