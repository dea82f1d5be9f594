-- What is looked up of a volume before an edit is done.
use Rattle.std.proofs.Common.{◌≡◌, ⊎_elim, ℕ, [], ◌∷◌, List, take, drop, true, false, Option, None, Some, Result, Err, sym, refl, ap, ◌∙◌, subst}
use Rattle.std.specs.Prelude.{is_some}
use Rattle.call_compiler.specs.declared.indexes.Indexes.{Indexes}
use Rattle.meta_index.specs.Means.{IsMeantBy, moment_in, moment_reported}
use Rattle.pathkey.specs.Names.{parent}
use Rattle.pathkey.specs.declared.errno.Errno.{Errno}
use Rattle.reference.specs.Calls.{does, no_directory_fault, path_fault}
use Rattle.reference.specs.Indexes.{meta_of}
use Rattle.reference.specs.Reads.{Bytes, Directory, Seen, Sight, sight, sighted}
use Rattle.reference.specs.Shape.{IsDirectory, IsTree}
use Rattle.reference.specs.Tree.{At, Blocked, Dir, File, Found, Missing, Path, Tree, entry_at}
use Rattle.reference.specs.Worlds.{Replied, World}
use Rattle.reference.specs.declared.call.Call.TheVariants.{Read}
use Rattle.reference.specs.declared.reply.Meta.{Meta}
use Rattle.reference.specs.declared.reply.Reply.TheVariants.{Data}
use Rattle.reference.proofs.Standing.{parent_from_found}
use Rattle.volume.specs.Changes.{Called}
use Rattle.volume.specs.Volumes.{Means, PVolume}
use Rattle.edits.proofs.Patching.{block_read}

-- the metadata of a volume abstract to the live tree of its world
meant_by : (v : PVolume) (w : World) → Means v w → IsMeantBy w.live v.live.indexes.meta
meant_by v w m = record { tree = m.live.indexes.tree; meta = m.live.indexes.meta }

reported_fault : (a : At) (f : Errno) → moment_reported a ≡ Err f → no_directory_fault a ≡ None → ⊥
reported_fault (Found (Dir date es)) f h g = cc
reported_fault (Found (File date b)) f h g = cc
reported_fault Missing f h g = cc
reported_fault Blocked f h g = cc

root_reported : (t : Tree) (f : Errno) → IsDirectory t → moment_reported (Found t) ≡ Err f → ⊥
root_reported (Dir date es) f root h = cc
root_reported (File date b) f root h = root

nothing_from : (a : At) → (path_fault a ≡ None → ⊥) → meta_of (sighted a) ≡ None
nothing_from (Found x) h = absurd (h refl)
nothing_from Missing h = refl
nothing_from Blocked h = refl

-- without a parent directory there is no entry
no_parent : (t : Tree) (p : Path) (f : Errno) → IsTree t → moment_reported (entry_at t (parent p)) ≡ Err f → meta_of (sight t p) ≡ None
no_parent t [] f is h = absurd (root_reported t f is.root h)
no_parent t (k ∷ q) f is h = nothing_from (entry_at t (k ∷ q)) (λ there. reported_fault (entry_at t (parent (k ∷ q))) f h (parent_from_found (k ∷ q) t (λ e. cc) there))

-- where no parent directory is reported there is no entry
pub no_entry : (v : PVolume) (i : Indexes) (p : Path) (r : Result (Path × ℕ) Errno) (f : Errno) → i ≡ v.live.indexes → ((t : Tree) → IsMeantBy t i.meta → moment_in r ≡ moment_reported (entry_at t (parent p))) → r ≡ Err f → (w : World) → Means v w → meta_of (sight w.live p) ≡ None
no_entry v i p r f same reported is w m = no_parent w.live p f m.live.indexes.tree (sym (reported w.live (subst (λ (x : Indexes). IsMeantBy w.live x.meta) (sym same) (meant_by v w m))) ∙ ap moment_in is)

-- nothing is seen where there are no metadata
pub nothing_seen : (found : Option Meta) (s : Option Sight) → is_some found ≡ false → found ≡ meta_of s → s ≡ None
nothing_seen found None h e = refl
nothing_seen found (Some (Seen Directory date)) h e = absurd (let z : true ≡ false = ap is_some (sym e) ∙ h in cc)
nothing_seen found (Some (Seen (Bytes b) date)) h e = absurd (let z : true ≡ false = ap is_some (sym e) ∙ h in cc)

-- a file is read as it is, unless memory is refused
pub read_from : (v : PVolume) (p : Path) (off at : ℕ) (bytes : List ℕ) → Called (Read p off 4096) at (Data bytes) v v → (w : World) → Means v w → (b : List ℕ) (date : ℕ) → sight w.live p ≡ Some (Seen (Bytes b) date) → bytes ≡ take 4096 (drop off b)
read_from v p off at bytes h w m b date seen = ⊎_elim (λ e. let is : Data bytes ≡ Data (take 4096 (drop off b)) = same e ∙ block_read at w.live p off date b seen in cc) (λ e. absurd (cc)) (h.leads w m).0
  where
    same : Replied (Data bytes) ≡ Replied (does at w.live (Read p off 4096)).1 → Data bytes ≡ (does at w.live (Read p off 4096)).1
    same e = (cc)
