-- The calls that create or remove an entry of a directory: `mkdir`, `create`, `rmdir` and `rmtree`.
use Rattle.std.proofs.Common.{◌≡◌, ℕ, ◌≤◌, [], ◌∷◌, Bool, true, false, cond, refl, subst, sym, ◌∙◌, arith, Option, Some, None}
use Rattle.std.specs.Prelude.{Ok, MatchOption}
use Rattle.std.proofs.lemmas.Bool.{eq-eqb}
use Rattle.block_index.specs.Means.{blocks}
use Rattle.message.specs.declared.msg.Msg.TheVariants.{Put, Del, DelRange}
use Rattle.meta_index.specs.Means.{metadata, IsMeantBy, moment_reported}
use Rattle.pathkey.specs.Enc.{enc}
use Rattle.pathkey.specs.Keys.{subtree}
use Rattle.pathkey.specs.Names.{Path, IsPath}
use Rattle.pathkey.specs.declared.errno.Errno.{Errno}
use Rattle.reference.specs.Tree.{Tree, At, entry_at}
use Rattle.reference.specs.Indexes.{touch}
use Rattle.reference.specs.Calls.{first_fault, faults_of_new, faults_of_rmdir, faults_of_rmtree, parent, does}
use Rattle.reference.specs.Shape.{IsMoment}
use Rattle.reference.specs.declared.call.Call.TheVariants.{Mkdir, Create, Rmdir, Rmtree}
use Rattle.reference.specs.declared.reply.Meta.{Meta}
use Rattle.reference.specs.declared.reply.Meta.TheVariants.{Dir as DirMeta, File as FileMeta}
use Rattle.reference.specs.declared.reply.Reply.{Reply}
use Rattle.reference.specs.declared.reply.Reply.TheVariants.{Done, Fault}
use Rattle.reference.proofs.IndexLaws.{mkdir_law, create_law, rmdir_law, rmtree_law}
use Rattle.call_compiler.specs.declared.indexes.Indexes.{Indexes}
use Rattle.call_compiler.specs.declared.dir_mtime.ParentDir.{ParentDir}
use Rattle.call_compiler.specs.Compiled.{Messages, no_messages, count, touches, MeanTree, SendsNew, IsCompiled}
use Rattle.call_compiler.specs.Touches.{is_moment, has_moment, needed_touches, IsDated}
use Rattle.call_compiler.proofs.Compiling.{After, meta_meant, compiled_refused, compiled_done}
use Rattle.call_compiler.proofs.Idle.{after_alike, touched_alike}
use Rattle.call_compiler.proofs.Faults.{mkdir_refused, mkdir_done, create_refused, create_done, rmdir_refused, rmdir_done, rmtree_refused, rmtree_done}

-- the directory is the path's parent, and has the mtime that was found, if it was looked up
abbrev pub IsParent : Indexes → Path → ParentDir → Type 0
IsParent i p d = (d.path ≡ parent p) × ((t : Tree) → IsMeantBy t i.meta → IsDated (entry_at t (parent p)) d)

module _ (i : Indexes) (p : Path) (at : ℕ) (reply : Reply) (msgs : Messages) where
  -- a new entry and the needed touches have the effect of the entry and a touch
  made_alike : (v : Meta) (d : ParentDir) → IsParent i p d → IsPath p → touch at (Some v) ≡ Some v → (t t' : Tree) → MeanTree i t → After i (record { meta = Put (enc p) v ∷ touches at (parent p ∷ []); block = [] }) t' → After i (record { meta = Put (enc p) v ∷ needed_touches at d; block = [] }) t'
  made_alike v d of is_path dated t t' means = after_alike i (record { meta = Put (enc p) v ∷ touches at (parent p ∷ []); block = [] }) (record { meta = Put (enc p) v ∷ needed_touches at d; block = [] }) t'
      (touched_alike at (enc p) p v d i t is_path means of.0 (of.1 t (meta_meant i t means)) dated)
      (λ k. refl)

  -- and they are no more messages
  some_made : (v : Meta) (d : ParentDir) → count (record { meta = Put (enc p) v ∷ needed_touches at d; block = [] }) ≤ 2
  some_made v d = elim (has_moment at d) as (λ b. count (record { meta = Put (enc p) v ∷ cond b [] (touches at (d.path ∷ [])); block = [] }) ≤ 2) [
    | true ↦ omega arith
    | false ↦ omega arith
  ]

  one_made : (v : Meta) (d : Path) (known : Option ℕ) (here : At) → MatchOption known ⊥ (λ date. moment_reported here ≡ Ok date) → moment_reported here ≡ Ok at → count (record { meta = Put (enc p) v ∷ cond (is_moment at known) [] (touches at (d ∷ [])); block = [] }) ≤ 1
  one_made v d None here reported dated = absurd reported
  one_made v d (Some date) here reported dated =
      let same : date ≡ at = cc in
      subst (λ (b : Bool). count (record { meta = Put (enc p) v ∷ cond b [] (touches at (d ∷ [])); block = [] }) ≤ 1) (sym (eq-eqb date at same)) (omega arith)

  few_made : (v : Meta) (d : ParentDir) → IsParent i p d → (count (record { meta = Put (enc p) v ∷ needed_touches at d; block = [] }) ≤ 2) × SendsNew i p at (record { meta = Put (enc p) v ∷ needed_touches at d; block = [] })
  few_made v d of = (some_made v d, λ t means dated. one_made v d.path d.modified (entry_at t (parent p)) (of.1 t (meta_meant i t means)) dated)

  -- the first fault is the same in every tree to which the indexes abstract
  module _ (fault : Option Errno) (first : (t : Tree) → IsMeantBy t i.meta → fault ≡ first_fault (faults_of_new t p)) where
    pub mkdir_is_refused : (e : Errno) → fault ≡ Some e → reply ≡ Fault e → msgs ≡ no_messages → IsCompiled i (Mkdir p) at reply msgs
    mkdir_is_refused e is = compiled_refused i (Mkdir p) at reply msgs e (λ t means. mkdir_refused at t p e (sym (first t (meta_meant i t means)) ∙ is))

    pub mkdir_is_done : fault ≡ None → IsMoment at → IsPath p → (d : ParentDir) → IsParent i p d → reply ≡ Done → msgs ≡ record { meta = Put (enc p) (DirMeta at) ∷ needed_touches at d; block = [] } → IsCompiled i (Mkdir p) at reply msgs
    mkdir_is_done is early is_path d of = compiled_done i (Mkdir p) at reply msgs Done (record { meta = Put (enc p) (DirMeta at) ∷ needed_touches at d; block = [] }) (λ e. (λ f. cc))
        (λ t means. mkdir_done at t p (sym (first t (meta_meant i t means)) ∙ is))
        (λ t means e. made_alike (DirMeta at) d of is_path refl t (does at t (Mkdir p)).0 means (mkdir_law at t (does at t (Mkdir p)).0 p (metadata i.meta) (blocks i.block) early means is_path e))
        (few_made (DirMeta at) d of)

    pub create_is_refused : (e : Errno) → fault ≡ Some e → reply ≡ Fault e → msgs ≡ no_messages → IsCompiled i (Create p) at reply msgs
    create_is_refused e is = compiled_refused i (Create p) at reply msgs e (λ t means. create_refused at t p e (sym (first t (meta_meant i t means)) ∙ is))

    pub create_is_done : fault ≡ None → IsMoment at → IsPath p → (d : ParentDir) → IsParent i p d → reply ≡ Done → msgs ≡ record { meta = Put (enc p) (FileMeta 0 at) ∷ needed_touches at d; block = [] } → IsCompiled i (Create p) at reply msgs
    create_is_done is early is_path d of = compiled_done i (Create p) at reply msgs Done (record { meta = Put (enc p) (FileMeta 0 at) ∷ needed_touches at d; block = [] }) (λ e. (λ f. cc))
        (λ t means. create_done at t p (sym (first t (meta_meant i t means)) ∙ is))
        (λ t means e. made_alike (FileMeta 0 at) d of is_path refl t (does at t (Create p)).0 means (create_law at t (does at t (Create p)).0 p (metadata i.meta) (blocks i.block) early means is_path e))
        (few_made (FileMeta 0 at) d of)

  module _ (fault : Option Errno) (first : (t : Tree) → IsMeantBy t i.meta → fault ≡ first_fault (faults_of_rmdir t p)) where
    pub rmdir_is_refused : (e : Errno) → fault ≡ Some e → reply ≡ Fault e → msgs ≡ no_messages → IsCompiled i (Rmdir p) at reply msgs
    rmdir_is_refused e is = compiled_refused i (Rmdir p) at reply msgs e (λ t means. rmdir_refused at t p e (sym (first t (meta_meant i t means)) ∙ is))

    pub rmdir_is_done : fault ≡ None → IsMoment at → IsPath p → reply ≡ Done → msgs ≡ record { meta = Del (enc p) ∷ touches at (parent p ∷ []); block = [] } → IsCompiled i (Rmdir p) at reply msgs
    rmdir_is_done is early is_path = compiled_done i (Rmdir p) at reply msgs Done (record { meta = Del (enc p) ∷ touches at (parent p ∷ []); block = [] }) (λ e. (λ f. cc))
        (λ t means. rmdir_done at t p (sym (first t (meta_meant i t means)) ∙ is))
        (λ t means e. rmdir_law at t (does at t (Rmdir p)).0 p (metadata i.meta) (blocks i.block) early means is_path e)
        (omega arith)

  module _ (fault : Option Errno) (first : (t : Tree) → IsMeantBy t i.meta → fault ≡ first_fault (faults_of_rmtree t p)) where
    pub rmtree_is_refused : (e : Errno) → fault ≡ Some e → reply ≡ Fault e → msgs ≡ no_messages → IsCompiled i (Rmtree p) at reply msgs
    rmtree_is_refused e is = compiled_refused i (Rmtree p) at reply msgs e (λ t means. rmtree_refused at t p e (sym (first t (meta_meant i t means)) ∙ is))

    pub rmtree_is_done : fault ≡ None → IsMoment at → IsPath p → reply ≡ Done → msgs ≡ record { meta = DelRange (subtree p) ∷ touches at (parent p ∷ []); block = DelRange (subtree p) ∷ [] } → IsCompiled i (Rmtree p) at reply msgs
    rmtree_is_done is early is_path = compiled_done i (Rmtree p) at reply msgs Done (record { meta = DelRange (subtree p) ∷ touches at (parent p ∷ []); block = DelRange (subtree p) ∷ [] }) (λ e. (λ f. cc))
        (λ t means. rmtree_done at t p (sym (first t (meta_meant i t means)) ∙ is))
        (λ t means e. rmtree_law at t (does at t (Rmtree p)).0 p (metadata i.meta) (blocks i.block) early means is_path e)
        (omega arith)
