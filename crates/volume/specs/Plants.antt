-- What an entry that is planted makes of a volume.
use Rattle.std.specs.Prelude.{◌≡◌, ◌⊎◌, Bool, true, false, [], ◌∷◌, Err, IfOk, IfErr}
use Rattle.call_compiler.specs.Compiled.{Messages, MeanTree}
use Rattle.call_compiler.specs.declared.indexes.Indexes.{Indexes}
use Rattle.message.specs.declared.msg.Msg.TheVariants.{Put}
use Rattle.meta_index.specs.Updates.{means as meta_means}
use Rattle.node.specs.Appended.{Appended}
use Rattle.pathkey.specs.Enc.{enc}
use Rattle.pathkey.specs.declared.errno.Errno.TheVariants.{ENOMEM}
use Rattle.reference.specs.Plant.{planted}
use Rattle.reference.specs.Tree.{Path, Tree}
use Rattle.reference.specs.Worlds.{World, Snapped}
use Rattle.reference.specs.declared.reply.Meta.{Meta}
use Rattle.reference.specs.declared.reply.Meta.TheVariants.{Dir as DirMeta, File as FileMeta}
use Rattle.volume.specs.Marked.{KeepMarkedLists, KeepsMarks}
use Rattle.volume.specs.Volumes.{PVolume, Means, live_of}

-- it is that of a directory
abbrev pub is_directory : Meta → Bool
is_directory (DirMeta date) = true
is_directory (FileMeta n date) = false

-- the one message that plants an entry
abbrev pub one_put : Path → Meta → Messages
one_put p m = record { meta = Put (enc p) m ∷ []; block = [] }

-- an entry that is planted in indexes, or the root's mtime: the answer is the table's for each tree to which they abstract, or ENOMEM; they
-- then abstract to the tree with the entry, by one message in the metadata, or are unchanged
pub record PlantsIn (p : Path) (m : Meta) (r : Snapped) (old new : Indexes) : Type 0 where
  pub answer : (t : Tree) → MeanTree old t → (r ≡ (planted t p m).1) ⊎ (r ≡ Err ENOMEM)
  pub means : IfOk r (λ _. (t : Tree) → MeanTree old t → MeanTree new (planted t p m).0)
  pub message : IfOk r (λ _. Appended meta_means (Put (enc p) m ∷ []) old.meta.tree new.meta.tree)
  pub block : IfOk r (λ _. new.block ≡ old.block)
  pub refused : IfErr r (λ _. new ≡ old)

-- the same of a volume, whose snapshots and marks stay; marked lists stay in front of the message
pub record Plants (p : Path) (m : Meta) (r : Snapped) (old new : PVolume) : Type 0 where
  pub answer : (w : World) → Means old w → (r ≡ (planted w.live p m).1) ⊎ (r ≡ Err ENOMEM)
  pub means : IfOk r (λ _. (w : World) → Means old w → Means new (record w { live = (planted w.live p m).0 }))
  pub message : IfOk r (λ _. Appended meta_means (Put (enc p) m ∷ []) old.live.indexes.meta.tree new.live.indexes.meta.tree)
  pub block : IfOk r (λ _. new.live.indexes.block ≡ old.live.indexes.block)
  pub lists : IfOk r (λ _. KeepMarkedLists (one_put p m) (live_of old) (live_of new))
  pub refused : IfErr r (λ _. new ≡ old)
  pub snapshots : new.snapshots ≡ old.snapshots
  pub marks : new.marks ≡ old.marks
  pub kept : KeepsMarks (live_of old) (live_of new)
