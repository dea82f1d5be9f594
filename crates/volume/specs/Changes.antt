-- What each call does to a volume.
use Rattle.std.specs.Prelude.{◌≡◌, ℕ, List, [], ◌∷◌, Option, Some, Result, IfOk, IfErr, OnErr, OnOk}
use Rattle.std.specs.FinMap as finite
use Rattle.block_index.specs.Updates.{means as block_means}
use Rattle.call_compiler.specs.Compiled.{Messages, MeanTree, Sends}
use Rattle.call_compiler.specs.Laws.{HaveTaken}
use Rattle.call_compiler.specs.declared.indexes.Indexes.{Indexes}
use Rattle.message.specs.declared.msg.Msg.{Msg}
use Rattle.meta_index.specs.Updates.{means as meta_means}
use Rattle.node.specs.Appended.{Appended}
use Rattle.node.specs.Places.{way}
use Rattle.node.specs.Pure.{PTree}
use Rattle.node.specs.RootSteps.{StepAnswers}
use Rattle.node.specs.Steps.{UnlessDid}
use Rattle.node.specs.declared.place.TreeStep.{TreeStep}
use Rattle.node.specs.declared.step.StepReply.{StepReply}
use Rattle.pathkey.specs.declared.errno.Errno.{Errno}
use Rattle.reference.specs.Calls.{does}
use Rattle.reference.specs.Tree.{Tree}
use Rattle.reference.specs.Worlds.{World, Snapped, Event, Ask, Answer, Replied, Settled, Fits, next}
use Rattle.reference.specs.declared.call.Call.{Call}
use Rattle.reference.specs.declared.reply.Reply.{Reply}
use Rattle.reference.specs.declared.reply.Reply.TheVariants.{Fault}
use Rattle.volume.specs.declared.event.Index.{Index}
use Rattle.volume.specs.declared.event.Index.TheVariants.{Meta, Block}
use Rattle.volume.specs.declared.event.Step.{Step}
use Rattle.volume.specs.Marked.{PLive, KeepMarkedLists, KeepsMarks, marks_left, no_marks}
use Rattle.volume.specs.Volumes.{PVolume, Means, live_of}

-- the answer fits each world of the old volume, and the new volume abstracts to the next one
abbrev pub Leads : Event → Answer → PVolume → PVolume → Type 0
Leads e a old new = (w : World) → Means old w → Fits w e a × Means new (next w e a)

-- ---- file calls

-- live indexes to which messages were to be appended: each index received its half, or nothing changed; marked lists keep what
-- they had at their front, and all marks stay
pub record AppendsLive {T E : Type 0} (msgs : Messages) (r : Result T E) (old new : PLive) : Type 0 where
  pub taken : OnOk r (HaveTaken msgs old.indexes new.indexes)
  pub no_meta : msgs.meta ≡ [] → new.indexes.meta ≡ old.indexes.meta
  pub no_block : msgs.block ≡ [] → new.indexes.block ≡ old.indexes.block
  pub lists : OnOk r (KeepMarkedLists msgs old new)
  pub err : OnErr r (new ≡ old)
  pub marks : new.marks ≡ old.marks
  pub kept : KeepsMarks old new

-- a tree to which the messages were appended; no messages change nothing
abbrev pub Receives : {U V : Type 0} → (U → Option V → Option V) → List (Msg U V) → PTree U V → PTree U V → Type 0
Receives means [] old new = new ≡ old
Receives means (m ∷ ms) old new = Appended means (m ∷ ms) old new

-- each index received its half of one batch, which has no more messages than the call may send; marked lists keep what
-- they had at their front
pub record Batched (c : Call) (at : ℕ) (old new : PLive) : Type 0 where
  pub msgs : Messages
  pub sends : Sends old.indexes c at msgs
  pub meta : Receives meta_means msgs.meta old.indexes.meta.tree new.indexes.meta.tree
  pub block : Receives block_means msgs.block old.indexes.block.tree new.indexes.block.tree
  pub lists : KeepMarkedLists msgs old new

-- the reply is that of the table of calls for each tree to which the indexes abstracted, and they then abstract to the tree
-- after the call
abbrev pub Does : Call → ℕ → Reply → Indexes → Indexes → Type 0
Does c at r old new = (t : Tree) → MeanTree old t → (r ≡ (does at t c).1) × MeanTree new (does at t c).0

-- a file call at a timestamp: its answer is the world's, it changes nothing if it fails, each live index receives its half of one
-- batch, no snapshot changes, and all marks stay
pub record Called (c : Call) (at : ℕ) (r : Reply) (old new : PVolume) : Type 0 where
  pub leads : Leads (Ask c at) (Replied r) old new
  pub refused : (e : Errno) → r ≡ Fault e → new ≡ old
  pub batch : Batched c at (live_of old) (live_of new)
  pub snapshots : new.snapshots ≡ old.snapshots
  pub marks : new.marks ≡ old.marks
  pub kept : KeepsMarks (live_of old) (live_of new)

-- ---- snapshot calls

-- a snapshot call: its answer is the world's; if it succeeds, `Done` holds, and if it fails, nothing changed
pub record Settles (e : Event) (Done : PVolume → PVolume → Type 0) (r : Snapped) (old new : PVolume) : Type 0 where
  pub leads : Leads e (Settled r) old new
  pub done : IfOk r (λ _. Done old new)
  pub refused : IfErr r (λ _. new ≡ old)
  pub kept : KeepsMarks (live_of old) (live_of new)

-- the live indexes are also stored under the name, with the mtime of their root
abbrev pub KeptAs : List ℕ → PVolume → PVolume → Type 0
KeptAs s old new = new ≡ record old { snapshots = finite.insert old.snapshots s old.live }

-- the name was removed
abbrev pub Dropped : List ℕ → PVolume → PVolume → Type 0
Dropped s old new = new ≡ record old { snapshots = finite.remove old.snapshots s }

-- the live indexes and the mtime of their root are those under the name, which stay there, and all marks were removed
abbrev pub Restored : List ℕ → PVolume → PVolume → Type 0
Restored s old new = (finite.get old.snapshots s ≡ Some new.live) × (new.snapshots ≡ old.snapshots) × (new.marks ≡ no_marks old.marks.given)

-- ---- tree steps

-- the reply is that of the step in the index that it names, and the other index is unchanged
abbrev pub StepsIn : Index → TreeStep → StepReply → Indexes → Indexes → Type 0
StepsIn Meta step r old new = StepAnswers meta_means step.kind (way step.at) step.slot r old.meta.tree new.meta.tree × (new.block ≡ old.block)
StepsIn Block step r old new = StepAnswers block_means step.kind (way step.at) step.slot r old.block.tree new.block.tree × (new.meta ≡ old.meta)

-- the same for live indexes with their marks, of which those remain that outlive the step
pub record StepsLive (s : Step) (r : StepReply) (old new : PLive) : Type 0 where
  pub index : StepsIn s.index s.step r old.indexes new.indexes
  pub marks : new.marks ≡ marks_left s.index s.step r old
  pub kept : KeepsMarks old new

-- a tree step: the volume abstracts to the same worlds, is unchanged if the step is not done, and neither the root's mtime
-- nor a snapshot changes
pub record Stepped (s : Step) (r : StepReply) (old new : PVolume) : Type 0 where
  pub keeps : (w : World) → Means old w → Means new w
  pub refused : UnlessDid r (new ≡ old)
  pub live : StepsLive s r (live_of old) (live_of new)
  pub root : new.live.modified ≡ old.live.modified
  pub snapshots : new.snapshots ≡ old.snapshots
