-- What reads return, of a volume and of a frozen tree.
use Rattle.std.specs.Prelude.{◌≡◌, ◌⊎◌, ◌↔◌, List, ℕ, Option, Some, None, Result, Err, [], true, if◌then◌else◌, nat_le, MatchResult, IfSome}
use Rattle.std.specs.FinMap as finite
use Rattle.call_compiler.specs.declared.indexes.Indexes.{Indexes}
use Rattle.flush.specs.Heaviest.{loads, FlushesHeaviest}
use Rattle.node.specs.Places.{way}
use Rattle.node.specs.Pure.{PNode}
use Rattle.node.specs.Report.{report_of, total}
use Rattle.node.specs.Steps.{there}
use Rattle.node.specs.declared.report.Quantity.TheVariants.{Pending}
use Rattle.node.specs.declared.place.TreeStep.{TreeStep}
use Rattle.node.specs.declared.report.ShapeReport.{ShapeReport}
use Rattle.pathkey.specs.declared.errno.Errno.{Errno}
use Rattle.pathkey.specs.declared.errno.Errno.TheVariants.{ENOENT, ENOMEM}
use Rattle.reference.specs.Calls.{does}
use Rattle.reference.specs.Tree.{Tree}
use Rattle.reference.specs.Worlds.{World}
use Rattle.reference.specs.declared.call.Call.{Call}
use Rattle.reference.specs.declared.reply.Reply.{Reply}
use Rattle.reference.specs.declared.reply.Reply.TheVariants.{Fault}
use Rattle.volume.specs.Volumes.{MeanRooted}
use Rattle.volume.specs.declared.event.Index.{Index}
use Rattle.volume.specs.declared.event.Index.TheVariants.{Meta, Block}
use Rattle.volume.specs.declared.fs_root.FsRoot.{FsRoot}

-- the reply of a call that reads: that of the table of calls for the tree, whatever the timestamp, or ENOMEM
abbrev pub Tells : Call → Reply → FsRoot → Type 0
Tells c r i = (t : Tree) (at : ℕ) → MeanRooted i t → (r ≡ (does at t c).1) ⊎ (r ≡ Fault ENOMEM)

-- indexes that abstract to the world's snapshot of that name; the answer is ENOENT exactly if there is none, and any other failure
-- is ENOMEM
pub record Finds (s : List ℕ) (answer : Result FsRoot Errno) (w : World) : Type 0 where
  pub found : MatchResult answer (λ i. (t : Tree) × (finite.get w.snapshots s ≡ Some t) × MeanRooted i t) (λ e. (e ≡ ENOENT) ⊎ (e ≡ ENOMEM))
  pub none : (answer ≡ Err ENOENT) ↔ (finite.get w.snapshots s ≡ None)

-- the flush of the first of the fullest slots, which can be done; none exactly if no message is pending
pub record NamesHeaviest {U V : Type 0} (step : Option TreeStep) (root : PNode U V) : Type 0 where
  pub nothing : (step ≡ None) ↔ (total Pending root ≡ 0)
  pub first : IfSome step (FlushesHeaviest (loads [] root))
  pub can_be_done : IfSome step (λ s. there s.kind s.slot (way s.at) None root ≡ true)

-- the same in the tree of an index
abbrev pub HeaviestIn : Index → Option TreeStep → Indexes → Type 0
HeaviestIn Meta step i = NamesHeaviest step i.meta.tree.root
HeaviestIn Block step i = NamesHeaviest step i.block.tree.root

-- how large the tree of the index is
abbrev pub report_in : Index → Indexes → ShapeReport
report_in Meta i = report_of i.meta.tree
report_in Block i = report_of i.block.tree

-- how many pieces are pending in the tree of the index
abbrev pub pending_in : Index → Indexes → ℕ
pending_in Meta i = total Pending i.meta.tree.root
pending_in Block i = total Pending i.block.tree.root

-- the index with more pending pieces, or the metadata index if both have as many
abbrev pub busier : Indexes → Index
busier i = if nat_le (pending_in Block i) (pending_in Meta i) then Meta else Block
