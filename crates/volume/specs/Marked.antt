-- Live indexes, and beside them the marks of the jobs taken from their trees.
use Rattle.std.specs.Prelude.{ℕ, ◌+◌, ◌≤◌, ◌^◌, List, [], Option, length}
use Rattle.block_index.specs.Updates.{means as block_means}
use Rattle.block_index.specs.declared.update.BlockUpdate.{BlockUpdate}
use Rattle.call_compiler.specs.Compiled.{Messages}
use Rattle.call_compiler.specs.declared.indexes.Indexes.{Indexes}
use Rattle.jobs.specs.Marks.{PMarked, AreMarks, Each, KeepsContent, kept_in, without}
use Rattle.jobs.specs.Replies.{KeepsFits}
use Rattle.jobs.specs.Survive.{survives, left_by}
use Rattle.jobs.specs.declared.mark.Mark.{Mark}
use Rattle.meta_index.specs.Updates.{means as meta_means}
use Rattle.meta_index.specs.declared.update.MetaUpdate.{MetaUpdate}
use Rattle.node.specs.Grafts.{KeepsLists}
use Rattle.node.specs.Lawful.{IsLawful}
use Rattle.node.specs.Places.{way}
use Rattle.node.specs.declared.place.TreeStep.{TreeStep}
use Rattle.node.specs.declared.step.StepReply.{StepReply}
use Rattle.reference.specs.declared.reply.Meta.{Meta as MetaValue}
use Rattle.volume.specs.declared.event.Index.{Index}
use Rattle.volume.specs.declared.event.Index.TheVariants.{Meta, Block}

-- the marks of each index, and how many jobs were taken in all
pub record PMarks : Type 0 where
  pub meta : List Mark
  pub block : List Mark
  pub given : ℕ

-- live indexes with their marks
pub record PLive : Type 0 where
  pub indexes : Indexes
  pub marks : PMarks

-- no marks, after so many jobs were taken
abbrev pub no_marks : ℕ → PMarks
no_marks given = record { meta = []; block = []; given = given }

-- the marks without that of the ticket
abbrev pub without_mark : ℕ → PMarks → PMarks
without_mark t m = record m { meta = without t m.meta; block = without t m.block }

-- the tree of an index with its marks
abbrev pub meta_marked : PLive → PMarked MetaUpdate MetaValue
meta_marked l = record { tree = l.indexes.meta.tree; marks = l.marks.meta; given = l.marks.given }

abbrev pub block_marked : PLive → PMarked BlockUpdate (List ℕ)
block_marked l = record { tree = l.indexes.block.tree; marks = l.marks.block; given = l.marks.given }

-- each mark has a slot of its own in its tree's root, there are at most 64 in all, and no ticket was given twice
pub record AreMarked (l : PLive) : Type 0 where
  pub meta : AreMarks l.indexes.meta.tree.root 0 l.marks.meta l.marks.given
  pub block : AreMarks l.indexes.block.tree.root 0 l.marks.block l.marks.given
  pub few : length l.marks.meta + length l.marks.block ≤ 64
  pub given : l.marks.given ≤ 2 ^ 64

-- the invariant of live indexes with their marks: both trees are lawful, and so are the marks
pub record Stands (l : PLive) : Type 0 where
  pub meta : IsLawful l.indexes.meta.tree
  pub block : IsLawful l.indexes.block.tree
  pub marks : AreMarked l

-- what a call preserves of one index: each mark that still exists has the content that it had, and so do the marks of each
-- ticket that was given
pub record Keeps {U V : Type 0} (means : U → Option V → Option V) (a b : PMarked U V) : Type 0 where
  pub content : Each (KeepsContent means a.tree b.tree) b.marks
  pub fits : KeepsFits means a b

-- the same of both, and no ticket is taken back
pub record KeepsMarks (old new : PLive) : Type 0 where
  pub meta : Keeps meta_means (meta_marked old) (meta_marked new)
  pub block : Keeps block_means (block_marked old) (block_marked new)
  pub given : old.marks.given ≤ new.marks.given

-- in both indexes, the list of each marked slot keeps its messages, and its part of the new messages follows them
pub record KeepMarkedLists (msgs : Messages) (old new : PLive) : Type 0 where
  pub meta : KeepsLists (kept_in old.marks.meta old.indexes.meta.tree.root) msgs.meta old.indexes.meta.tree.root new.indexes.meta.tree.root
  pub block : KeepsLists (kept_in old.marks.block old.indexes.block.tree.root) msgs.block old.indexes.block.tree.root new.indexes.block.tree.root

-- the marks that a step leaves: in its own index those that outlive it
abbrev pub marks_left : Index → TreeStep → StepReply → PLive → PMarks
marks_left Meta s r l = record (l.marks) { meta = left_by r (survives s.kind (way s.at) s.slot l.indexes.meta.tree.root) l.marks.meta }
marks_left Block s r l = record (l.marks) { block = left_by r (survives s.kind (way s.at) s.slot l.indexes.block.tree.root) l.marks.block }
