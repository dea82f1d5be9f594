-- If no slot is marked, no list has to be preserved.
use Rattle.std.proofs.Common.{◌≡◌, List, [], ◌∷◌, length, arith, None}
use Rattle.std.specs.Prelude.{Result, Ok, Err, OnOk}
use Rattle.call_compiler.specs.Compiled.{Messages}
use Rattle.jobs.specs.Marks.{kept_in, kept_numbers}
use Rattle.jobs.specs.declared.mark.Mark.{Mark}
use Rattle.message.specs.declared.msg.Msg.{Msg}
use Rattle.node.specs.Appended.{batches_by_slot}
use Rattle.node.specs.Grafts.{KeepLists, KeepsLists}
use Rattle.node.specs.Pure.{PNode, leaf, inner, PSlots, none, more}
use Rattle.volume.specs.Marked.{PLive, KeepMarkedLists}

module _ {U V : Type 0} where
  no_slots_kept : (ps : List (List (Msg U V))) (ss new : PSlots U V) → KeepLists (kept_numbers [] ss) ps ss new
  no_slots_kept ps none new = tt
  no_slots_kept [] (more lo old n ss) new = tt
  no_slots_kept (p ∷ ps) (more lo old n ss) none = tt
  no_slots_kept (p ∷ ps) (more lo old n ss) (more lo' new n' ss') = (λ some. absurd (omega (arith, some)), no_slots_kept ps ss ss')

  no_lists_kept : (msgs : List (Msg U V)) (ms : List Mark) (a b : PNode U V) → length ms ≡ 0 → KeepsLists (kept_in ms a) msgs a b
  no_lists_kept msgs [] (leaf es) (leaf new) e = tt
  no_lists_kept msgs [] (leaf es) (inner new) e = tt
  no_lists_kept msgs [] (inner ss) (leaf new) e = tt
  no_lists_kept msgs [] (inner ss) (inner new) e = no_slots_kept (batches_by_slot None msgs ss) ss new
  no_lists_kept msgs (m ∷ ms) a b e = absurd (omega (arith, e))

pub unmarked : {T X : Type 0} (r : Result T X) (msgs : Messages) (l new : PLive) → length l.marks.meta ≡ 0 → length l.marks.block ≡ 0 → OnOk r (KeepMarkedLists msgs l new)
unmarked (Ok x) msgs l new m b = record {
  meta = no_lists_kept msgs.meta l.marks.meta l.indexes.meta.tree.root new.indexes.meta.tree.root m;
  block = no_lists_kept msgs.block l.marks.block l.indexes.block.tree.root new.indexes.block.tree.root b;
}
unmarked (Err x) msgs l new m b = tt
