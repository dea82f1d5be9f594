use Rattle.std.proofs.Common.{List, ap, inl, map, sym, subst, ◌∙◌}
use Rattle.change_log.specs.Snapshots.{ArePast, Since, with_batch}
use Rattle.change_log.specs.Touched.{Touched, with_msgs}
use Rattle.change_log.proofs.Known.{batch_known, batch_past, known}
use Rattle.change_log.proofs.Results.{of_ok}
use Rattle.change_log.proofs.change_log.ChangeLog.note.Goals as goal

pub invariant_of-self : goal.invariant_of-self
invariant_of-self g c =
    let meta = of_ok c.note.result (sym c.is_err.ensures.value ∙ c.if-is_err.false) c.note.ensures in
    let block = of_ok c.note-else-is_err.result (sym c.is_err-else-is_err.ensures.value ∙ c.if-is_err-2.false) c.note-else-is_err.ensures in
    subst (λ (t : Touched). ArePast t c.note-else-is_err.new.self c.self.inside.snapshots.items) (sym meta)
    (subst (λ (t : Touched). ArePast (with_msgs c.args.meta.now c.self.inside.meta) t c.self.inside.snapshots.items) (sym block)
    (batch_past c.args.meta.now c.args.block.now c.self.inside.meta c.self.inside.block c.self.inside.snapshots.items c.self.invariant))

pub returns-else-is_err-2 : goal.returns-else-is_err-2
returns-else-is_err-2 g c =
    let meta = of_ok c.note.result (sym c.is_err.ensures.value ∙ c.if-is_err.false) c.note.ensures in
    let block = of_ok c.note-else-is_err.result (sym c.is_err-else-is_err.ensures.value ∙ c.if-is_err-2.false) c.note-else-is_err.ensures in
    inl ((λ i. known (meta i) (block i) c.self.inside.snapshots.items)
    ∙ batch_known c.args.meta.now c.args.block.now c.self.inside.meta c.self.inside.block c.self.inside.snapshots.items c.self.invariant
    ∙ ap (λ (l : List Since). map (λ s. with_batch c.args.meta.now c.args.block.now s) l) c.self.view_is)
