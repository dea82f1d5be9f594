use Rattle.std.proofs.Common.{◌≡◌, List, ap, rules, sym, subst, ◌∙◌}
use Rattle.std.specs.List.{filter}
use Rattle.std.proofs.lemmas.Fn.{filter_same}
use Rattle.change_log.specs.Snapshots.{ArePast, Since, without}
use Rattle.change_log.specs.declared.change_log.SnapshotPosition.{SnapshotPosition}
use Rattle.change_log.proofs.Known.{is_other, known, others_known, others_past}
use Rattle.change_log.proofs.change_log.ChangeLog.forget.Goals as goal
use Rattle.change_log.proofs.change_log.ChangeLog.forget.Goals.{After-retain}

others : (c : After-retain) → c.retain.new.self.items ≡ filter (is_other c.args.name.now) c.self.inside.snapshots.items
others c = filter_same _ (is_other c.args.name.now) _ (λ x b f' k. search rules) _ _ c.retain.ensures.filtered

pub invariant_of-self : goal.invariant_of-self
invariant_of-self c =
    subst (λ (ps : List SnapshotPosition). ArePast c.self.inside.meta c.self.inside.block ps) (sym (others c))
    (others_past c.args.name.now c.self.inside.meta c.self.inside.block c.self.inside.snapshots.items c.self.invariant)

pub returns : goal.returns
returns c =
    ap (λ (ps : List SnapshotPosition). known c.self.inside.meta c.self.inside.block ps) (others c)
    ∙ others_known c.args.name.now c.self.inside.meta c.self.inside.block c.self.inside.snapshots.items
    ∙ ap (λ (l : List Since). without c.args.name.now l) c.self.view_is
