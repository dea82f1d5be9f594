use Rattle.std.proofs.Common.{◌≡◌, List, ap, arith, get_or, inr, length, sym, subst, ◌∙◌}
use Rattle.std.specs.List.{Contains}
use Rattle.pathkey.proofs.OrderFacts.{same_true}
use Rattle.change_log.specs.Snapshots.{Since, since_position}
use Rattle.change_log.specs.declared.change_log.SnapshotPosition.{SnapshotPosition}
use Rattle.change_log.proofs.Known.{contains_known}
use Rattle.change_log.proofs.change_log.ChangeLog.since.Goals as goal

pub returns-then-eq : goal.returns-then-eq
returns-then-eq c =
    let a = c.self.inside.meta in
    let b = c.self.inside.block in
    let ps = c.self.inside.snapshots.items in
    let p = c.position-item.result in
    let items = c.deref-position-items.ensures.value in
    let is : p ≡ get_or ps c.loop-position.position-index p = c.position-item.is ∙ ap (λ (l : List SnapshotPosition). get_or l c.loop-position.position-index p) items in
    let long = ap (λ (l : List SnapshotPosition). length l) items in
    inr (
      since_position a b p,
      subst (λ (l : List Since). Contains l (since_position a b p)) c.self.view_is (contains_known a b ps c.loop-position.position-index p (omega (arith, long)) is),
      same_true p.name c.args.name.now (sym c.eq.ensures ∙ c.if-eq.true),
      record { meta = λ k h. sym (c.in_ok-meta.ensures.touched k) ∙ h; block = λ k h. sym (c.in_ok-block.ensures.touched k) ∙ h },
    )
