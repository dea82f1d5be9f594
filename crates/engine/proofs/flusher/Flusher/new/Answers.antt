use Rattle.std.proofs.Common.{[], ◌∷◌, ap, ◌∙◌}
use Rattle.engine.specs.Rule.{Seated}
use Rattle.engine.proofs.Callers.{stays-new}
use Rattle.engine.proofs.flusher.Flusher.new.Goals as goal

pub invariant_of-result : goal.invariant_of-result
invariant_of-result g c =
    let s = c.requires.seat in
    let now = c.into_badge.ensures in
    (now.0 ∙ s.0, stays-new _ _ (now.2 ∙ ap (λ (m : Seated). m.0 ∷ []) s.1) c.requires.opened)
