use Rattle.std.proofs.Common.{[], ◌∷◌, List, sym, ap, ◌∙◌}
use Rattle.engine.specs.Rule.{Seated}
use Rattle.engine.specs.Clients.{first_view}
use Rattle.engine.specs.declared.view.View.{View}
use Rattle.engine.proofs.Callers.{greets-new}
use Rattle.engine.proofs.client.Client.new.Goals as goal

pub invariant_of-result : goal.invariant_of-result
invariant_of-result g c =
    let s = c.requires.seat in
    let now = c.into_badge.ensures in
    let views = now.2 ∙ ap (λ (m : Seated). m.0 ∷ []) s.1 in
    (now.0 ∙ s.0, greets-new _ _ _ _ views s.2 c.requires.opened, c.requires.number ∙ sym (ap (λ (vs : List View). (first_view vs).client) views))
