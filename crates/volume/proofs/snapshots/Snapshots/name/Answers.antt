use Rattle.std.proofs.Common.{ℕ, List, ap, subst, ◌∙◌}
use Rattle.std.specs.Prelude.{slice_get}
use Rattle.std.specs.Map.Iter.{deref}
use Rattle.std.proofs.lemmas.Iterator.Consumers.{YieldsList-from_rest, nth_from_yields_List}
use Rattle.volume.specs.Volumes.{AreNames, Kept, names_in}
use Rattle.volume.proofs.Maps.{are_names, names-snapshot_root}
use Rattle.volume.proofs.snapshots.Snapshots.name.Goals as goal

pub returns-clause-number : goal.returns-clause-number
returns-clause-number c =
    nth_from_yields_List c.nth.result c.nth.new.self c.args.number c.nth.ensures.ran (YieldsList-from_rest {shows = deref {X = List ℕ}} _ c.keys.ensures.rest)
    ∙ ap (λ (names : List (List ℕ)). slice_get names c.args.number) (names-snapshot_root c.self.inside.named c.keys.ensures.ordered ∙ ap (λ (m : Kept). names_in m) c.self.view_is)

pub returns-clause-names : goal.returns-clause-names
returns-clause-names c = subst (λ (m : Kept). AreNames m (names_in m)) c.self.view_is (are_names c.self.inside.named c.keys.ensures.ordered)
