use Rattle.std.proofs.Common.{◌∙◌, ap, sym, take, subst}
use Rattle.std.specs.Option.{option_copied, option_map}
use Rattle.cow_map.specs.Places.{Rises, last_of, place}
use Rattle.point_ops.specs.PointOps.{last_below}
use Rattle.point_ops.proofs.Nearby.{map_twice, last_all, last_place}
use Rattle.point_ops.proofs.points.PointOps.last_before.Goals as goal

pub returns-in-None : goal.returns-in-None
returns-in-None g c =
    let es = c.args.self.now in
    let here = ap (λ o. last_below (option_copied o) es) c.in-None.is in
    c.key_of.ensures ∙ map_twice (λ p. (p.0.now, p.1.now)) (λ e. e.0) c.last.result ∙ ap (option_map (λ e. e.0)) (c.last.ensures ∙ ap (λ t. last_of t) c.self.view_is) ∙ last_all es ∙ sym here

pub returns-in-Some : goal.returns-in-Some
returns-in-Some g c =
    let k = c.in-Some.end.now in
    let es = c.args.self.now in
    let here = ap (λ o. last_below (option_copied o) es) c.in-Some.is in
    let rises = subst (λ t. Rises t) c.self.view_is c.assert_invariant.ensures in
    c.key_of-in-Some.ensures ∙ map_twice (λ p. (p.0.now, p.1.now)) (λ e. e.0) c.last_before.result ∙ ap (option_map (λ e. e.0)) (c.last_before.ensures ∙ ap (λ t. last_of (take (place k t) t)) c.self.view_is) ∙ last_place k es rises ∙ sym here
