use Rattle.std.proofs.Common.{◌∙◌, ap, drop}
use Rattle.std.specs.List.{slice_get}
use Rattle.std.specs.Option.{option_map}
use Rattle.cow_map.specs.Places.{place}
use Rattle.point_ops.proofs.Nearby.{from_place, map_twice}
use Rattle.point_ops.proofs.points.PointOps.first_from.Goals as goal

pub returns : goal.returns
returns g c =
    let k = c.args.key.now in
    c.key_of.ensures ∙ map_twice (λ p. (p.0.now, p.1.now)) (λ e. e.0) c.peek.result ∙ ap (option_map (λ e. e.0)) (c.peek.ensures ∙ ap (λ t. slice_get t 0) (c.lower_bound.ensures ∙ ap (λ t. drop (place k t) t) c.self.view_is)) ∙ from_place k c.args.self.now
