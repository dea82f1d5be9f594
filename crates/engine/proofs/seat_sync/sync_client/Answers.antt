use Rattle.std.proofs.Common.{◌<◌, sym, ap, ◌∙◌, subst}
use Rattle.engine.specs.Rule.{Seated}
use Rattle.engine.proofs.Moves.{meets_as, parts}
use Rattle.engine.proofs.seat_sync.sync_client.Goals as goal

pub join_seat-requires : goal.join_seat-requires
join_seat-requires g c =
    let r = c.requires in (
      r.engine.0 ∙ sym r.words.0,
      r.client.0 ∙ sym r.words.0,
      ap (λ (m : Seated). m.1) r.client.1,
      subst (λ z. 0 < z.words) (sym r.words.0) r.words.1,
      meets_as _ _ c.args.engine.now.me _ c.args.client.me _ _ _ _ _ _ _ _ _ _ r.engine.1 r.client.1,
    )

pub split_seat-requires : goal.split_seat-requires
split_seat-requires g c =
    let r = c.requires in
    let j = c.join_seat.ensures in
    let now = ap (λ (m : Seated). m.0) j.2 in (
      j.0 ∙ r.engine.0 ∙ sym r.words.0,
      subst (λ z. 0 < z.words) (sym r.words.0) r.words.1,
      parts _ _ _ (ap (λ v. v.keeps) now ∙ ap (λ (m : Seated). m.0.keeps) r.engine.1) (ap (λ v. v.watches) now ∙ ap (λ (m : Seated). m.0.watches) r.client.1) (ap (λ v. v.hosts) now ∙ ap (λ (m : Seated). m.0.hosts) r.client.1),
    )
