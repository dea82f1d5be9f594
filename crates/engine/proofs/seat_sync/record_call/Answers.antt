use Rattle.std.proofs.Common.{List, ◌<◌, sym, ap, ◌∙◌, subst}
use Rattle.volume.specs.Volumes.{PVolume}
use Rattle.engine.specs.Histories.{FitsAfter, Entry}
use Rattle.engine.specs.Rule.{Seated}
use Rattle.engine.proofs.Moves.{meets_as, parts}
use Rattle.engine.proofs.seat_sync.record_call.Goals as goal

pub join_seat-requires : goal.join_seat-requires
join_seat-requires g c =
    let r = c.requires in (
      r.engine.0 ∙ sym r.words.0,
      r.client.0 ∙ sym r.words.0,
      ap (λ (m : Seated). m.1) r.client.1,
      subst (λ z. 0 < z.words) (sym r.words.0) r.words.1,
      meets_as _ _ c.args.engine.now.me _ c.args.client.me _ _ _ _ _ _ _ _ _ _ r.engine.1 r.client.1,
    )

pub split_seat-client-requires : goal.split_seat-client-requires
split_seat-client-requires g c =
    let r = c.requires in
    let j = c.join_seat.ensures in
    let d = c.record-count.ensures.seat in
    let joined = ap (λ (m : Seated). m.0) j.2 in
    let now = ap (λ (m : Seated). m.0) d.1 in (
      d.0 ∙ j.0 ∙ r.engine.0 ∙ sym r.words.0,
      subst (λ z. 0 < z.words) (sym r.words.0) r.words.1,
      parts _ _ _ (ap (λ v. v.keeps) now ∙ ap (λ v. v.keeps) joined ∙ ap (λ (m : Seated). m.0.keeps) r.engine.1)
          (ap (λ v. v.watches) now ∙ ap (λ v. v.watches) joined ∙ ap (λ (m : Seated). m.0.watches) r.client.1)
          (ap (λ v. v.hosts) now ∙ ap (λ v. v.hosts) joined ∙ ap (λ (m : Seated). m.0.hosts) r.client.1),
    )

pub record-count-requires-clause-fits : goal.record-count-requires-clause-fits
record-count-requires-clause-fits g c =
    let joined = ap (λ (m : Seated). m.0) c.join_seat.ensures.2 in
    let opening = ap (λ v. v.opening) joined ∙ ap (λ (m : Seated). m.0.opening) c.requires.engine.1 in
    let history = ap (λ v. v.history) joined in
    subst (λ (y : PVolume × List Entry). FitsAfter y.0 y.1 (g.A.Operation.event c.args.execute.now) (g.A.Operation.answer c.args.reply.now)) (λ i. (sym opening i, sym history i)) c.requires.fits
