use Rattle.std.proofs.Common.{◌<◌, sym, ap, ◌∙◌, subst}
use Rattle.engine.specs.Rule.{Seated}
use Rattle.engine.proofs.Moves.{announces}
use Rattle.engine.proofs.seat_sync.announce.Goals as goal

pub load-requires : goal.load-requires
load-requires g c =
    let r = c.requires in (
      r.client.0 ∙ sym r.words.0,
      subst (λ z. 0 < z.words) (sym r.words.0) r.words.1,
      announces _ _ _ c.args.client.now.me (ap (λ (m : Seated). m.0.keeps) r.client.1) (ap (λ (m : Seated). m.0.watches) r.client.1) (ap (λ (m : Seated). m.0.hosts) r.client.1),
    )
