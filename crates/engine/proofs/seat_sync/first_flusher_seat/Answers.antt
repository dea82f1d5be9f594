use Rattle.std.proofs.Common.{◌<◌, ◌∙◌, sym, subst}
use Rattle.engine.proofs.Moves.{hires_first_as}
use Rattle.engine.proofs.seat_sync.first_flusher_seat.Goals as goal

pub split_seat-requires : goal.split_seat-requires
split_seat-requires g c =
    let r = c.requires in (
      r.engine.0 ∙ sym r.words.0,
      subst (λ z. 0 < z.words) (sym r.words.0) r.words.1,
      hires_first_as _ _ c.args.engine.now.me _ _ r.engine.1,
    )
