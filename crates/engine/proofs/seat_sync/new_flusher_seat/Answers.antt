use Rattle.std.proofs.Common.{◌<◌, ◌∙◌, sym, subst}
use Rattle.engine.proofs.Moves.{hires_as}
use Rattle.engine.proofs.seat_sync.new_flusher_seat.Goals as goal

pub split_seat-requires : goal.split_seat-requires
split_seat-requires g c =
    let r = c.requires in (
      r.spare.0 ∙ sym r.words.0,
      subst (λ z. 0 < z.words) (sym r.words.0) r.words.1,
      hires_as _ _ c.args.spare.now.me _ r.spare.1,
    )
