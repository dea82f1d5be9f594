use Rattle.engine.proofs.Moves.{records}
use Rattle.engine.proofs.seat_sync.record.Goals as goal

pub fetch_add-requires : goal.fetch_add-requires
fetch_add-requires g c =
    let r = c.requires in (
      r.words.0,
      r.words.1,
      records _ _ _ c.args.seat.now.me _ _ r.seat.1 r.seat.3 r.seat.2 r.announced r.fits,
    )
