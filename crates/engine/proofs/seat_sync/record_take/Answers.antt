use Rattle.engine.proofs.Moves.{takes}
use Rattle.engine.proofs.seat_sync.record_take.Goals as goal

pub fetch_add-requires : goal.fetch_add-requires
fetch_add-requires g c =
    let r = c.requires in (
      r.words.0,
      r.words.1,
      takes _ _ _ c.args.seat.now.me _ r.seat.1 r.new,
    )
