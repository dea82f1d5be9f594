use Rattle.std.proofs.Common.{sym, ◌∙◌, inr, ap}
use Rattle.std.specs.Option.{option_copied}
use Rattle.flush.proofs.LeafFlush.{adds_none-found, adds_none-removed}
use Rattle.flush.proofs.OldestOf.{given_touches, given_none, not_err}
use Rattle.flush.proofs.room.has_room.Goals as goal

pub returns-in-Some : goal.returns-in-Some
returns-in-Some g c = λ t m e.
    inr (adds_none-found g.U.Update.means m c.args.entries.now c.in-Some.key.now c.position.result (given_touches m c.in-Some.key.now (e ∙ ap option_copied c.in-Some.is)) c.position.ensures (not_err c.position.result (sym c.is_ok.ensures.value ∙ t)))

pub returns-in-None : goal.returns-in-None
returns-in-None g c = λ t m e. inr (adds_none-removed g.U.Update.means m c.args.entries.now (given_none g.U.Update.means m (e ∙ ap option_copied c.in-None.is)))
