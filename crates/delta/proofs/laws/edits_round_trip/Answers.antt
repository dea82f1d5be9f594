use Rattle.delta.proofs.EditTexts.{edits_round_trip}
use Rattle.delta.proofs.laws.edits_round_trip.Goals as goal

pub returns : goal.returns
returns c = edits_round_trip
