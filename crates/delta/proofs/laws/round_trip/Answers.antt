use Rattle.delta.proofs.LoaderFacts.{round_trip}
use Rattle.delta.proofs.laws.round_trip.Goals as goal

pub returns : goal.returns
returns c = round_trip
