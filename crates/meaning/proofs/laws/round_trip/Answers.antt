use Rattle.meaning.proofs.Complete.{round_trip}
use Rattle.meaning.proofs.laws.round_trip.Goals as goal

pub returns : goal.returns
returns c = round_trip
