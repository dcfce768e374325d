use Rattle.draft.proofs.Outcome.{places_rise}
use Rattle.draft.proofs.laws.places_rise.Goals as goal

pub returns : goal.returns
returns c = places_rise
