use Rattle.draft.proofs.Placing.{keeps_places}
use Rattle.draft.proofs.laws.keeps_places.Goals as goal

pub returns : goal.returns
returns c = keeps_places
