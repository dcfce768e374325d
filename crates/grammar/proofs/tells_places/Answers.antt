use Rattle.grammar.proofs.Places.{tells_places}
use Rattle.grammar.proofs.tells_places.Goals as goal

pub returns : goal.returns
returns c = tells_places
