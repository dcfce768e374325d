use Rattle.meaning.proofs.Goes.{composition}
use Rattle.meaning.proofs.laws.composition.Goals as goal

pub returns : goal.returns
returns c = composition
