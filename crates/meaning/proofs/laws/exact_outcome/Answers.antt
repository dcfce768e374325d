use Rattle.meaning.proofs.Exactly.{exact}
use Rattle.meaning.proofs.laws.exact_outcome.Goals as goal

pub returns : goal.returns
returns c = exact
