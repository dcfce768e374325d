use Rattle.meaning.proofs.Clean.{prints_back}
use Rattle.meaning.proofs.laws.prints_back.Goals as goal

pub returns : goal.returns
returns c = prints_back
