use Rattle.meaning.proofs.Lowest.{tells_lowest}
use Rattle.meaning.proofs.laws.tells_lowest.Goals as goal

pub returns : goal.returns
returns c = tells_lowest
