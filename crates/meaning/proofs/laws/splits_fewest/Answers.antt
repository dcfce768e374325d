use Rattle.meaning.proofs.Splits.{splits_fewest}
use Rattle.meaning.proofs.laws.splits_fewest.Goals as goal

pub returns : goal.returns
returns c = splits_fewest
