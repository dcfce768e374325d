use Rattle.meaning.proofs.Ranges.{translates_within}
use Rattle.meaning.proofs.laws.translates_within.Goals as goal

pub returns : goal.returns
returns c = translates_within
