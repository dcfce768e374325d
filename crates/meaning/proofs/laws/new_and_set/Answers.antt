use Rattle.meaning.proofs.Tables.{new_and_set}
use Rattle.meaning.proofs.laws.new_and_set.Goals as goal

pub returns : goal.returns
returns c = new_and_set
