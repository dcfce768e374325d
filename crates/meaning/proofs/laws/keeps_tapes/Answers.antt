use Rattle.meaning.proofs.Keeps.{keeps_tapes}
use Rattle.meaning.proofs.laws.keeps_tapes.Goals as goal

pub returns : goal.returns
returns c = keeps_tapes
