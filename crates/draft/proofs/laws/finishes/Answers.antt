use Rattle.draft.proofs.Keeps.{finishes}
use Rattle.draft.proofs.laws.finishes.Goals as goal

pub returns : goal.returns
returns c = finishes
