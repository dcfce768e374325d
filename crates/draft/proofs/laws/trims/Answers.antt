use Rattle.draft.proofs.Trims.{trims}
use Rattle.draft.proofs.laws.trims.Goals as goal

pub returns : goal.returns
returns c = trims
