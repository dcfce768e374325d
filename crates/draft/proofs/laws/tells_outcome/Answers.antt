use Rattle.draft.proofs.Outcome.{tells_outcome}
use Rattle.draft.proofs.laws.tells_outcome.Goals as goal

pub returns : goal.returns
returns c = tells_outcome
