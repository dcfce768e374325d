use Rattle.draft.proofs.Tells.{tells_first}
use Rattle.draft.proofs.laws.tells_first.Goals as goal

pub returns : goal.returns
returns c = tells_first
