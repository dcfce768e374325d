use Rattle.draft.proofs.Counts.{bounds}
use Rattle.draft.proofs.laws.bounds.Goals as goal

pub returns : goal.returns
returns c = bounds
