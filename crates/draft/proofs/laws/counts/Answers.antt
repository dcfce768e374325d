use Rattle.draft.proofs.Counts.{counts}
use Rattle.draft.proofs.laws.counts.Goals as goal

pub returns : goal.returns
returns c = counts
