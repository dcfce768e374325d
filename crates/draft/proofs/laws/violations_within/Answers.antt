use Rattle.draft.proofs.Within.{violations_within}
use Rattle.draft.proofs.laws.violations_within.Goals as goal

pub returns : goal.returns
returns c = violations_within
