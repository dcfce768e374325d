use Rattle.program.proofs.Accepted.{accepted_fit}
use Rattle.program.proofs.laws.accepted_fit.Goals as goal

pub returns : goal.returns
returns c = accepted_fit
