use Rattle.std.proofs.Common.{arith}
use Rattle.std.proofs.lemmas.Grind.{common_steps}
use Rattle.meaning.proofs.FaultOrder.{least}
use Rattle.notes.proofs.faults.lowest.Goals as goal

pub returns : goal.returns
returns c = grind (arith, common_steps, least)
