use Rattle.meaning.proofs.FaultOrder.{faults_in_order}
use Rattle.meaning.proofs.laws.faults_in_order.Goals as goal

pub returns : goal.returns
returns c = faults_in_order
