use Rattle.grammar.proofs.Laws.{finds_faults}
use Rattle.grammar.proofs.finds_faults.Goals as goal

pub returns : goal.returns
returns c = finds_faults
