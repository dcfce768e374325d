use Rattle.grammar.proofs.Laws.{finds_depth}
use Rattle.grammar.proofs.finds_depth.Goals as goal

pub returns : goal.returns
returns c = finds_depth
