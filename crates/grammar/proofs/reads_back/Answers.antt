use Rattle.grammar.proofs.Laws.{reads_back}
use Rattle.grammar.proofs.reads_back.Goals as goal

pub returns : goal.returns
returns c = reads_back
