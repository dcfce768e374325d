use Rattle.grammar.proofs.Laws.{reads_programs}
use Rattle.grammar.proofs.reads_programs.Goals as goal

pub returns : goal.returns
returns c = reads_programs
