use Rattle.grammar.proofs.BorderCases.{borders}
use Rattle.grammar.proofs.borders.Goals as goal

pub returns : goal.returns
returns c = borders
