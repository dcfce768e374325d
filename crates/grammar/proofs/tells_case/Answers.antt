use Rattle.grammar.proofs.Openings.{tells_case}
use Rattle.grammar.proofs.tells_case.Goals as goal

pub returns : goal.returns
returns c = tells_case
