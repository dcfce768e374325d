use Rattle.meaning.proofs.Codes.{codes_are}
use Rattle.meaning.proofs.laws.codes_are.Goals as goal

pub returns : goal.returns
returns c = codes_are
