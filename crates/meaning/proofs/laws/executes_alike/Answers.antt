use Rattle.meaning.proofs.Alike.{executes_alike}
use Rattle.meaning.proofs.laws.executes_alike.Goals as goal

pub returns : goal.returns
returns c = executes_alike
