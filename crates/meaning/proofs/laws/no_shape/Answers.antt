use Rattle.meaning.proofs.Keeps.{no_shape}
use Rattle.meaning.proofs.laws.no_shape.Goals as goal

pub returns : goal.returns
returns c = no_shape
