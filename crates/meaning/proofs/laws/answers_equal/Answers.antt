use Rattle.meaning.proofs.Equal.{answers_equal}
use Rattle.meaning.proofs.laws.answers_equal.Goals as goal

pub returns : goal.returns
returns c = answers_equal
