use Rattle.meaning.proofs.Numbered.{numbers_are_points}
use Rattle.meaning.proofs.laws.numbers_are_points.Goals as goal

pub returns : goal.returns
returns c = numbers_are_points
