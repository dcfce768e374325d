use Rattle.meaning.proofs.Completion.{completion}
use Rattle.meaning.proofs.laws.completion.Goals as goal

pub returns : goal.returns
returns c = completion
