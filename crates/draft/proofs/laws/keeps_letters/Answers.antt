use Rattle.draft.proofs.Keeps.{keeps_letters}
use Rattle.draft.proofs.laws.keeps_letters.Goals as goal

pub returns : goal.returns
returns c = keeps_letters
