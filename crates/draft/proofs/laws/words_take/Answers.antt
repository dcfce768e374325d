use Rattle.draft.proofs.Spacing.{words_take}
use Rattle.draft.proofs.laws.words_take.Goals as goal

pub returns : goal.returns
returns c = words_take
