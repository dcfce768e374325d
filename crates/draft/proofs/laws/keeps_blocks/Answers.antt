use Rattle.draft.proofs.Keeps.{keeps_blocks}
use Rattle.draft.proofs.laws.keeps_blocks.Goals as goal

pub returns : goal.returns
returns c = keeps_blocks
