use Rattle.draft.proofs.Sizes.{pieces}
use Rattle.draft.proofs.laws.pieces.Goals as goal

pub returns : goal.returns
returns c = pieces
