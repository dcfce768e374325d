use Rattle.meaning.proofs.Follows.{blocks_follow}
use Rattle.meaning.proofs.laws.blocks_follow.Goals as goal

pub returns : goal.returns
returns c = blocks_follow
