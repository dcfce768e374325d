use Rattle.meaning.proofs.NextBlocks.{next_blocks}
use Rattle.meaning.proofs.laws.next_blocks.Goals as goal

pub returns : goal.returns
returns c = next_blocks
