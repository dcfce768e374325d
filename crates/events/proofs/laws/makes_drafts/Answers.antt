use Rattle.events.proofs.Making.{makes_drafts}
use Rattle.events.proofs.laws.makes_drafts.Goals as goal

pub returns : goal.returns
returns c = makes_drafts
