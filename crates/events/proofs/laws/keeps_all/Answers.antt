use Rattle.events.proofs.Making.{makes_drafts}
use Rattle.events.proofs.Keeping.{keeps_all_from}
use Rattle.events.proofs.laws.keeps_all.Goals as goal

pub returns : goal.returns
returns c = keeps_all_from makes_drafts
