use Rattle.events.proofs.Bridge.{follows}
use Rattle.events.proofs.Making.{makes_drafts}
use Rattle.events.proofs.Keeping.{keeps_all_from}
use Rattle.events.proofs.Descending.{descends_from}
use Rattle.events.proofs.laws.descends.Goals as goal

pub returns : goal.returns
returns c = descends_from follows (keeps_all_from makes_drafts)
