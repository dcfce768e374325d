use Rattle.events.proofs.Bridge.{follows}
use Rattle.events.proofs.laws.follows.Goals as goal

pub returns : goal.returns
returns c = follows
