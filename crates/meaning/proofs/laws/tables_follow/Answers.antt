use Rattle.meaning.proofs.Follows.{tables_follow}
use Rattle.meaning.proofs.laws.tables_follow.Goals as goal

pub returns : goal.returns
returns c = tables_follow
