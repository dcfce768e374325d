use Rattle.meaning.proofs.RulesAre.{rules_are}
use Rattle.meaning.proofs.laws.rules_are.Goals as goal

pub returns : goal.returns
returns c = rules_are
