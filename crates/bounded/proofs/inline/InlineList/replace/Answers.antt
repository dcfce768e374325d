use Rattle.std.proofs.Common.{rules}
use Rattle.std.proofs.Math.Seq.{take-set-lt}
use Rattle.bounded.proofs.inline.InlineList.replace.Goals as goal

pub returns-clause-items : goal.returns-clause-items
returns-clause-items g c = search (rules, take-set-lt)
