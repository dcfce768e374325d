use Rattle.grammar.proofs.Openings.{counts_depth}
use Rattle.grammar.proofs.counts_depth.Goals as goal

pub returns : goal.returns
returns c = counts_depth
