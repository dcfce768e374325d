use Rattle.program.proofs.Ranged.{program_within}
use Rattle.program.proofs.program.Program.ranges.Goals as goal

pub returns : goal.returns
returns c = program_within c.args.self.now
