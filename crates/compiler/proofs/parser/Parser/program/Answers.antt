use Rattle.std.proofs.Common.{[], rules}
use Rattle.events.specs.Descent.{modules}
use Rattle.compiler.proofs.parser.Parser.program.Goals as goal

pub returns-in_err-module : goal.returns-in_err-module
returns-in_err-module c = let h = c.in_err-module.ensures.1 modules [] in search rules
