use Rattle.std.proofs.Common.{sym}
use Rattle.compiler.proofs.Running.{came}
use Rattle.compiler.proofs.parser.Lexer.next.Goals as goal

pub returns : goal.returns
returns c = came c.next.result c.args.self.now _ (sym c.next.ensures.source) c.next.ensures.reads
