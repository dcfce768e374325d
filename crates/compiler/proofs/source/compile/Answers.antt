use Rattle.std.proofs.Common.{rules}
use Rattle.program.specs.Stored.{compiled}
use Rattle.compiler.proofs.Compiling.{compiles}
use Rattle.compiler.proofs.source.compile.Goals as goal

pub returns-in_err-program-clause-subject : goal.returns-in_err-program-clause-subject
returns-in_err-program-clause-subject c = let kept = compiled c.args.program.now in compiles c.args.source.now c.from_residual.result kept kept (search rules) (search rules)

pub returns-clause-subject : goal.returns-clause-subject
returns-clause-subject c = compiles c.args.source.now _ (compiled c.args.program.now) (compiled c.in_ok-program.field-0) (search rules) (search rules)
