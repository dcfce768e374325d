use Rattle.std.proofs.Common.{arith}
use Rattle.std.proofs.lemmas.Bool.Decides.{nat_tests}
use Rattle.notes.proofs.Violations.{met_behind}
use Rattle.notes.proofs.notes.names.resolve.Goals as goal

pub returns-then-is_known_before : goal.returns-then-is_known_before
returns-then-is_known_before c = grind (arith, nat_tests, met_behind)

pub returns : goal.returns
returns c = grind (arith, nat_tests)
