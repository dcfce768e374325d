use Rattle.std.proofs.Common.{arith}
use Rattle.std.proofs.lemmas.Bool.Decides.{nat_tests}
use Rattle.notes.proofs.Violations.{met_behind}
use Rattle.events.specs.Notes.{flagged}
use Rattle.notes.specs.Noted.{notes_of, name_told}
use Rattle.notes.proofs.notes.Notes.check_name.Goals as goal

pub returns-then-is_known_before : goal.returns-then-is_known_before
unfolding notes_of name_told flagged
returns-then-is_known_before c = grind (arith, nat_tests, met_behind)

pub returns-then-is_taken : goal.returns-then-is_taken
unfolding notes_of name_told flagged
returns-then-is_taken c = grind (arith, nat_tests, met_behind, c.violate.ensures c.args.source.now)

pub returns-else-is_taken : goal.returns-else-is_taken
unfolding notes_of name_told flagged
returns-else-is_taken c = grind (arith, nat_tests, met_behind)
