use Rattle.std.proofs.Common.{arith}
use Rattle.std.proofs.lemmas.Bool.Decides.{nat_tests}
use Rattle.events.specs.Notes.{command_noted}
use Rattle.notes.specs.Noted.{notes_of}
use Rattle.notes.proofs.notes.Notes.command.Goals as goal

pub returns-then-last_rank-rank : goal.returns-then-last_rank-rank
unfolding notes_of command_noted
returns-then-last_rank-rank c = λ source. grind (arith, nat_tests, c.finish.ensures source, c.begin.ensures source)

pub returns-else-last_rank-rank : goal.returns-else-last_rank-rank
unfolding notes_of command_noted
returns-else-last_rank-rank c = λ source. grind (arith, nat_tests)
