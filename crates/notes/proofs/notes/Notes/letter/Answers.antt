use Rattle.std.proofs.Common.{arith}
use Rattle.std.proofs.lemmas.Bool.Decides.{nat_tests}
use Rattle.events.specs.Notes.{letter_noted, flagged, is_column}
use Rattle.notes.proofs.Lists.{extended_kept}
use Rattle.notes.specs.Noted.{notes_of}
use Rattle.notes.proofs.notes.Notes.letter.Goals as goal

pub returns-then-again : goal.returns-then-again
unfolding notes_of flagged letter_noted is_column
returns-then-again c = λ source. grind (arith, nat_tests, extended_kept, c.knows-again.ensures source, c.violate.ensures source)

pub returns-else-again : goal.returns-else-again
unfolding notes_of flagged letter_noted is_column
returns-else-again c = λ source. grind (arith, nat_tests, extended_kept, c.knows-again.ensures source)
