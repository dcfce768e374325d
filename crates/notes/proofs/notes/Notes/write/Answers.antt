use Rattle.std.proofs.Common.{arith}
use Rattle.std.proofs.lemmas.Bool.Decides.{nat_tests}
use Rattle.events.specs.Notes.{write_noted, with_current, flagged, is_column}
use Rattle.notes.specs.Noted.{notes_of}
use Rattle.notes.proofs.notes.Notes.write.Goals as goal

pub returns-then-not-knows : goal.returns-then-not-knows
unfolding notes_of write_noted with_current flagged is_column
returns-then-not-knows c = λ source. grind (arith, nat_tests, c.knows.ensures source, c.violate.ensures source)

pub returns-else-not-knows : goal.returns-else-not-knows
unfolding notes_of write_noted with_current flagged is_column
returns-else-not-knows c = λ source. grind (arith, nat_tests, c.knows.ensures source)
