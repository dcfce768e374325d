use Rattle.std.proofs.Common.{arith}
use Rattle.std.proofs.lemmas.Bool.Decides.{nat_tests}
use Rattle.events.specs.Notes.{symbol_noted, flagged, is_column}
use Rattle.notes.specs.Noted.{notes_of}
use Rattle.notes.proofs.notes.Notes.symbol.Goals as goal

pub returns-then-not-knows-clause-noted : goal.returns-then-not-knows-clause-noted
unfolding notes_of symbol_noted is_column flagged
returns-then-not-knows-clause-noted c = λ source. grind (arith, nat_tests, c.knows.ensures source, c.violate.ensures source)

pub returns-then-again-clause-noted : goal.returns-then-again-clause-noted
unfolding notes_of symbol_noted is_column flagged
returns-then-again-clause-noted c = λ source. grind (arith, nat_tests, c.knows.ensures source, c.violate-then-again.ensures source)

pub returns-else-again-clause-noted : goal.returns-else-again-clause-noted
unfolding notes_of symbol_noted is_column flagged
returns-else-again-clause-noted c = λ source. grind (arith, nat_tests, c.knows.ensures source)
