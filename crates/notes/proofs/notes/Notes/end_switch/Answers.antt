use Rattle.std.proofs.Common.{arith}
use Rattle.std.proofs.lemmas.Bool.Decides.{nat_tests}
use Rattle.events.specs.Notes.{switch_ended, flagged}
use Rattle.notes.specs.Switches.{switch_of}
use Rattle.notes.specs.Noted.{notes_of}
use Rattle.notes.proofs.notes.Notes.end_switch.Goals as goal

pub returns-then-not-covers : goal.returns-then-not-covers
unfolding switch_ended switch_of notes_of flagged
returns-then-not-covers c = λ source. grind (arith, nat_tests, c.violate.ensures source)

pub returns-else-not-covers : goal.returns-else-not-covers
unfolding switch_ended switch_of notes_of flagged
returns-else-not-covers c = λ source. grind (arith, nat_tests)
