use Rattle.std.proofs.Common.{arith}
use Rattle.std.proofs.lemmas.Bool.Decides.{nat_tests}
use Rattle.events.specs.Notes.{no_notes}
use Rattle.notes.specs.Noted.{notes_of}
use Rattle.notes.proofs.notes.Notes.new.Goals as goal

pub returns : goal.returns
unfolding notes_of no_notes
returns c = λ source. grind (arith, nat_tests)
