use Rattle.events.specs.Notes.{case_entered, with_current}
use Rattle.notes.specs.Noted.{notes_of}
use Rattle.notes.specs.Switches.{switch_of}
use Rattle.notes.proofs.notes.Notes.enter.Goals as goal

pub returns : goal.returns
unfolding notes_of switch_of case_entered with_current
returns c = λ source. cc
