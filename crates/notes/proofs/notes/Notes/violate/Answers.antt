use Rattle.events.specs.Notes.{flagged}
use Rattle.notes.specs.Noted.{notes_of}
use Rattle.notes.proofs.notes.Notes.violate.Goals as goal

pub returns : goal.returns
unfolding notes_of flagged
returns c = λ source. cc
