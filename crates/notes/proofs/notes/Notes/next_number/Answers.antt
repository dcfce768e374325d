use Rattle.std.proofs.Common.{refl}
use Rattle.events.specs.Notes.{next_number}
use Rattle.notes.specs.Noted.{notes_of}
use Rattle.notes.proofs.notes.Notes.next_number.Goals as goal

pub returns : goal.returns
unfolding notes_of next_number
returns c = λ source. refl
