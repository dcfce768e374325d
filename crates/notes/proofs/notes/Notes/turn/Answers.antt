use Rattle.std.proofs.Common.{refl}
use Rattle.events.specs.Notes.{turn_noted, with_current}
use Rattle.notes.specs.Noted.{notes_of}
use Rattle.notes.proofs.notes.Notes.turn.Goals as goal

pub returns : goal.returns
unfolding notes_of turn_noted with_current
returns c = λ source. refl
