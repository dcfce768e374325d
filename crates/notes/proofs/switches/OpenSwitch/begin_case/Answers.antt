use Rattle.events.specs.Notes.{another_case}
use Rattle.notes.specs.Switches.{switch_of}
use Rattle.notes.proofs.switches.OpenSwitch.begin_case.Goals as goal

pub returns : goal.returns
unfolding switch_of another_case
returns c = cc
