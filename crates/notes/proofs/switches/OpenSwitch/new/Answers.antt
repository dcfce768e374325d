use Rattle.notes.specs.Switches.{switch_of, empty_switch}
use Rattle.notes.proofs.switches.OpenSwitch.new.Goals as goal

pub returns : goal.returns
unfolding switch_of empty_switch
returns c = cc
