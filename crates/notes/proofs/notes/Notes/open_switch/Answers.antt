use Rattle.std.proofs.Common.{arith}
use Rattle.std.proofs.lemmas.Bool.Decides.{nat_tests}
use Rattle.events.specs.Notes.{switch_begun, opened}
use Rattle.notes.specs.Switches.{empty_switch}
use Rattle.notes.specs.Kinds.{text_in}
use Rattle.notes.specs.Noted.{notes_of}
use Rattle.notes.proofs.notes.Notes.open_switch.Goals as goal

pub returns : goal.returns
unfolding notes_of switch_begun opened empty_switch
returns c = record {
  noted = λ source. grind (arith, nat_tests, c.take_number.ensures source, c.switch.ensures (text_in source));
  opened = λ source. grind (arith, nat_tests);
}
