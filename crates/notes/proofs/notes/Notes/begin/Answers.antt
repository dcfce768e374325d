use Rattle.std.proofs.Common.{arith}
use Rattle.std.proofs.lemmas.Bool.Decides.{nat_tests}
use Rattle.events.specs.Notes.{basic_begun, with_current}
use Rattle.notes.specs.Kinds.{text_in}
use Rattle.notes.specs.Noted.{notes_of}
use Rattle.notes.proofs.notes.Notes.begin.Goals as goal

pub returns : goal.returns
unfolding notes_of basic_begun with_current
returns c = λ source. grind (arith, nat_tests, c.take_number.ensures source, c.unfilled.ensures (text_in source))
