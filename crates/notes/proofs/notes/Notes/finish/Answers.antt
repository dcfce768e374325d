use Rattle.std.proofs.Common.{arith}
use Rattle.std.proofs.lemmas.Bool.Decides.{nat_tests}
use Rattle.events.specs.Notes.{finished}
use Rattle.notes.specs.Kinds.{text_in}
use Rattle.notes.specs.Noted.{notes_of}
use Rattle.notes.proofs.notes.Notes.finish.Goals as goal

pub returns : goal.returns
unfolding notes_of finished
returns c = λ source. grind (arith, nat_tests, c.fill.ensures.blocks (text_in source))
