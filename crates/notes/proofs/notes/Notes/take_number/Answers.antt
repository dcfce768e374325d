use Rattle.std.proofs.Common.{arith}
use Rattle.std.proofs.lemmas.Bool.Decides.{nat_tests}
use Rattle.bounded.specs.Inline.{items_of}
use Rattle.events.specs.Notes.{begun, flagged}
use Rattle.notes.specs.Kinds.{text_in}
use Rattle.notes.specs.Noted.{notes_of}
use Rattle.notes.proofs.Rows.{kinds_push}
use Rattle.notes.proofs.notes.Notes.take_number.Goals as goal

pub returns-then-over : goal.returns-then-over
unfolding notes_of flagged begun
returns-then-over c = λ source. grind (arith, nat_tests, c.violate.ensures source, kinds_push (text_in source) 128 (items_of c.args.self.now.rows) c.args.row)

pub returns-else-over : goal.returns-else-over
unfolding notes_of flagged begun
returns-else-over c = λ source. grind (arith, nat_tests, kinds_push (text_in source) 128 (items_of c.args.self.now.rows) c.args.row)
