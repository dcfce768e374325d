use Rattle.std.proofs.Common.{◌≡◌, ap, ◌∙◌, rules}
use Rattle.tape.specs.Display.{displayed}
use Rattle.transcript.specs.Lay.{word_cells}
use Rattle.transcript.specs.Word.{codes_in}
use Rattle.transcript.proofs.Laying.{word_on}
use Rattle.transcript.proofs.show.lay_and_display.Goals as goal

pub returns : goal.returns
returns g c =
    let word = c.args.word.now in
    let cells : g.T.Tape.meaning c.lay.new.tape ≡ word_cells 256 128 (codes_in word) = search (rules, word_on) in
    c.display.ensures ∙ ap displayed cells
