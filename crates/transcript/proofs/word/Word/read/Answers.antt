use Rattle.std.proofs.Common.{◌≡◌, [], ◌∷◌, ◌++◌, rules}
use Rattle.bounded.specs.Inline.{items_of}
use Rattle.transcript.proofs.Words.{read_more}
use Rattle.transcript.proofs.word.Word.read.Goals as goal

pub loop-byte-preserved : goal.loop-byte-preserved
loop-byte-preserved c =
    let pushed : items_of c.push.new.self ≡ items_of c.loop-byte.codes ++ c.in_ok-cell_code_of.field-0 ∷ [] = search rules in
    rw pushed (read_more _ _ _ _ c.loop-byte.invariant c.loop-byte-test.true c.in_ok-cell_code_of.ensures)
