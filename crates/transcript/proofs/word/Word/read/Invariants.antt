use Rattle.bounded.specs.Inline.{items_of}
use Rattle.transcript.proofs.Words.{ReadTo}
use Rattle.transcript.proofs.word.Word.read.Given as goal

abbrev pub invariant-loop-byte : goal.invariant-loop-byte
invariant-loop-byte l = ReadTo l.text (items_of l.codes) l.byte-index
