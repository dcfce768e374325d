-- What the console prints of an input.
use Rattle.std.specs.Prelude.{ℕ, List, [], ◌∷◌, ◌++◌, Some, None, codes, Option}
use Rattle.tape.specs.Display.{displayed}
use Rattle.meaning.specs.declared.faults.Fault.{Fault}
use Rattle.transcript.specs.Input.{source_text, word_text}
use Rattle.transcript.specs.Lay.{word_cells}
use Rattle.transcript.specs.Source.{bytes_fault, fault_line}
use Rattle.transcript.specs.Word.{read_word}

-- a tape's line: its name, a space (32), what it shows, LF (10)
abbrev pub tape_line : List ℕ → List ℕ → List ℕ
tape_line name shown = name ++ (32 ∷ (shown ++ (10 ∷ [])))

-- a line for each implementation, with the word laid from cell 128 of 256 cells
abbrev pub word_lines : List ℕ → List ℕ
word_lines word =
    let shown = displayed (word_cells 256 128 word) in
    tape_line (codes "dense") shown ++ tape_line (codes "sparse") shown

-- of a word its lines, of anything else only that it is bad
abbrev pub word_printed : Option (List ℕ) → List ℕ
word_printed None = codes "bad word" ++ (10 ∷ [])
word_printed (Some word) = word_lines word

-- a source's fault is all that is told of it
abbrev pub printed : Option Fault → List ℕ → List ℕ
printed (Some f) text = fault_line f
printed None text = word_printed (read_word text)

abbrev pub transcript_of : List ℕ → List ℕ
transcript_of input = printed (bytes_fault (source_text input)) (word_text input)
