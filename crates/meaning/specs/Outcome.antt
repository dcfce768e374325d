-- The outcome of a source, checked in this order: length, bytes, words, rules.
use Rattle.std.specs.Prelude.{ℕ, cond, length, Some, None, Ok, Err, Option, Result, nat_lt}
use Rattle.words.specs.Bytes.{Text, first_foreign}
use Rattle.words.specs.Words.{words}
use Rattle.grammar.specs.Tree.{Program}
use Rattle.grammar.specs.Automaton.{Reading, parsed, unexpected, too_deep, parse}
use Rattle.grammar.specs.Places.{texts, place_of}
use Rattle.meaning.specs.declared.faults.Cause.{Cause}
use Rattle.meaning.specs.declared.faults.Cause.TheVariants.{Length, Byte, Word, Depth}
use Rattle.meaning.specs.declared.faults.Fault.{Fault}
use Rattle.meaning.specs.Blocks.{Compiled, compiled}
use Rattle.meaning.specs.Faults.{Violation, first_fault}

-- a fault by its cause and its place
abbrev pub fault : Cause → ℕ → Fault
fault c p = record { cause = c; place = p }

-- refused with this cause and this place
abbrev pub refused : Cause → ℕ → Result Program Fault
refused c p = Err (fault c p)

-- the place of the word with this index, or the source's length behind the last
abbrev pub place_in : Text → ℕ → ℕ
place_in source i = place_of (length source) (words source) i

-- by the rules
abbrev pub ruled : Text → Program → Option Violation → Result Program Fault
ruled source t None = Ok t
ruled source t (Some f) = refused f.cause (place_in source f.index)

-- by the words
abbrev pub worded : Text → Reading Program → Result Program Fault
worded source (parsed t) = ruled source t (first_fault t)
worded source (unexpected i) = refused Word (place_in source i)
worded source (too_deep i) = refused Depth (place_in source i)

-- by the bytes
abbrev pub byted : Text → Option ℕ → Result Program Fault
byted source (Some p) = refused Byte p
byted source None = worded source (parse (texts (words source)))

-- the program of a source, or its first fault
abbrev pub outcome : Text → Result Program Fault
outcome source = cond (nat_lt 60000 (length source)) (refused Length 60000) (byted source (first_foreign source))

-- what compile answers
abbrev pub compile_answer : Result Program Fault → Result (Unit {0}) Fault
compile_answer (Ok t) = Ok tt
compile_answer (Err f) = Err f

-- what is stored after compile: where the source is refused, what was stored before
abbrev pub compile_after : Compiled → Result Program Fault → Compiled
compile_after before (Ok t) = compiled t
compile_after before (Err f) = before
