-- What compile does, in the words of the subject.
use Rattle.std.specs.Prelude.{◌≡◌, ℕ, false, cond, ◌↔◌, length, Some, None, Ok, Err, Option, Result, nat_lt}
use Rattle.words.specs.Bytes.{Text, first_foreign}
use Rattle.words.specs.Words.{words}
use Rattle.grammar.specs.Tree.{Program}
use Rattle.meaning.specs.declared.faults.Cause.TheVariants.{Length, Byte}
use Rattle.meaning.specs.declared.faults.Fault.{Fault}
use Rattle.meaning.specs.Blocks.{Compiled, compiled}
use Rattle.meaning.specs.Outcome.{fault, outcome}
use Rattle.program.specs.declared.program.Program.{Program as Stored}
use Rattle.program.specs.Stored.{compiled as stored}
use Rattle.meaning.specs.Exact.{Accepted, Refused}
use Rattle.events.specs.Notes.{no_notes, most_names, most_gotos}
use Rattle.notes.specs.Noted.{notes_of}
use Rattle.compiler.specs.declared.parser.Parser.{Parser}
use Rattle.compiler.specs.Reading.{source_of, rest}

-- the bytes of a source are fit to be read
abbrev pub Readable : Text → Type 0
Readable source = (nat_lt 60000 (length source) ≡ false) × (first_foreign source ≡ None)

-- they are, or it is too long, or has a byte of no word and no separator
abbrev pub foreign_or : Option ℕ → Result (Unit {0}) Fault
foreign_or None = Ok tt
foreign_or (Some p) = Err (fault Byte p)

abbrev pub bytes_judged : Text → Result (Unit {0}) Fault
bytes_judged source = cond (nat_lt 60000 (length source)) (Err (fault Length 60000)) (foreign_or (first_foreign source))

-- they are, or it has this fault
abbrev pub ReadableOr : Result (Unit {0}) Fault → Text → Type 0
ReadableOr (Ok a) source = Readable source
ReadableOr (Err f) source = outcome source ≡ Err f

-- before the first word of a source whose bytes are fit to be read, with nothing noted and room for all names and gotos
pub record Begins (c : Parser) : Type 0 where
  pub readable : Readable (source_of c.lexer)
  pub first : rest c.lexer ≡ words (source_of c.lexer)
  pub nothing : notes_of c.source.now c.notes ≡ no_notes most_names most_gotos

-- a source is that of this program, or it has this fault
abbrev pub ReadAs : Result Stored Fault → Text → Type 0
ReadAs (Ok p) source = (t : Program) × (outcome source ≡ Ok t) × (stored p ≡ compiled t)
ReadAs (Err f) source = outcome source ≡ Err f

-- what is answered for a source, and what is stored before and after
pub record Compiles (source : Text) (answer : Result (Unit {0}) Fault) (before after : Compiled) : Type 0 where
  -- done, exactly where the source is that of a program that keeps the rules
  pub accepts : (answer ≡ Ok tt) ↔ ((t : Program) × Accepted source t)
  -- the fault, exactly where it is the source's
  pub refuses : (f : Fault) → (answer ≡ Err f) ↔ Refused source f
  -- the source is that of one program only, whose alphabet and blocks are then stored
  pub only : (t u : Program) → Accepted source t → Accepted source u → t ≡ u
  pub stores : (t : Program) → Accepted source t → after ≡ compiled t
  -- where it is refused, what was stored stays
  pub keeps : (f : Fault) → Refused source f → after ≡ before
