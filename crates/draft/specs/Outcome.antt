-- The outcome of a source by its draft.
use Rattle.std.specs.Prelude.{◌≡◌, ◌<◌, false, length, Some, None, Ok, Option, Result, nat_lt}
use Rattle.std.specs.List.{AllByRecursion}
use Rattle.words.specs.Bytes.{Text, first_foreign}
use Rattle.words.specs.Words.{words}
use Rattle.grammar.specs.Tree.{Program}
use Rattle.grammar.specs.Automaton.{parsed, parse}
use Rattle.grammar.specs.Places.{texts}
use Rattle.grammar.specs.Render.{render}
use Rattle.meaning.specs.declared.faults.Fault.{Fault}
use Rattle.meaning.specs.Blocks.{Compiled}
use Rattle.meaning.specs.Faults.{Violation, faults}
use Rattle.meaning.specs.Outcome.{refused, outcome, compile_after}
use Rattle.draft.specs.Draft.{Letters, Draft}
use Rattle.draft.specs.Noted.{letters_of, draft_of, told, finished}
use Rattle.draft.specs.Places.{letters_at, draft_at, place_at}

-- every violation stands at a word of the program
abbrev pub ViolationsWithin : Type 0
ViolationsWithin = (t : Program) → AllByRecursion (λ v. v.index < length (render t)) (faults t)

-- the letters of a program in a source, by places
abbrev pub source_letters : Text → Program → Letters
source_letters source t = letters_at (place_at source) (letters_of t)

-- the draft of a program in a source, by places
abbrev pub source_draft : Text → Program → Draft
source_draft source t = draft_at (place_at source) (draft_of t)

-- what a finished draft by places says of its program, by what it tells
abbrev pub drafted : Program → Option Violation → Result Program Fault
drafted t None = Ok t
drafted t (Some v) = refused v.cause v.index

-- what is stored after a draft is finished: where it tells a violation, what was stored before
abbrev pub stored : Compiled → Option Violation → Compiled → Compiled
stored before None c = c
stored before (Some v) c = before

-- what a draft by places tells of its source
pub record Told (source : Text) (t : Program) : Type 0 where
  -- the outcome of the source
  pub answers : outcome source ≡ drafted t (told (source_draft source t))
  -- and what is stored after compile
  pub stores : (before : Compiled) → compile_after before (outcome source) ≡ stored before (told (source_draft source t)) (finished (source_letters source t) (source_draft source t))

-- so of every source that is not too long, has no foreign byte, and whose words are a program's
abbrev pub TellsOutcome : Type 0
TellsOutcome = (source : Text) (t : Program) → nat_lt 60000 (length source) ≡ false → first_foreign source ≡ None → parse (texts (words source)) ≡ parsed t → Told source t
