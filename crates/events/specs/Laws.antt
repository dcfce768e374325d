-- The descent and its events tell of a source what the grammar, the rules and the tree tell.
use Rattle.std.specs.Prelude.{◌≡◌, ℕ, suc, false, List, [], ◌∷◌, length, Some, None, Ok, Err, Option, Result, nat_lt}
use Rattle.words.specs.Bytes.{Text, first_foreign}
use Rattle.words.specs.Words.{Word, words}
use Rattle.grammar.specs.Tree.{Program}
use Rattle.grammar.specs.Automaton.{Reading, parsed, unexpected, too_deep, parse_at, parse}
use Rattle.grammar.specs.Places.{texts}
use Rattle.meaning.specs.declared.faults.Cause.TheVariants.{Word as WordFault, Depth}
use Rattle.meaning.specs.declared.faults.Fault.{Fault}
use Rattle.meaning.specs.Blocks.{compiled}
use Rattle.meaning.specs.Faults.{Violation}
use Rattle.meaning.specs.Outcome.{fault as fault_of, refused, outcome, compile_answer}
use Rattle.draft.specs.Noted.{letters_of, draft_of, told as draft_told, finished as draft_finished}
use Rattle.draft.specs.Places.{Rises, letters_at, draft_at}
use Rattle.draft.specs.Outcome.{source_letters, source_draft}
use Rattle.events.specs.Event.{Event, events, played}
use Rattle.events.specs.Descent.{Outcome, made, fault, run, start}
use Rattle.events.specs.Noting as noting
use Rattle.events.specs.Notes.{Notes, State, empty_state, apply, told, program_noted}

-- the places of words
abbrev pub places : List Word → List ℕ
places [] = []
places (w ∷ ws) = w.place ∷ places ws

-- what the words come to, by what the grammar reads
abbrev pub read_as : {S : Type 0} → (Program → S) → Reading Program → Outcome S
read_as f (parsed t) = made (f t)
read_as f (unexpected p) = fault WordFault p
read_as f (too_deep p) = fault Depth p

-- the descent reads what the grammar reads, and plays the events of the tree, each at the place of its word
abbrev pub Follows : Type 0
Follows =
    (source : Text)
    → run apply (length source) start empty_state (words source) ≡ read_as (λ t. played apply (events t) (places (words source)) empty_state) (parse_at (length source) (words source))

-- the places at which a function has the first n words, from the word i
abbrev pub listed : (ℕ → ℕ) → ℕ → List Event → List ℕ
listed at i [] = []
listed at i (e ∷ es) = at i ∷ listed at (suc i) es

-- events make of a draft what the tree makes, at any rising places
pub record Makes (at : ℕ → ℕ) (t : Program) : Type 0 where
  pub letters : (played noting.noting (events t) (listed at 0 (events t)) noting.empty_state).letters ≡ letters_at at (letters_of t)
  pub draft : (played noting.noting (events t) (listed at 0 (events t)) noting.empty_state).draft ≡ draft_at at (draft_of t)

abbrev pub MakesDrafts : Type 0
MakesDrafts = (at : ℕ → ℕ) → Rises at → (t : Program) → Makes at t

-- what is kept in memory of fixed size tells the same
pub record Keeps (source : Text) (t : Program) (x : Notes) : Type 0 where
  pub tells : told x ≡ draft_told (source_draft source t)
  pub stores : told x ≡ None → program_noted x ≡ draft_finished (source_letters source t) (source_draft source t)

abbrev pub KeepsAll : Type 0
KeepsAll =
    (source : Text) (t : Program) → nat_lt 60000 (length source) ≡ false → parse (texts (words source)) ≡ parsed t
    → Keeps source t (played apply (events t) (places (words source)) empty_state).notes

-- what compile answers where notes tell this
abbrev pub answered : Option Violation → Result (Unit {0}) Fault
answered None = Ok tt
answered (Some v) = Err (fault_of v.cause v.index)

-- notes tell the outcome of a source: its fault, or, where there is none, its program
pub record Noted (source : Text) (x : Notes) : Type 0 where
  pub answers : compile_answer (outcome source) ≡ answered (told x)
  pub accepts : told x ≡ None → (t : Program) × (outcome source ≡ Ok t) × (program_noted x ≡ compiled t)

-- what the descent comes to tells the outcome of a source
abbrev pub Tells : Text → Outcome State → Type 0
Tells source (made s) = Noted source s.notes
Tells source (fault c p) = outcome source ≡ refused c p

-- so of every source that is not too long and has no foreign byte
abbrev pub Descends : Type 0
Descends = (source : Text) → nat_lt 60000 (length source) ≡ false → first_foreign source ≡ None → Tells source (run apply (length source) start empty_state (words source))
