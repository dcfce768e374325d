-- What events make of a draft: the same as the tree that they are of.
use Rattle.std.specs.Prelude.{ℕ, cond, not, List, [], ◌∷◌, ◌++◌, Some, nat_lt}
use Rattle.words.specs.Bytes.{Text}
use Rattle.meaning.specs.declared.faults.Cause.TheVariants.{Alphabet, Letter}
use Rattle.meaning.specs.Codes.{word_code, member, columns}
use Rattle.meaning.specs.Blocks.{Then, next, jump, switch}
use Rattle.draft.specs.Draft.{Letters, Draft, no_letters, empty_draft, letter_noted, flagged, name_noted, is_column, Seen, none_seen, seen_too, code_noted, switch_ended, goto_noted, begun}
use Rattle.draft.specs.Building.{numbered, arm_of, Current, fresh, last_rank, closed, unfilled, Progress, next_begun}
use Rattle.events.specs.Event as event
use Rattle.events.specs.Event.{Event}

-- a switch whose end is still to come: its number, where its first case began, the codes seen in it, and those of the case at hand
pub record Open : Type 0 where
  pub number : ℕ
  pub first : ℕ
  pub seen : Seen
  pub codes : List ℕ

-- the letters, the draft, the basic block under construction, and the open switches, the innermost first
pub record State : Type 0 where
  pub letters : Letters
  pub draft : Draft
  pub current : Current
  pub switches : List Open

-- before the first word
abbrev pub empty_state : State
empty_state = record { letters = no_letters; draft = empty_draft no_letters; current = fresh (numbered 0); switches = [] }

-- with another draft
abbrev pub with_draft : Draft → State → State
with_draft x s = record { letters = s.letters; draft = x; current = s.current; switches = s.switches }

-- with another basic block under construction
abbrev pub with_current : Current → State → State
with_current c s = record { letters = s.letters; draft = s.draft; current = c; switches = s.switches }

-- with other open switches
abbrev pub with_open : List Open → State → State
with_open os s = record { letters = s.letters; draft = s.draft; current = s.current; switches = os }

-- a symbol of the alphabet
abbrev pub letter_read : ℕ → ℕ → State → State
letter_read c p s = record {
  letters = letter_noted c p s.letters;
  draft = flagged (member c (columns s.letters.letters)) p Alphabet s.draft;
  current = s.current;
  switches = s.switches;
}

-- a module's body begins with a basic block
abbrev pub begin_read : ℕ → State → State
begin_read p s = record {
  letters = s.letters;
  draft = begun s.letters p unfilled s.draft;
  current = fresh (numbered s.draft.count);
  switches = s.switches;
}

-- a block under construction, and its draft
abbrev pub with_progress : Progress → State → State
with_progress w s = record { letters = s.letters; draft = w.draft; current = w.current; switches = s.switches }

-- a command of this rank behind another: it begins a block, unless its rank is higher
abbrev pub command_read : ℕ → ℕ → State → State
command_read r p s = cond (nat_lt (last_rank s.current) r) s (with_progress (next_begun s.letters s.current p s.draft) s)

-- the symbol of a changeto
abbrev pub write_read : ℕ → ℕ → State → State
write_read c p s = record {
  letters = s.letters;
  draft = flagged (not (is_column s.letters c)) p Letter s.draft;
  current = record { owner = s.current.owner; write = Some c; move = s.current.move };
  switches = s.switches;
}

-- the basic block under construction is finished
abbrev pub finish_read : Then Text → State → State
finish_read t s = with_draft (closed s.current t s.draft) s

-- a switch begins
abbrev pub open_read : ℕ → State → State
open_read p s = record {
  letters = s.letters;
  draft = begun s.letters p (switch []) s.draft;
  current = s.current;
  switches = record { number = s.draft.count; first = p; seen = none_seen; codes = [] } ∷ s.switches;
}

-- another case of the switch begins
abbrev pub another_read : List Open → State → State
another_read [] s = s
another_read (o ∷ os) s = with_open (record { number = o.number; first = o.first; seen = o.seen; codes = [] } ∷ os) s

-- a symbol of a case
abbrev pub symbol_read : ℕ → ℕ → List Open → State → State
symbol_read c p [] s = s
symbol_read c p (o ∷ os) s = record {
  letters = s.letters;
  draft = code_noted s.letters c p o.seen s.draft;
  current = s.current;
  switches = record { number = o.number; first = o.first; seen = seen_too c o.seen; codes = o.codes ++ c ∷ [] } ∷ os;
}

-- the body of a case begins
abbrev pub enter_read : List Open → State → State
enter_read [] s = s
enter_read (o ∷ os) s = with_current (fresh (arm_of o.number o.codes)) s

-- the switch ends
abbrev pub ended_read : List Open → State → State
ended_read [] s = s
ended_read (o ∷ os) s = with_open os (with_draft (switch_ended s.letters o.first o.seen s.draft) s)

-- what an event at a place makes of a state
abbrev pub noting : Event → ℕ → State → State
noting event.quiet p s = s
noting (event.letter w) p s = letter_read (word_code w) p s
noting (event.name w) p s = with_draft (name_noted w p s.draft) s
noting event.begin p s = begin_read p s
noting (event.begin_finish t) p s = finish_read t (begin_read p s)
noting (event.command r) p s = command_read r p s
noting (event.write w) p s = write_read (word_code w) p s
noting (event.turn d) p s = with_current (record { owner = s.current.owner; write = s.current.write; move = Some d }) s
noting (event.finish t) p s = finish_read t s
noting (event.jump w) p s = with_draft (goto_noted w p (closed s.current (jump w) s.draft)) s
noting event.begin_switch p s = open_read p s
noting event.next_switch p s = open_read p (finish_read (next s.draft.count) s)
noting event.another p s = another_read s.switches s
noting (event.symbol w) p s = symbol_read (word_code w) p s.switches s
noting event.enter p s = enter_read s.switches s
noting event.ended p s = ended_read s.switches s
