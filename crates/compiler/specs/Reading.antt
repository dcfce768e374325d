-- What the functions of the parser do: each reads what is awaited, and leaves the rest to whatever is awaited behind it.
use Rattle.std.specs.Prelude.{◌≡◌, ℕ, suc, ◌-◌, ◌<◌, ◌≤◌, Bool, cond, List, [], ◌∷◌, length, take, drop, Some, None, Ok, Err, Option, Result, nat_lt, option_map, MatchOption, MatchResult}
use Rattle.tape.specs.declared.kinds.Direction.{Direction}
use Rattle.words.specs.declared.token.Mark.{Mark}
use Rattle.words.specs.declared.token.Mark.TheVariants.{Close}
use Rattle.words.specs.Bytes.{Text}
use Rattle.words.specs.Words.{Word}
use Rattle.words.specs.Reading.{left}
use Rattle.words.specs.declared.word.Word.{Word as Given}
use Rattle.words.specs.declared.token.Keyword.TheVariants.{If as KeyIf, While as KeyWhile, Changeto as KeyChangeto, Move as KeyMove}
use Rattle.words.specs.Tokens.{Kind, kind}
use Rattle.meaning.specs.declared.faults.Fault.{Fault}
use Rattle.meaning.specs.declared.faults.Cause.TheVariants.{Depth}
use Rattle.meaning.specs.Codes.{word_code}
use Rattle.meaning.specs.Blocks.{again, end}
use Rattle.events.specs.Event as event
use Rattle.events.specs.Event.{Event}
use Rattle.events.specs.Descent.{Item, Edge, by_mark, edges, flow_edges, case_edges, pick, the_mark, a_letter, a_name, a_target, a_written, a_direction, a_symbol, symbols_end, once_end, body_end, cases_end, Stack, await, push, top, below, Outcome, made, fault, follow, is_key, is_symbol, is_name, run, ends}
use Rattle.events.specs.Notes.{Open, State, noted_as, letter_noted, write_noted, symbol_read, name_noted, jump_noted, turn_noted, apply}
use Rattle.program.specs.declared.blocks.Then.{Then}
use Rattle.notes.specs.declared.kinds.Span.{Span}
use Rattle.notes.specs.declared.switches.OpenSwitch.{OpenSwitch}
use Rattle.compiler.specs.declared.parser.Lexer.{Lexer}
use Rattle.compiler.specs.declared.parser.Parser.{Parser}
use Rattle.notes.specs.declared.kinds.Symbol.{Symbol}
use Rattle.compiler.specs.declared.parser.Room.{Room}
use Rattle.compiler.specs.declared.parser.Case.{Case}
use Rattle.compiler.specs.declared.parser.Command.{Command}
use Rattle.compiler.specs.declared.parser.Command.TheVariants.{Changeto, Move}
use Rattle.compiler.specs.declared.parser.Head.{Head}
use Rattle.compiler.specs.declared.parser.Head.TheVariants.{If, While}
use Rattle.notes.specs.Kinds.{text_in, then_of}
use Rattle.notes.specs.Switches.{switch_of}
use Rattle.notes.specs.Noted.{notes_of}

-- ---- Words.

-- the source that is read
abbrev pub source_of : Lexer → Text
source_of c = c.reader.source.now

-- the words that are left
abbrev pub rest : Lexer → List Word
rest c = left c.reader

-- d is further on than c, or as far, in the same source
abbrev pub Onward : Lexer → Lexer → Type 0
Onward c d = (length (rest d) ≤ length (rest c)) × (source_of c ≡ source_of d)

-- what the rest of the words comes to, from a stack and a state
unfoldable pub running : Lexer → Stack → State → Outcome State
running c k s = run apply (length (source_of c)) k s (rest c)

-- on from a word by the edge that it takes
abbrev pub along : List Edge → Given → State → (List Item → State → Outcome State) → Outcome State
along es w s go = follow apply w.place (pick es (kind w.text.now) w.text.now) s go

-- the next word, which is the stretch of the source at its place
abbrev pub Taken : Given → Lexer → Lexer → Type 0
Taken w c d =
    ((k : Stack) (s : State) → running c k s ≡ along (edges (top k)) w s (λ is t. running d (push is (below k)) t))
    × (w.text.now ≡ take (length w.text.now) (drop w.place (source_of c)))
    × (length (rest d) < length (rest c))

-- one word was taken, or the end comes too early
abbrev pub Took : Result Given Fault → Lexer → Lexer → Type 0
Took r c d = Onward c d × MatchResult r (λ w. Taken w c d) (λ f. (i : Item) (k : Stack) (s : State) → running c (await i k) s ≡ fault f.cause f.place)

-- one word was taken, or the end comes
abbrev pub Came : Option Given → Lexer → Lexer → Type 0
Came r c d = Onward c d × MatchOption r ((k : Stack) (s : State) → running c k s ≡ ends apply (length (source_of c)) k s) (λ w. Taken w c d)

-- the code of a word, if it is a symbol
abbrev pub code_in : Text → Option ℕ
code_in w = cond (is_symbol (kind w)) (Some (word_code w)) None

-- the stretch of the source that a word is
abbrev pub span_of : Given → Span
span_of w = record { start = w.place; length = length w.text.now }

-- the word is a name
abbrev pub named : Text → Bool
named w = is_name (kind w) w

-- an item of one word was read, with what is noted of it; or the word may not come
abbrev pub Meets : {A : Type 0} → Result A Fault → Item → (A → State → State) → Lexer → Lexer → Type 0
Meets (Ok a) i note c d = (k : Stack) (s : State) → running c (await i k) s ≡ running d k (note a s)
Meets (Err f) i note c d = (k : Stack) (s : State) → running c (await i k) s ≡ fault f.cause f.place

-- a mark was read at a place, whatever its event; or none
abbrev pub Marks : Result ℕ Fault → Mark → Lexer → Lexer → Type 0
Marks r m c d = Onward c d × ((e : Event) → Meets r (the_mark m e) (λ p. apply e p) c d)

-- a direction was read, or none
abbrev pub Directions : Result Direction Fault → Lexer → Lexer → Type 0
Directions r c d = Onward c d × Meets r a_direction (λ v s. noted_as (turn_noted v s.notes) s) c d

-- a symbol was read, and means this by what it is awaited for; or none
pub record Symbols (r : Result Symbol Fault) (c d : Lexer) : Type 0 where
  pub onward : Onward c d
  pub letter : Meets r a_letter (λ x s. noted_as (letter_noted x.code x.place s.notes) s) c d
  pub written : Meets r a_written (λ x s. noted_as (write_noted x.code x.place s.notes) s) c d
  pub shown : Meets r a_symbol (λ x s. symbol_read x.code x.place s.switches s) c d

-- a name was read, a stretch of the source, and means this by what it is awaited for; or none
pub record Names (r : Result Given Fault) (c d : Lexer) : Type 0 where
  pub onward : Onward c d
  pub named : Meets r a_name (λ n s. noted_as (name_noted (text_in (source_of c) (span_of n)) n.place s.notes) s) c d
  pub target : Meets r a_target (λ n s. noted_as (jump_noted (text_in (source_of c) (span_of n)) n.place s.notes) s) c d

-- ---- Commands.

-- the command that a word of a kind begins, if it begins one
abbrev pub command_in : Kind → Option Command
command_in κ = cond (is_key KeyChangeto κ) (Some Changeto) (cond (is_key KeyMove κ) (Some Move) None)

-- its rank
abbrev pub rank_of : Command → ℕ
rank_of Changeto = 1
rank_of Move = 2

-- what is awaited behind its first word
abbrev pub argument_of : Command → Item
argument_of Changeto = a_written
argument_of Move = a_direction

-- ---- Cases.

-- how many cases are around, by how many may still stand in one another
abbrev pub around : Room → ℕ
around room = 16 - room.cases

-- how the case begins that a word of a kind begins, if it begins one
abbrev pub head_in : Kind → Option Head
head_in κ = cond (is_key KeyIf κ) (Some If) (cond (is_key KeyWhile κ) (Some While) None)

-- the case that a word begins, if it begins one
abbrev pub case_in : Given → Room → Option Case
case_in w room = option_map (λ h. record { head = h; place = w.place; room = room }) (head_in (kind w.text.now))

-- what stands in a case's braces
abbrev pub inner : Head → ℕ → Item
inner If d = body_end d
inner While d = once_end

-- what is awaited behind the first word of a case, which stands in d cases
abbrev pub case_items : Head → ℕ → List Item
case_items h d = a_symbol ∷ symbols_end ∷ inner h (suc d) ∷ []

-- on behind the first word of a case
abbrev pub entering : Lexer → Case → Stack → State → Outcome State
entering c case k s =
    let d = around case.room in
    cond (nat_lt 16 (suc d)) (fault Depth case.place) (running c (push (case_items case.head d) (await (cases_end d) k)) s)

-- ---- Rules.

-- what is noted, and the open switches
abbrev pub state : Parser → List Open → State
state c os = record { notes = notes_of c.source.now c.notes; switches = os }

-- what comes of the words that are left, from a stack and the open switches
abbrev pub Ending : Type 0
Ending = Stack → List Open → Outcome State

-- where items are awaited on top of the stack
abbrev pub awaiting : List Item → Parser → Ending
awaiting is c k os = running c.lexer (push is k) (state c os)

-- where they are awaited in an open switch
abbrev pub awaiting_in : List Item → Parser → OpenSwitch → Ending
awaiting_in is c o k os = running c.lexer (push is k) (state c (switch_of o ∷ os))

-- what came of the words before comes of them now
abbrev pub Same : Ending → Ending → Type 0
Same before now = (k : Stack) (os : List Open) → before k os ≡ now k os

-- so it is, or what came of them is the fault
abbrev pub Answers : {A : Type 0} → Result A Fault → Ending → Ending → Type 0
Answers (Ok a) before now = Same before now
Answers (Err f) before now = Same before (λ k os. fault f.cause f.place)

-- the words of items were read and noted, whatever is awaited behind them; or the reading stops
abbrev pub Reads : {A : Type 0} → Result A Fault → List Item → Parser → Parser → Type 0
Reads r is c d = Onward c.lexer d.lexer × Answers r (awaiting is c) (awaiting [] d)

-- the same, in an open switch
abbrev pub ReadsIn : {A : Type 0} → Result A Fault → List Item → Parser → OpenSwitch → Parser → OpenSwitch → Type 0
ReadsIn r is c o d q = Onward c.lexer d.lexer × Answers r (awaiting_in is c o) (awaiting_in [] d q)

-- the direction of a while case's move, and the brace behind it
abbrev pub last_move : List Item
last_move = a_direction ∷ the_mark Close (event.finish again) ∷ []

-- the name of a goto, and the brace behind it
abbrev pub target_end : List Item
target_end = a_target ∷ the_mark Close event.quiet ∷ []

-- a basic block was finished, and the brace behind it was read; the place of a finish says nothing
abbrev pub Finishes : {A : Type 0} → Result A Fault → Then Span → Parser → Parser → Type 0
Finishes r t c d =
    Onward c.lexer d.lexer
    × Answers r
    (λ k os. running c.lexer (await (the_mark Close event.quiet) k) (apply (event.finish (then_of c.source.now t)) 0 (state c os)))
    (awaiting [] d)

-- a case in an open switch, whose first word is taken
abbrev pub Enters : {A : Type 0} → Result A Fault → Case → Parser → OpenSwitch → Parser → OpenSwitch → Type 0
Enters r case c o d q =
    Onward c.lexer d.lexer × Answers r (λ k os. entering c.lexer case k (state c (switch_of o ∷ os))) (awaiting_in (cases_end (around case.room) ∷ []) d q)

-- a switch that begins by this event, whose first word is taken
abbrev pub Switches : {A : Type 0} → Result A Fault → Event → Case → Parser → Parser → Type 0
Switches r e first c d = Onward c.lexer d.lexer × Answers r (λ k os. entering c.lexer first k (apply e first.place (state c os))) (awaiting [] d)

-- an item of these edges, whose first word is taken
abbrev pub Continues : {A : Type 0} → Result A Fault → List Edge → Given → Parser → Parser → Type 0
Continues r es w c d = Onward c.lexer d.lexer × Answers r (λ k os. along es w (state c os) (λ is s. running c.lexer (push is k) s)) (awaiting [] d)

-- the brace behind an open switch, whose word is taken
abbrev pub EndsSwitch : {A : Type 0} → Result A Fault → Given → Parser → OpenSwitch → Parser → Type 0
EndsSwitch r w c o d =
    Onward c.lexer d.lexer
    × Answers r (λ k os. along (by_mark Close [] event.ended ∷ []) w (state c (switch_of o ∷ os)) (λ is s. running c.lexer (push is k) s)) (awaiting [] d)

-- the edges of what ends a body behind commands, which stands in d cases
abbrev pub ends_body : ℕ → List Edge
ends_body d = flow_edges (case_edges d event.next_switch (by_mark Close [] (event.finish end) ∷ []))

-- modules up to the end, from a stack
abbrev pub Ends : {A : Type 0} → Result A Fault → Stack → Parser → Parser → Type 0
Ends (Ok a) k c d = running c.lexer k (state c []) ≡ made (state d [])
Ends (Err f) k c d = running c.lexer k (state c []) ≡ fault f.cause f.place
