-- What a compiler keeps in memory of fixed size while it reads, and what each event makes of it. What no longer fits is left out: the theorems say
-- that this never matters.
use Rattle.std.specs.Prelude.{ℕ, zero, suc, ◌+◌, min, Bool, true, false, cond, not, List, [], ◌∷◌, ◌++◌, map, length, take, replicate, Some, None, Option, nat_lt, slice_index_or, slice_set}
use Rattle.tape.specs.declared.kinds.Direction.{Direction}
use Rattle.words.specs.Bytes.{Text}
use Rattle.words.specs.Vocabulary.{ACCEPT, REJECT}
use Rattle.meaning.specs.declared.faults.Cause.{Cause}
use Rattle.meaning.specs.declared.faults.Cause.TheVariants.{Alphabet, ModuleName, Letter, Repeated, Missing, Limit}
use Rattle.meaning.specs.Codes.{word_code, member, columns}
use Rattle.meaning.specs.Blocks.{Then, next, jump, Basic, Kind, basic, switch, lead, settled_kind, Compiled}
use Rattle.meaning.specs.Faults.{Violation, named, too_many}
use Rattle.draft.specs.Draft.{Entry, Pending, met, names_of, resolved, first_number}
use Rattle.draft.specs.Building.{Owner, numbered, arm_of, Current, fresh, last_rank, basic_from, unfilled}
use Rattle.events.specs.Event as event
use Rattle.events.specs.Event.{Event}

-- how many letters, modules, gotos, and symbols of a switch or a case are kept
abbrev pub most_letters : ℕ
most_letters = 36

abbrev pub most_names : ℕ
most_names = 3749

abbrev pub most_gotos : ℕ
most_gotos = 5000

abbrev pub most_arms : ℕ
most_arms = 37

-- how far blocks and columns are counted
abbrev pub most_count : ℕ
most_count = 4294967295

-- one more, as far as is counted
abbrev pub counted : ℕ → ℕ
counted n = min (n + 1) most_count

-- one more at the end, if there are less than n
abbrev pub kept : {A : Type 0} → ℕ → List A → A → List A
kept n xs x = cond (nat_lt (length xs) n) (xs ++ x ∷ []) xs

-- the letters, each once; the number of columns, with every letter counted; the modules; the gotos; how many blocks have begun; those that are within the
-- limits; the lowest violation; the basic block under construction
pub record Notes : Type 0 where
  pub letters : List ℕ
  pub width : ℕ
  pub names : List Entry
  pub gotos : List Pending
  pub count : ℕ
  pub blocks : List (Kind Text)
  pub violation : Option Violation
  pub current : Current
  -- how many names and gotos there is room for
  pub name_room : ℕ
  pub goto_room : ℕ

-- a switch whose end is still to come: its number, where its first case began, for each code whether it was seen, and the codes of the case at hand
pub record Open : Type 0 where
  pub number : ℕ
  pub first : ℕ
  pub seen : List Bool
  pub codes : List ℕ

-- before the first word, with room for n names and g gotos
unfoldable pub no_notes : ℕ → ℕ → Notes
no_notes n g = record { letters = []; width = 1; names = []; gotos = []; count = 0; blocks = []; violation = None; current = fresh (numbered 0); name_room = n; goto_room = g }

-- a violation, if the test says so
unfoldable pub flagged : Bool → ℕ → Cause → Notes → Notes
flagged b p n x = record {
  letters = x.letters;
  width = x.width;
  names = x.names;
  gotos = x.gotos;
  count = x.count;
  blocks = x.blocks;
  violation = met b p n x.violation;
  current = x.current;
  name_room = x.name_room;
  goto_room = x.goto_room;
}

-- with another basic block under construction
unfoldable pub with_current : Current → Notes → Notes
with_current c x = record {
  letters = x.letters;
  width = x.width;
  names = x.names;
  gotos = x.gotos;
  count = x.count;
  blocks = x.blocks;
  violation = x.violation;
  current = c;
  name_room = x.name_room;
  goto_room = x.goto_room;
}

-- a code is blank's or a letter's
unfoldable pub is_column : Notes → ℕ → Bool
is_column x c = member c (columns x.letters)

-- a symbol of the alphabet at a place
unfoldable pub letter_noted : ℕ → ℕ → Notes → Notes
letter_noted c p x =
    let again = member c (columns x.letters) in
    record {
      letters = cond again x.letters (kept most_letters x.letters c);
      width = counted x.width;
      names = x.names;
      gotos = x.gotos;
      count = x.count;
      blocks = x.blocks;
      violation = met again p Alphabet x.violation;
      current = x.current;
      name_room = x.name_room;
      goto_room = x.goto_room;
    }

-- a module's name at a place; the module's first block has the next number
unfoldable pub name_noted : Text → ℕ → Notes → Notes
name_noted w p x = record {
  letters = x.letters;
  width = x.width;
  names = kept x.name_room x.names (record { name = w; first = x.count });
  gotos = x.gotos;
  count = x.count;
  blocks = x.blocks;
  violation = met (named w (ACCEPT ∷ REJECT ∷ names_of x.names)) p ModuleName x.violation;
  current = x.current;
  name_room = x.name_room;
  goto_room = x.goto_room;
}

-- a block of this kind takes the next number, at a place
unfoldable pub begun : ℕ → Kind Text → Notes → Notes
begun p k x =
    let over = too_many (suc x.count) x.width in
    record {
      letters = x.letters;
      width = x.width;
      names = x.names;
      gotos = x.gotos;
      count = counted x.count;
      blocks = cond over x.blocks (x.blocks ++ k ∷ []);
      violation = met over p Limit x.violation;
      current = x.current;
      name_room = x.name_room;
      goto_room = x.goto_room;
    }

-- the kind of the block numbered q, changed
abbrev pub altered : List (Kind Text) → ℕ → (Kind Text → Kind Text) → List (Kind Text)
altered [] q f = []
altered (k ∷ ks) zero f = f k ∷ ks
altered (k ∷ ks) (suc q) f = k ∷ altered ks q f

-- a switch in which these codes, too, lead to b
abbrev pub with_arms : List ℕ → Basic Text → Kind Text → Kind Text
with_arms cs b (basic c) = basic c
with_arms cs b (switch arms) = switch (take most_arms (arms ++ lead cs b))

-- blocks in which the owner has its basic block
abbrev pub filled : Owner → Basic Text → List (Kind Text) → List (Kind Text)
filled (numbered q) b ks = altered ks q (λ k. basic b)
filled (arm_of q cs) b ks = altered ks q (with_arms cs b)

-- the basic block under construction is finished
unfoldable pub finished : Then Text → Notes → Notes
finished t x = record {
  letters = x.letters;
  width = x.width;
  names = x.names;
  gotos = x.gotos;
  count = x.count;
  blocks = filled x.current.owner (basic_from x.current t) x.blocks;
  violation = x.violation;
  current = x.current;
  name_room = x.name_room;
  goto_room = x.goto_room;
}

-- the number that comes next
unfoldable pub next_number : Notes → ℕ
next_number x = x.count

-- a basic block takes the next number, at a place, and is under construction
unfoldable pub basic_begun : ℕ → Notes → Notes
basic_begun p x = with_current (fresh (numbered x.count)) (begun p unfilled x)

-- a command of this rank behind another, at a place: it begins a block, unless its rank is higher
unfoldable pub command_noted : ℕ → ℕ → Notes → Notes
command_noted r p x = cond (nat_lt (last_rank x.current) r) x (basic_begun p (finished (next x.count) x))

-- the symbol of a changeto at a place
unfoldable pub write_noted : ℕ → ℕ → Notes → Notes
write_noted c p x =
    with_current (record { owner = x.current.owner; write = Some c; move = x.current.move })
    (flagged (not (member c (columns x.letters))) p Letter x)

-- the direction of a move
unfoldable pub turn_noted : Direction → Notes → Notes
turn_noted d x = with_current (record { owner = x.current.owner; write = x.current.write; move = Some d }) x

-- a goto's name at a place
unfoldable pub jump_noted : Text → ℕ → Notes → Notes
jump_noted w p x =
    let y = finished (jump w) x in
    record {
      letters = y.letters;
      width = y.width;
      names = y.names;
      gotos = kept y.goto_room y.gotos (record { name = w; index = p });
      count = y.count;
      blocks = y.blocks;
      violation = y.violation;
      current = y.current;
      name_room = y.name_room;
      goto_room = y.goto_room;
    }

-- a switch begins at a place
unfoldable pub switch_begun : ℕ → Notes → Notes
switch_begun p x = begun p (switch []) x

-- before its first symbol
unfoldable pub opened : ℕ → Notes → Open
opened p x = record { number = x.count; first = p; seen = replicate 37 false; codes = [] }

-- another case of it begins
unfoldable pub another_case : Open → Open
another_case o = record { number = o.number; first = o.first; seen = o.seen; codes = [] }

-- one more symbol of it
unfoldable pub symbol_seen : ℕ → Open → Open
symbol_seen c o = record { number = o.number; first = o.first; seen = slice_set o.seen c true; codes = kept most_arms o.codes c }

-- what a symbol of a case at a place may break
unfoldable pub symbol_noted : ℕ → ℕ → Open → Notes → Notes
symbol_noted c p o x = cond (member c (columns x.letters)) (flagged (slice_index_or o.seen c false) p Repeated x) (flagged true p Letter x)

-- the body of a case begins
unfoldable pub case_entered : Open → Notes → Notes
case_entered o x = with_current (fresh (arm_of o.number o.codes)) x

-- all of these codes were seen
abbrev pub all_seen : List ℕ → List Bool → Bool
all_seen [] s = true
all_seen (c ∷ cs) s = cond (slice_index_or s c false) (all_seen cs s) false

-- the switch ends
unfoldable pub switch_ended : Open → Notes → Notes
switch_ended o x = flagged (not (all_seen (columns x.letters) o.seen)) o.first Missing x

-- notes, and the open switches, the innermost first
pub record State : Type 0 where
  pub notes : Notes
  pub switches : List Open

-- before the first word
abbrev pub empty_state : State
empty_state = record { notes = no_notes most_names most_gotos; switches = [] }

-- other notes
abbrev pub noted_as : Notes → State → State
noted_as x s = record { notes = x; switches = s.switches }

-- what an event makes of open switches, and of notes, by the innermost
abbrev pub another_read : List Open → State → State
another_read [] s = s
another_read (o ∷ os) s = record { notes = s.notes; switches = another_case o ∷ os }

abbrev pub symbol_read : ℕ → ℕ → List Open → State → State
symbol_read c p [] s = s
symbol_read c p (o ∷ os) s = record { notes = symbol_noted c p o s.notes; switches = symbol_seen c o ∷ os }

abbrev pub enter_read : List Open → State → State
enter_read [] s = s
enter_read (o ∷ os) s = record { notes = case_entered o s.notes; switches = o ∷ os }

abbrev pub ended_read : List Open → State → State
ended_read [] s = s
ended_read (o ∷ os) s = record { notes = switch_ended o s.notes; switches = os }

-- a switch begins
abbrev pub open_read : ℕ → Notes → List Open → State
open_read p x os = record { notes = switch_begun p x; switches = opened p x ∷ os }

-- what an event at a place makes of a state
abbrev pub apply : Event → ℕ → State → State
apply event.quiet p s = s
apply (event.letter w) p s = noted_as (letter_noted (word_code w) p s.notes) s
apply (event.name w) p s = noted_as (name_noted w p s.notes) s
apply event.begin p s = noted_as (basic_begun p s.notes) s
apply (event.begin_finish t) p s = noted_as (finished t (basic_begun p s.notes)) s
apply (event.command r) p s = noted_as (command_noted r p s.notes) s
apply (event.write w) p s = noted_as (write_noted (word_code w) p s.notes) s
apply (event.turn d) p s = noted_as (turn_noted d s.notes) s
apply (event.finish t) p s = noted_as (finished t s.notes) s
apply (event.jump w) p s = noted_as (jump_noted w p s.notes) s
apply event.begin_switch p s = open_read p s.notes s.switches
apply event.next_switch p s = open_read p (finished (next (next_number s.notes)) s.notes) s.switches
apply event.another p s = another_read s.switches s
apply (event.symbol w) p s = symbol_read (word_code w) p s.switches s
apply event.enter p s = enter_read s.switches s
apply event.ended p s = ended_read s.switches s

-- the lowest violation after the last word: the gotos against the names of all modules
unfoldable pub told : Notes → Option Violation
told x = resolved (names_of x.names) x.gotos x.violation

-- the blocks with their gotos settled
abbrev pub settled_kinds : (Text → ℕ) → List (Kind Text) → List (Kind ℕ)
settled_kinds at ks = map (settled_kind at) ks

-- the program that notes stand for
unfoldable pub program_noted : Notes → Compiled
program_noted x = record { letters = x.letters; blocks = settled_kinds (first_number x.names) x.blocks }
