-- The blocks of a program, in the order of their first words: the block at q in the list has the number q.
use Rattle.std.specs.Prelude.{ℕ, suc, ◌+◌, Bool, true, false, cond, List, [], ◌∷◌, ◌++◌, map, length, Some, None, Option, nat_lt}
use Rattle.std.proofs.Math.Option.{Option as Maybe, none, some}
use Rattle.tape.specs.declared.kinds.Direction.{Direction}
use Rattle.words.specs.Bytes.{Text}
use Rattle.words.specs.Vocabulary.{Symbol, same}
use Rattle.grammar.specs.Tree.{Direction as WrittenDirection, Act, change, move, Flow, accept, reject, goto, Once, once_change, once_move, Symbols, symbols, Body, act_cases, acts_flow, Case, if, while, Cases, no_more, more, Inside, cases, body, Module, module', Program, program}
use Rattle.grammar.specs.Render.{acts_words, flow_words, symbols_words, case_words, module_words}
use Rattle.meaning.specs.Codes.{code, meant}

-- the commands of one basic block: at most one of each rank, in rising rank
pub record Part : Type 0 where
  pub write : Maybe Symbol
  pub move : Maybe WrittenDirection
  pub flow : Maybe Flow

-- the rank of an act; a flow has 3
abbrev pub rank : Act → ℕ
rank (change s) = 1
rank (move d) = 2

-- the rank of a part's first command
abbrev pub first_rank : Part → ℕ
first_rank p = elim p.write [ some s ↦ 1 | none ↦ elim p.move [ some d ↦ 2 | none ↦ 3 ] ]

-- an act in front of a part
abbrev pub before : Act → Part → Part
before (change s) p = record { write = some s; move = p.move; flow = p.flow }
before (move d) p = record { write = p.write; move = some d; flow = p.flow }

-- a part with no act
abbrev pub ending : Maybe Flow → Part
ending f = record { write = none; move = none; flow = f }

-- an act stands in the part that follows it, unless that part's first rank isn't higher
abbrev pub joined : Act → List Part → List Part
joined a [] = before a (ending none) ∷ []
joined a (p ∷ ps) = cond (nat_lt (rank a) (first_rank p)) (before a p ∷ ps) (before a (ending none) ∷ p ∷ ps)

-- acts, and a flow if there is one, split into basic blocks
abbrev pub parts : List Act → Maybe Flow → List Part
parts [] none = []
parts [] (some f) = ending (some f) ∷ []
parts (a ∷ xs) f = joined a (parts xs f)

-- what comes after a basic block; a goto leads to a G, which is first a name and then a number
pub data Then (G : Type 0) : Type 0 where
  again : Then G  -- in a while case: the same switch
  accepting rejecting : Then G
  jump : G → Then G  -- goto
  next : ℕ → Then G  -- the next block of the same body, by its number
  end : Then G  -- the body has no next block

-- a basic block
pub record Basic (G : Type 0) : Type 0 where
  pub write : Option ℕ
  pub move : Option Direction
  pub then : Then G

-- a block that has a number; a switch has, for each symbol, the first basic block of its case
pub data Kind (G : Type 0) : Type 0 where
  basic : Basic G → Kind G
  switch : List (ℕ × Basic G) → Kind G

-- a numbered block, and the index of its first word
pub record Block (G : Type 0) : Type 0 where
  pub index : ℕ
  pub kind : Kind G

-- the code that a changeto writes, if there is one
abbrev pub written_code : Maybe Symbol → Option ℕ
written_code none = None
written_code (some s) = Some (code s)

-- the direction of a move, if there is one
abbrev pub written_move : Maybe WrittenDirection → Option Direction
written_move none = None
written_move (some d) = Some (meant d)

-- what comes after a basic block with a flow
abbrev pub flow_then : Flow → Then Text
flow_then accept = accepting
flow_then reject = rejecting
flow_then (goto n) = jump n.word

-- what comes after a basic block; `behind`: is there another block in the body, whose number is then q
abbrev pub then_of : Maybe Flow → Bool → ℕ → Then Text
then_of (some f) behind q = flow_then f
then_of none true q = next q
then_of none false q = end

-- a part as a basic block
abbrev pub basic_of : Part → Bool → ℕ → Basic Text
basic_of p behind q = record { write = written_code p.write; move = written_move p.move; then = then_of p.flow behind q }

-- is there another block after these parts
abbrev pub some_part : List Part → Bool → Bool
some_part [] behind = behind
some_part (p ∷ ps) behind = true

-- is there a case
abbrev pub some_case : Cases → Bool
some_case no_more = false
some_case (more c cs) = true

-- the basic blocks of a body
abbrev pub body_parts : Body → List Part
body_parts (act_cases a xs cs) = parts (a ∷ xs) none
body_parts (acts_flow xs f) = parts xs (some f)

-- does a body end in a switch
abbrev pub ends_in_cases : Body → Bool
ends_in_cases (act_cases a xs cs) = some_case cs
ends_in_cases (acts_flow xs f) = false

-- the first of these parts, where the next block of the body has the number q
abbrev pub first_of : List Part → Bool → ℕ → Basic Text
first_of [] behind q = basic_of (ending none) behind q
first_of (p ∷ ps) behind q = basic_of p (some_part ps behind) q

-- the first basic block of a body, where the next one has the number q
abbrev pub first_basic : Body → ℕ → Basic Text
first_basic b q = first_of (body_parts b) (ends_in_cases b) q

-- the basic block of a while case
abbrev pub once_basic : Once → Basic Text
once_basic (once_change s m) = record { write = Some (code s); move = written_move m; then = again }
once_basic (once_move d) = record { write = None; move = Some (meant d); then = again }

-- the first basic block of a case, where the next one has the number q
abbrev pub case_basic : Case → ℕ → Basic Text
case_basic (if ss b) q = first_basic b q
case_basic (while ss o) q = once_basic o

-- the codes of symbols
abbrev pub symbols_codes : Symbols → List ℕ
symbols_codes (symbols s ss) = code s ∷ map code ss

-- the codes of a case's symbols
abbrev pub case_codes : Case → List ℕ
case_codes (if ss b) = symbols_codes ss
case_codes (while ss o) = symbols_codes ss

-- each of these symbols leads to b
abbrev pub lead : List ℕ → Basic Text → List (ℕ × Basic Text)
lead [] b = []
lead (c ∷ cs) b = (c, b) ∷ lead cs b

-- how many words a move has
abbrev pub move_length : Maybe WrittenDirection → ℕ
move_length none = 0
move_length (some d) = 2

-- how many words a changeto has
abbrev pub write_length : Maybe Symbol → ℕ
write_length none = 0
write_length (some s) = 2

-- how many words a flow has
abbrev pub flow_length : Maybe Flow → ℕ
flow_length none = 0
flow_length (some f) = length (flow_words f)

-- how many words a part has
abbrev pub part_length : Part → ℕ
part_length p = write_length p.write + move_length p.move + flow_length p.flow

-- parts as numbered blocks, from the word i and the number q
abbrev pub part_blocks : List Part → Bool → ℕ → ℕ → List (Block Text)
part_blocks [] behind i q = []
part_blocks (p ∷ ps) behind i q = record { index = i; kind = basic (basic_of p (some_part ps behind) (suc q)) } ∷ part_blocks ps behind (i + part_length p) (suc q)

-- all but the first part as numbered blocks, where the first begins at the word i
abbrev pub later_part_blocks : List Part → Bool → ℕ → ℕ → List (Block Text)
later_part_blocks [] behind i q = []
later_part_blocks (p ∷ ps) behind i q = part_blocks ps behind (i + part_length p) q

-- the numbered blocks of each piece of a program, from the word i and the number q
abbrev mutual
  -- of a body, all but its first
  pub rest_blocks : Body → ℕ → ℕ → List (Block Text)
  rest_blocks (act_cases a xs cs) i q =
      let rest = later_part_blocks (parts (a ∷ xs) none) (some_case cs) i q in
      rest ++ switch_blocks cs (i + length (acts_words (a ∷ xs))) (q + length rest)
  rest_blocks (acts_flow xs f) i q = later_part_blocks (parts xs (some f)) false i q

  -- of a case, all but its first
  pub case_blocks : Case → ℕ → ℕ → List (Block Text)
  case_blocks (if ss b) i q = rest_blocks b (i + length (symbols_words ss) + 2) q
  case_blocks (while ss o) i q = []

  -- of each case, all but its first
  pub cases_blocks : Cases → ℕ → ℕ → List (Block Text)
  cases_blocks no_more i q = []
  cases_blocks (more c cs) i q =
      let inner = case_blocks c i q in
      inner ++ cases_blocks cs (i + length (case_words c)) (q + length inner)

  -- the switch of these cases, and the blocks inside
  pub switch_blocks : Cases → ℕ → ℕ → List (Block Text)
  switch_blocks no_more i q = []
  switch_blocks (more c cs) i q =
      let inner = case_blocks c i (suc q) in
      let j = i + length (case_words c) in
      let r = suc q + length inner in
      record { index = i; kind = switch (lead (case_codes c) (case_basic c (suc q)) ++ arms cs j r) } ∷ (inner ++ cases_blocks cs j r)

  -- for each symbol of these cases, the first basic block of its case
  pub arms : Cases → ℕ → ℕ → List (ℕ × Basic Text)
  arms no_more i q = []
  arms (more c cs) i q = lead (case_codes c) (case_basic c q) ++ arms cs (i + length (case_words c)) (q + length (case_blocks c i q))

-- of what stands in a module
abbrev pub inside_blocks : Inside → ℕ → ℕ → List (Block Text)
inside_blocks (cases c cs) i q = switch_blocks (more c cs) i q
inside_blocks (body b) i q = record { index = i; kind = basic (first_basic b (suc q)) } ∷ rest_blocks b i (suc q)

-- of a module
abbrev pub module_blocks : Module → ℕ → ℕ → List (Block Text)
module_blocks (module' n inside) i q = inside_blocks inside (i + 3) q

-- of modules, one after another
abbrev pub modules_blocks : List Module → ℕ → ℕ → List (Block Text)
modules_blocks [] i q = []
modules_blocks (m ∷ ms) i q =
    let inner = module_blocks m i q in
    inner ++ modules_blocks ms (i + length (module_words m)) (q + length inner)

-- the modules of a program
abbrev pub all_modules : Program → List Module
all_modules (program ss m ms) = m ∷ ms

-- the codes of a program's alphabet
abbrev pub alphabet : Program → List ℕ
alphabet (program ss m ms) = symbols_codes ss

-- the index of the first module's first word
abbrev pub modules_at : Program → ℕ
modules_at (program ss m ms) = length (symbols_words ss) + 4

-- the blocks of a program, with names for gotos
abbrev pub drafts : Program → List (Block Text)
drafts t = modules_blocks (all_modules t) (modules_at t) 0

-- the number of the first block of the module with this name, among these from the word i and the number q
abbrev pub start_in : List Module → ℕ → ℕ → Text → ℕ
start_in [] i q w = 0
start_in (module' n inside ∷ ms) i q w =
    let m = module' n inside in
    cond (same w n.word) q (start_in ms (i + length (module_words m)) (q + length (module_blocks m i q)) w)

-- the number of the first block of the module with this name
abbrev pub start : Program → Text → ℕ
start t w = start_in (all_modules t) (modules_at t) 0 w

-- what comes after a basic block, where `at` gives the number for a goto's name
abbrev pub settled_then : (Text → ℕ) → Then Text → Then ℕ
settled_then at again = again
settled_then at accepting = accepting
settled_then at rejecting = rejecting
settled_then at (jump w) = jump (at w)
settled_then at (next q) = next q
settled_then at end = end

-- a basic block with its goto settled
abbrev pub settled_basic : (Text → ℕ) → Basic Text → Basic ℕ
settled_basic at b = record { write = b.write; move = b.move; then = settled_then at b.then }

-- the arms of a switch with their gotos settled
abbrev pub settled_arms : (Text → ℕ) → List (ℕ × Basic Text) → List (ℕ × Basic ℕ)
settled_arms at [] = []
settled_arms at (a ∷ others) = (a.0, settled_basic at a.1) ∷ settled_arms at others

-- what a block is, with its gotos settled
abbrev pub settled_kind : (Text → ℕ) → Kind Text → Kind ℕ
settled_kind at (basic b) = basic (settled_basic at b)
settled_kind at (switch arms') = switch (settled_arms at arms')

-- blocks with their gotos settled
abbrev pub settled : (Text → ℕ) → List (Block Text) → List (Block ℕ)
settled at [] = []
settled at (b ∷ bs) = record { index = b.index; kind = settled_kind at b.kind } ∷ settled at bs

-- the blocks of a program
abbrev pub blocks : Program → List (Block ℕ)
blocks t = settled (start t) (drafts t)

-- blocks without their indexes
abbrev pub kinds : List (Block ℕ) → List (Kind ℕ)
kinds [] = []
kinds (b ∷ bs) = b.kind ∷ kinds bs

-- a program as it is stored: the codes of its alphabet, and its blocks by their numbers
pub record Compiled : Type 0 where
  pub letters : List ℕ
  pub blocks : List (Kind ℕ)

-- what is stored of a program
abbrev pub compiled : Program → Compiled
compiled t = record { letters = alphabet t; blocks = kinds (blocks t) }
