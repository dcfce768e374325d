-- The words of a tree, rule by rule.
use Rattle.std.specs.Prelude.{List, [], ◌∷◌, ◌++◌}
use Rattle.std.proofs.Math.Option.{Option, none, some}
use Rattle.words.specs.Bytes.{Text}
use Rattle.words.specs.Vocabulary.{Symbol, OPEN, CLOSE, COMMA, EQUALS, ALPHABET, MODULE, IF, WHILE, CHANGETO, MOVE, LEFT, RIGHT, ACCEPT, REJECT, GOTO}
use Rattle.grammar.specs.Tree.{Direction, left, right, Act, change, move, Flow, accept, reject, goto, Once, once_change, once_move, Symbols, symbols, Body, act_cases, acts_flow, Case, if, while, Cases, no_more, more, Inside, cases, body, Module, module', Program, program}

-- the word of a direction
abbrev pub direction_word : Direction → Text
direction_word left = LEFT
direction_word right = RIGHT

-- the words of a move
abbrev pub move_words : Direction → List Text
move_words d = MOVE ∷ direction_word d ∷ []

-- the words of an act
abbrev pub act_words : Act → List Text
act_words (change s) = CHANGETO ∷ s.word ∷ []
act_words (move d) = move_words d

-- the words of acts, one after another
abbrev pub acts_words : List Act → List Text
acts_words [] = []
acts_words (a ∷ xs) = act_words a ++ acts_words xs

-- the words of a flow
abbrev pub flow_words : Flow → List Text
flow_words accept = ACCEPT ∷ []
flow_words reject = REJECT ∷ []
flow_words (goto n) = GOTO ∷ n.word ∷ []

-- the words of a move that may be left out
abbrev pub option_words : Option Direction → List Text
option_words none = []
option_words (some d) = move_words d

-- the words of what a while case does in a turn
abbrev pub once_words : Once → List Text
once_words (once_change s m) = CHANGETO ∷ s.word ∷ option_words m
once_words (once_move d) = move_words d

-- the words of symbols, each behind a comma
abbrev pub commas_words : List Symbol → List Text
commas_words [] = []
commas_words (s ∷ ss) = COMMA ∷ s.word ∷ commas_words ss

-- the words of symbols with commas between them
abbrev pub symbols_words : Symbols → List Text
symbols_words (symbols s ss) = s.word ∷ commas_words ss

-- words between braces
abbrev pub braced : List Text → List Text
braced ws = OPEN ∷ ws ++ CLOSE ∷ []

abbrev mutual
  -- the words of a body
  pub body_words : Body → List Text
  body_words (act_cases a xs cs) = act_words a ++ acts_words xs ++ cases_words cs
  body_words (acts_flow xs f) = acts_words xs ++ flow_words f

  -- the words of a case
  pub case_words : Case → List Text
  case_words (if ss b) = IF ∷ symbols_words ss ++ braced (body_words b)
  case_words (while ss o) = WHILE ∷ symbols_words ss ++ braced (once_words o)

  -- the words of cases, one after another
  pub cases_words : Cases → List Text
  cases_words no_more = []
  cases_words (more c cs) = case_words c ++ cases_words cs

-- the words of what stands in a module
abbrev pub inside_words : Inside → List Text
inside_words (cases c cs) = case_words c ++ cases_words cs
inside_words (body b) = body_words b

-- the words of a module
abbrev pub module_words : Module → List Text
module_words (module' n i) = MODULE ∷ n.word ∷ braced (inside_words i)

-- the words of modules, one after another
abbrev pub modules_words : List Module → List Text
modules_words [] = []
modules_words (m ∷ ms) = module_words m ++ modules_words ms

-- the words of an alphabet
abbrev pub alphabet_words : Symbols → List Text
alphabet_words ss = ALPHABET ∷ EQUALS ∷ braced (symbols_words ss)

-- the words of a program
abbrev pub render : Program → List Text
render (program ss m ms) = alphabet_words ss ++ module_words m ++ modules_words ms
