-- A program as text: a line for the alphabet, for a module's or a case's beginning and end, and for each command.
use Rattle.std.specs.Prelude.{◌≡◌, ◌≤◌, List, [], ◌∷◌, ◌++◌, length, Ok, codes}
use Rattle.std.proofs.Math.Option.{none, some}
use Rattle.words.specs.Bytes.{Text}
use Rattle.words.specs.Vocabulary.{Symbol}
use Rattle.grammar.specs.Tree.{Direction as WrittenDirection, left, right, Act, change, move, Flow, accept, reject, goto, Once, once_change, once_move, Symbols, symbols, Body, act_cases, acts_flow, Case, if, while, Cases, no_more, more, Inside, cases, body, Module, module', Program, program}
use Rattle.meaning.specs.Blocks.{compiled}
use Rattle.meaning.specs.Rules.{Table, translation}
use Rattle.meaning.specs.Tables.{Within}
use Rattle.meaning.specs.Print.{printed}
use Rattle.meaning.specs.Outcome.{outcome}

-- a line without its end
abbrev pub Line : Type 0
Line = Text

-- symbols behind commas
abbrev pub commas_text : List Symbol → Line
commas_text [] = []
commas_text (s ∷ ss) = codes ", " ++ (s.word ++ commas_text ss)

-- symbols with commas between them
abbrev pub symbols_text : Symbols → Line
symbols_text (symbols s ss) = s.word ++ commas_text ss

-- the line of a move
abbrev pub move_line : WrittenDirection → Line
move_line left = codes "move left"
move_line right = codes "move right"

-- the line of an act
abbrev pub act_line : Act → Line
act_line (change s) = codes "changeto " ++ s.word
act_line (move d) = move_line d

-- a line for each act
abbrev pub acts_lines : List Act → List Line
acts_lines [] = []
acts_lines (a ∷ xs) = act_line a ∷ acts_lines xs

-- the line of a flow
abbrev pub flow_line : Flow → Line
flow_line accept = codes "accept"
flow_line reject = codes "reject"
flow_line (goto n) = codes "goto " ++ n.word

-- the lines of a while case's commands
abbrev pub once_lines : Once → List Line
once_lines (once_change s none) = act_line (change s) ∷ []
once_lines (once_change s (some d)) = act_line (change s) ∷ move_line d ∷ []
once_lines (once_move d) = move_line d ∷ []

-- a first line, the lines inside, and the closing brace
abbrev pub closed : Line → List Line → List Line
closed l ls = l ∷ (ls ++ codes "}" ∷ [])

-- the lines of each piece of a program
abbrev mutual
  -- of a body
  pub body_lines : Body → List Line
  body_lines (act_cases a xs cs) = acts_lines (a ∷ xs) ++ cases_lines cs
  body_lines (acts_flow xs f) = acts_lines xs ++ flow_line f ∷ []

  -- of a case
  pub case_lines : Case → List Line
  case_lines (if ss b) = closed (codes "if " ++ (symbols_text ss ++ codes " {")) (body_lines b)
  case_lines (while ss o) = closed (codes "while " ++ (symbols_text ss ++ codes " {")) (once_lines o)

  -- of cases, one after another
  pub cases_lines : Cases → List Line
  cases_lines no_more = []
  cases_lines (more c cs) = case_lines c ++ cases_lines cs

-- of what stands in a module
abbrev pub inside_lines : Inside → List Line
inside_lines (cases c cs) = case_lines c ++ cases_lines cs
inside_lines (body b) = body_lines b

-- of a module
abbrev pub module_lines : Module → List Line
module_lines (module' n inside) = closed (codes "module " ++ (n.word ++ codes " {")) (inside_lines inside)

-- of modules, one after another
abbrev pub modules_lines : List Module → List Line
modules_lines [] = []
modules_lines (m ∷ ms) = module_lines m ++ modules_lines ms

-- the lines of a program
abbrev pub program_lines : Program → List Line
program_lines (program ss m ms) = (codes "alphabet = {" ++ (symbols_text ss ++ codes "}")) ∷ modules_lines (m ∷ ms)

-- each line ended by LF
abbrev pub text_of : List Line → Text
text_of [] = []
text_of (l ∷ ls) = l ++ 10 ∷ text_of ls

-- the completed text of a table
abbrev pub text : Table → Text
text t = text_of (program_lines (printed t))

-- a table's text is an accepted source of at most 52,344 bytes, and translates back to the table
pub record Rounds (t : Table) : Type 0 where
  pub short : length (text t) ≤ 52344
  pub accepted : outcome (text t) ≡ Ok (printed t)
  pub back : translation (compiled (printed t)) ≡ t

-- of every table within the ranges
abbrev pub RoundTrip : Type 0
RoundTrip = (t : Table) → Within t → Rounds t
