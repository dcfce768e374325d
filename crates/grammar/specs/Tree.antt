-- The syntax of programs: for each rule of the grammar a type of trees, with a case for each way to follow the rule.
-- In the rules + is once or more, * any number, [ ] optional, and | or.
use Rattle.std.specs.Prelude.{List}
use Rattle.std.proofs.Math.Option.{Option}
use Rattle.words.specs.Vocabulary.{Name, Symbol}

-- move = "move" ("left" | "right")
pub data Direction : Type 0 where
  left right : Direction

-- act = "changeto" symbol | move
pub data Act : Type 0 where
  change : Symbol → Act
  move : Direction → Act

-- flow = "accept" | "reject" | "goto" name
pub data Flow : Type 0 where
  accept reject : Flow
  goto : Name → Flow

-- once = "changeto" symbol [move] | move
pub data Once : Type 0 where
  once_change : Symbol → Option Direction → Once
  once_move : Direction → Once

-- symbols = symbol ("," symbol)*
-- alphabet = "alphabet" "=" "{" symbols "}"
pub data Symbols : Type 0 where
  symbols : Symbol → List Symbol → Symbols

mutual
  -- body = act+ case* | act* flow
  pub data Body : Type 0 where
    act_cases : Act → List Act → Cases → Body
    acts_flow : List Act → Flow → Body

  -- case = "if" symbols "{" body "}" | "while" symbols "{" once "}"
  pub data Case : Type 0 where
    if : Symbols → Body → Case
    while : Symbols → Once → Case

  -- case*
  pub data Cases : Type 0 where
    no_more : Cases
    more : Case → Cases → Cases

-- case+ | body
pub data Inside : Type 0 where
  cases : Case → Cases → Inside
  body : Body → Inside

-- module = "module" name "{" (case+ | body) "}"
pub data Module : Type 0 where
  module' : Name → Inside → Module

-- program = alphabet module+
pub data Program : Type 0 where
  program : Symbols → Module → List Module → Program
