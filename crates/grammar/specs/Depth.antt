-- How deep cases stand in one another: a case in a module, also behind acts, has depth 1, and a case in a case's body one more.
-- The depth of a tree is that of its deepest case, and 0 where it has none.
use Rattle.std.specs.Prelude.{ℕ, suc, max, List, [], ◌∷◌}
use Rattle.grammar.specs.Tree.{Body, act_cases, acts_flow, Case, if, while, Cases, no_more, more, Inside, cases, body, Module, module', Program, program}

-- the greatest depth that a case may have
abbrev pub depth_limit : ℕ
depth_limit = 16

abbrev mutual
  -- the depth of a body
  pub body_depth : Body → ℕ
  body_depth (act_cases a xs cs) = cases_depth cs
  body_depth (acts_flow xs f) = 0

  -- the depth of a case, with itself
  pub case_depth : Case → ℕ
  case_depth (if ss b) = suc (body_depth b)
  case_depth (while ss o) = 1

  -- the depth of cases
  pub cases_depth : Cases → ℕ
  cases_depth no_more = 0
  cases_depth (more c cs) = max (case_depth c) (cases_depth cs)

-- the depth of what stands in a module
abbrev pub inside_depth : Inside → ℕ
inside_depth (cases c cs) = max (case_depth c) (cases_depth cs)
inside_depth (body b) = body_depth b

-- the depth of a module
abbrev pub module_depth : Module → ℕ
module_depth (module' n i) = inside_depth i

-- the depth of modules
abbrev pub modules_depth : List Module → ℕ
modules_depth [] = 0
modules_depth (m ∷ ms) = max (module_depth m) (modules_depth ms)

-- the depth of a program
abbrev pub depth : Program → ℕ
depth (program ss m ms) = max (module_depth m) (modules_depth ms)
