-- The depths of cases, word by word, and the theorems that they make up the depth, and that a case too deep is told at the word that begins it.
use Rattle.std.specs.Prelude.{◌≡◌, ℕ, suc, ◌<◌, ◌≤◌, max, ◌↔◌, List, [], ◌∷◌, ◌++◌, length, take, slice_index, slice_index_or}
use Rattle.words.specs.Bytes.{Text}
use Rattle.grammar.specs.Tree.{Body, act_cases, acts_flow, Case, if, while, Cases, no_more, more, Inside, cases, body, Module, module', Program, program}
use Rattle.grammar.specs.Render.{act_words, acts_words, flow_words, once_words, symbols_words, alphabet_words, render}
use Rattle.grammar.specs.Depth.{depth_limit, depth}
use Rattle.grammar.specs.Laws.{IsTooDeep}

-- 0 for each word
abbrev pub zeros : List Text → List ℕ
zeros [] = []
zeros (w ∷ ws) = 0 ∷ zeros ws

-- For each word the depth of the case that it begins, or 0 where it begins none; d is how many cases are around.
abbrev mutual
  -- for a body
  pub body_openings : ℕ → Body → List ℕ
  body_openings d (act_cases a xs cs) = zeros (act_words a ++ acts_words xs) ++ cases_openings d cs
  body_openings d (acts_flow xs f) = zeros (acts_words xs ++ flow_words f)

  -- for a case
  pub case_openings : ℕ → Case → List ℕ
  case_openings d (if ss b) = suc d ∷ zeros (symbols_words ss) ++ 0 ∷ body_openings (suc d) b ++ 0 ∷ []
  case_openings d (while ss o) = suc d ∷ zeros (symbols_words ss) ++ 0 ∷ zeros (once_words o) ++ 0 ∷ []

  -- for cases
  pub cases_openings : ℕ → Cases → List ℕ
  cases_openings d no_more = []
  cases_openings d (more c cs) = case_openings d c ++ cases_openings d cs

-- for what stands in a module
abbrev pub inside_openings : Inside → List ℕ
inside_openings (cases c cs) = case_openings 0 c ++ cases_openings 0 cs
inside_openings (body b) = body_openings 0 b

-- for a module
abbrev pub module_openings : Module → List ℕ
module_openings (module' n i) = 0 ∷ 0 ∷ 0 ∷ inside_openings i ++ 0 ∷ []

-- for modules
abbrev pub modules_openings : List Module → List ℕ
modules_openings [] = []
modules_openings (m ∷ ms) = module_openings m ++ modules_openings ms

-- for a program
abbrev pub openings : Program → List ℕ
openings (program ss m ms) = zeros (alphabet_words ss) ++ module_openings m ++ modules_openings ms

-- the greatest number of a list
abbrev pub greatest : List ℕ → ℕ
greatest [] = 0
greatest (n ∷ ns) = max n (greatest ns)

-- there is one number for each word, and the greatest is the program's depth
pub record OpeningsOf (t : Program) : Type 0 where
  pub one_each : length (openings t) ≡ length (render t)
  pub deepest : greatest (openings t) ≡ depth t

-- so it is for every program
abbrev pub CountsDepth : Type 0
CountsDepth = (t : Program) → OpeningsOf t

-- the word numbered i begins a case one deeper than the limit, and no word before it begins one that is too deep
pub record FirstTooDeep (t : Program) (i : ℕ) : Type 0 where
  pub here : slice_index_or (openings t) i 0 ≡ suc depth_limit
  pub before : (j : ℕ) → j < i → slice_index (openings t) j ≤ depth_limit

-- a case is told as too deep at a word exactly when the word so begins one in some program that goes on after it
abbrev pub TellsCase : Type 0
TellsCase =
    (ws : List Text) (i : ℕ)
    → IsTooDeep ws i ↔ ((i < length ws) × (t : Program) × (rest : List Text) × (render t ≡ take (suc i) ws ++ rest) × FirstTooDeep t i)
