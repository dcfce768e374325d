-- Numbers are points of the program: those of all blocks but the first of each case, in the order of their first words.
use Rattle.std.specs.Prelude.{◌≡◌, ℕ, zero, suc, ◌+◌, List, [], ◌∷◌, ◌++◌, map, length, Some, None, Option, slice_index}
use Rattle.std.proofs.Math.Option.{none, some}
use Rattle.grammar.specs.Tree.{Body, act_cases, acts_flow, Case, if, while, Cases, no_more, more, Inside, cases, body, Module, module', Program}
use Rattle.grammar.specs.Render.{render, cases_words, modules_words}
use Rattle.meaning.specs.declared.machines.Action.{Action}
use Rattle.meaning.specs.Blocks.{Part, parts, part_length, Block, blocks, all_modules, compiled}
use Rattle.meaning.specs.Rules.{by_blocks}
use Rattle.meaning.specs.Faults.{faults}
use Rattle.meaning.specs.Endless.{Step, SameAfter}
use Rattle.meaning.specs.Language.{Behind, of_case, of_module, Point, point, body_start, point_step, first_point}
use Rattle.meaning.specs.TuringMachine.{state_after}

-- the points of a body's remaining basic blocks
abbrev pub part_points : List Part → Cases → Behind → List Point
part_points [] cs out = []
part_points (p ∷ ps) cs out = point (p ∷ ps) cs out ∷ part_points ps cs out

-- and of all but the first of these
abbrev pub later_part_points : List Part → Cases → Behind → List Point
later_part_points [] cs out = []
later_part_points (p ∷ ps) cs out = part_points ps cs out

-- the points of each piece of a program that have numbers
abbrev mutual
  -- of a body, all but its first
  pub rest_points : Body → Behind → List Point
  rest_points (act_cases a xs cs) out = later_part_points (parts (a ∷ xs) none) cs out ++ switch_points cs out
  rest_points (acts_flow xs f) out = later_part_points (parts xs (some f)) no_more out

  -- of a case, all but its first
  pub case_points : Case → Behind → List Point
  case_points (if ss b) out = rest_points b out
  case_points (while ss o) out = []

  -- of each case, all but its first
  pub cases_points : Cases → Behind → List Point
  cases_points no_more out = []
  cases_points (more c cs) out = case_points c (of_case cs out) ++ cases_points cs out

  -- the switch of these cases, and the points inside
  pub switch_points : Cases → Behind → List Point
  switch_points no_more out = []
  switch_points (more c cs) out = point [] (more c cs) out ∷ (case_points c (of_case cs out) ++ cases_points cs out)

-- of what stands in a module
abbrev pub inside_points : Inside → Behind → List Point
inside_points (cases c cs) out = switch_points (more c cs) out
inside_points (body b) out = body_start b out ∷ rest_points b out

-- of modules, one after another
abbrev pub modules_points : List Module → List Point
modules_points [] = []
modules_points (module' n inside ∷ ms) = inside_points inside (of_module ms) ++ modules_points ms

-- the points of a program that have numbers
abbrev pub points : Program → List Point
points t = modules_points (all_modules t)

-- the one at q in the list
abbrev pub nth : {A : Type 0} → List A → ℕ → Option A
nth [] q = None
nth (x ∷ xs) zero = Some x
nth (x ∷ xs) (suc q) = nth xs q

-- a machine's action, and an execution's step, where R tells which number is which S
pub record SameStep {S : Type 0} (R : ℕ → S → Type 0) (d : Action) (x : Step S) : Type 0 where
  pub write : d.write ≡ x.write
  pub direction : d.direction ≡ x.direction
  pub next : SameAfter R (state_after d.next) x.after

-- the point has this number
abbrev pub Numbered : Program → ℕ → Point → Type 0
Numbered t q s = nth (points t) q ≡ Some s

-- how many words parts have
abbrev pub parts_length : List Part → ℕ
parts_length [] = 0
parts_length (p ∷ ps) = part_length p + parts_length ps

-- how many words stand behind a body; the 1 is for a closing brace
abbrev pub words_behind : Behind → ℕ
words_behind (of_case cs out) = 1 + length (cases_words cs) + words_behind out
words_behind (of_module ms) = 1 + length (modules_words ms)

-- how many words there are from a point's first to the program's last
abbrev pub words_from : Point → ℕ
words_from (point ps cs out) = parts_length ps + length (cases_words cs) + words_behind out

-- the index of the first word of the block q
abbrev pub index_at : {G : Type 0} → List (Block G) → ℕ → ℕ
index_at bs q = slice_index (map (λ b. b.index) bs) q

-- numbers and points of a program are the same
pub record Points (t : Program) : Type 0 where
  -- there are as many numbers as points, and 0 is the first block of the first module
  pub as_many : length (blocks t) ≡ length (points t)
  pub first : Numbered t 0 (first_point t)
  -- a block's first word is that of its point; so no point has two numbers
  pub index : (q : ℕ) (s : Point) → Numbered t q s → index_at (blocks t) q + words_from s ≡ length (render t)
  pub only : (q r : ℕ) (s : Point) → Numbered t q s → Numbered t r s → q ≡ r
  -- at each symbol a number does what the language does at its point, and leads to the number of the next point
  pub same : (q c : ℕ) (s : Point) → Numbered t q s → SameStep (Numbered t) ((by_blocks (compiled t)).action q c) (point_step t s c)

-- of every program that keeps the rules
abbrev pub NumbersArePoints : Type 0
NumbersArePoints = (t : Program) → faults t ≡ [] → Points t
