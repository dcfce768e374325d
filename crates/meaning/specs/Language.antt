-- Execution as the language has it, with no numbers: the current block is a point of the program, told by what remains of its body and stands behind that.
use Rattle.std.specs.Prelude.{ℕ, cond, List, [], ◌∷◌, Some, None}
use Rattle.std.proofs.Math.Option.{Option as Maybe, none, some}
use Rattle.tape.specs.declared.kinds.Direction.{Direction}
use Rattle.tape.specs.declared.kinds.Direction.TheVariants.{Left}
use Rattle.words.specs.Bytes.{Text}
use Rattle.words.specs.Vocabulary.{same}
use Rattle.grammar.specs.Tree.{Direction as WrittenDirection, Flow, accept, reject, goto, Once, once_change, once_move, Body, act_cases, acts_flow, Case, if, while, Cases, no_more, more, Inside, cases, body, Module, module', Program, program}
use Rattle.meaning.specs.Codes.{code, meant, member}
use Rattle.meaning.specs.Blocks.{Part, ending, parts, written_code, case_codes, all_modules}
use Rattle.meaning.specs.Endless.{After, at, accepts, rejects, Step, Moment, execute_by}

-- behind a body: the later cases, and what stands behind their switch; or the later modules
pub data Behind : Type 0 where
  of_case : Cases → Behind → Behind
  of_module : List Module → Behind

-- of a body the basic blocks that remain, then its cases: the current block is the first that remains, or else the switch of the cases
pub data Point : Type 0 where
  point : List Part → Cases → Behind → Point

-- the first block of a body
abbrev pub body_start : Body → Behind → Point
body_start (act_cases a xs cs) out = point (parts (a ∷ xs) none) cs out
body_start (acts_flow xs f) out = point (parts xs (some f)) no_more out

-- the first block of what stands in a module
abbrev pub inside_start : Inside → Behind → Point
inside_start (cases c cs) out = point [] (more c cs) out
inside_start (body b) out = body_start b out

-- the first block of the module with this name
abbrev pub named_start : List Module → Text → Point
named_start [] w = point [] no_more (of_module [])
named_start (module' n inside ∷ ms) w = cond (same w n.word) (inside_start inside (of_module ms)) (named_start ms w)

-- the next block of the same body, otherwise reject
abbrev pub rest_after : Point → After Point
rest_after (point [] no_more out) = rejects
rest_after (point [] (more c cs) out) = at (point [] (more c cs) out)
rest_after (point (p ∷ ps) cs out) = at (point (p ∷ ps) cs out)

-- after a basic block outside while: the verdict, the named module's first block, or the rest of the body
abbrev pub flow_after : Program → Maybe Flow → After Point → After Point
flow_after t (some accept) rest = accepts
flow_after t (some reject) rest = rejects
flow_after t (some (goto n)) rest = at (named_start (all_modules t) n.word)
flow_after t none rest = rest

-- left where no move is written
abbrev pub direction_of : Maybe WrittenDirection → Direction
direction_of none = Left
direction_of (some d) = meant d

-- the step of a basic block outside while
abbrev pub part_step : Program → Part → After Point → Step Point
part_step t p rest = record { write = written_code p.write; direction = direction_of p.move; after = flow_after t p.flow rest }

-- the step of a body's first basic block; each body has one
abbrev pub first_step : Program → Point → Step Point
first_step t (point [] cs out) = part_step t (ending none) (rest_after (point [] cs out))
first_step t (point (p ∷ ps) cs out) = part_step t p (rest_after (point ps cs out))

-- the step of a while case: the same switch again
abbrev pub once_step : Once → Point → Step Point
once_step (once_change s m) here = record { write = Some (code s); direction = direction_of m; after = at here }
once_step (once_move d) here = record { write = None; direction = meant d; after = at here }

-- the step of a case of the switch at `here`
abbrev pub case_step : Program → Point → Case → Behind → Step Point
case_step t here (if ss b) out = first_step t (body_start b out)
case_step t here (while ss o) out = once_step o here

-- the step of a switch: by the case that holds the symbol
abbrev pub switch_step : Program → Point → Cases → Behind → ℕ → Step Point
switch_step t here no_more out c = part_step t (ending none) rejects
switch_step t here (more k ks) out c = cond (member c (case_codes k)) (case_step t here k (of_case ks out)) (switch_step t here ks out c)

-- the step at a point and a symbol
abbrev pub point_step : Program → Point → ℕ → Step Point
point_step t (point (p ∷ ps) cs out) c = part_step t p (rest_after (point ps cs out))
point_step t (point [] cs out) c = switch_step t (point [] cs out) cs out c

-- the first block of the first module
abbrev pub first_point : Program → Point
first_point (program ss (module' n inside) ms) = inside_start inside (of_module ms)

-- the program's execution
abbrev pub execute : Program → ℕ → Moment Point → Moment Point
execute t = execute_by (point_step t)
