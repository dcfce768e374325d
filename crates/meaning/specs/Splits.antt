-- The split of a body's commands into basic blocks, and the order of all blocks.
use Rattle.std.specs.Prelude.{◌≡◌, ℕ, suc, ◌≤◌, List, [], ◌∷◌, length}
use Rattle.std.proofs.Math.Option.{Option as Maybe, none, some}
use Rattle.grammar.specs.Tree.{Act, change, move, Flow, Program}
use Rattle.grammar.specs.Render.{render}
use Rattle.meaning.specs.Blocks.{Part, parts, Block, blocks}

-- a command of a body
pub data Command : Type 0 where
  act : Act → Command
  flow : Flow → Command

-- the commands of a body, one after another
abbrev pub commands : List Act → Maybe Flow → List Command
commands [] none = []
commands [] (some f) = flow f ∷ []
commands (a ∷ xs) f = act a ∷ commands xs f

-- a part's changeto, and then the rest
abbrev pub write_commands : Part → List Command → List Command
write_commands p rest = elim p.write [ none ↦ rest | some s ↦ act (change s) ∷ rest ]

-- a part's move, and then the rest
abbrev pub move_commands : Part → List Command → List Command
move_commands p rest = elim p.move [ none ↦ rest | some d ↦ act (move d) ∷ rest ]

-- a part's flow, and then the rest
abbrev pub flow_commands : Part → List Command → List Command
flow_commands p rest = elim p.flow [ none ↦ rest | some f ↦ flow f ∷ rest ]

-- the commands of a part in rising rank, and then the rest
abbrev pub part_commands : Part → List Command → List Command
part_commands p rest = write_commands p (move_commands p (flow_commands p rest))

-- the commands of parts, one after another
abbrev pub all_commands : List Part → List Command
all_commands [] = []
all_commands (p ∷ ps) = part_commands p (all_commands ps)

-- a body's basic blocks have its commands in order, and no split into blocks of rising rank has fewer
pub record Splits (xs : List Act) (f : Maybe Flow) : Type 0 where
  pub whole : all_commands (parts xs f) ≡ commands xs f
  pub fewest : (ps : List Part) → all_commands ps ≡ commands xs f → length (parts xs f) ≤ length ps

-- so of every body
abbrev pub SplitsFewest : Type 0
SplitsFewest = (xs : List Act) (f : Maybe Flow) → Splits xs f

-- first words from lo on, each higher than the one before, and all below hi
abbrev pub Rising : {G : Type 0} → ℕ → List (Block G) → ℕ → Type 0
Rising lo [] hi = lo ≤ hi
Rising lo (b ∷ bs) hi = (lo ≤ b.index) × Rising (suc b.index) bs hi

-- the blocks' numbers are in the order of their first words, which are words of the program
abbrev pub NumbersInOrder : Type 0
NumbersInOrder = (t : Program) → Rising 0 (blocks t) (length (render t))
