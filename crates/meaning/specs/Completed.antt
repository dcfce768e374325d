-- The completed program of a program, from its blocks: module q for block q, and in it one case for each symbol.
-- A missing changeto is the symbol itself, a missing move is left, a missing flow goes to the next block's module or rejects;
-- a case that comes back to its own module is a while, without flow.
use Rattle.std.specs.Prelude.{◌≡◌, ℕ, suc, cond, List, [], ◌∷◌, ◌==◌}
use Rattle.std.proofs.Math.Option.{some}
use Rattle.words.specs.Vocabulary.{Symbol}
use Rattle.grammar.specs.Tree.{Direction as WrittenDirection, change, move, Flow, accept, reject, goto, once_change, acts_flow, Case, if, while, Cases, no_more, more, Module, module', Program}
use Rattle.meaning.specs.Codes.{symbol, spelled, columns}
use Rattle.meaning.specs.Blocks.{Then, again, accepting, rejecting, jump, next, end, Basic, Kind, Compiled}
use Rattle.meaning.specs.Rules.{or_left, or_this, current, translation}
use Rattle.meaning.specs.Print.{state_name, only, inside_of, letter_symbols, of_modules, printed}
use Rattle.meaning.specs.Text.{text_of, program_lines, text}

-- the symbol that a basic block writes at the symbol c
abbrev pub completed_write : ℕ → Basic ℕ → Symbol
completed_write c b = symbol (or_this c b.write)

-- the direction in which a basic block moves
abbrev pub completed_move : Basic ℕ → WrittenDirection
completed_move b = spelled (or_left b.move)

-- the case for c that does what a basic block does, and then this flow
abbrev pub leading : ℕ → Basic ℕ → Flow → Case
leading c b f = if (only c) (acts_flow (change (completed_write c b) ∷ move (completed_move b) ∷ []) f)

-- the case for c that does what a basic block does, and comes back
abbrev pub coming_back : ℕ → Basic ℕ → Case
coming_back c b = while (only c) (once_change (completed_write c b) (some (completed_move b)))

-- the case of module q for c that does what a basic block does, and goes on to module r
abbrev pub going_to : ℕ → ℕ → ℕ → Basic ℕ → Case
going_to q r c b = cond (r == q) (coming_back c b) (leading c b (goto (state_name r)))

-- the case of module q for c, by what comes after the basic block
abbrev pub completed_case : ℕ → ℕ → Basic ℕ → Then ℕ → Case
completed_case q c b again = coming_back c b
completed_case q c b accepting = leading c b accept
completed_case q c b rejecting = leading c b reject
completed_case q c b (jump r) = going_to q r c b
completed_case q c b (next r) = going_to q r c b
completed_case q c b end = leading c b reject

-- the cases of module q
abbrev pub completed_cases : ℕ → List ℕ → Kind ℕ → Cases
completed_cases q [] k = no_more
completed_cases q (c ∷ cs) k = more (completed_case q c (current k c) (current k c).then) (completed_cases q cs k)

-- the modules of blocks that have the numbers from q on
abbrev pub completed_modules : List ℕ → ℕ → List (Kind ℕ) → List Module
completed_modules cols q [] = []
completed_modules cols q (k ∷ ks) = module' (state_name q) (inside_of (completed_cases q cols k)) ∷ completed_modules cols (suc q) ks

-- the completed program
abbrev pub completed : Compiled → Program
completed p = of_modules (letter_symbols p.letters) (completed_modules (columns p.letters) 0 p.blocks)

-- what print gives for a program's translation is its completed program, as a tree and as text
pub record Completes (p : Compiled) : Type 0 where
  pub tree : printed (translation p) ≡ completed p
  pub lines : text (translation p) ≡ text_of (program_lines (completed p))

-- of every program
abbrev pub Completion : Type 0
Completion = (p : Compiled) → Completes p
