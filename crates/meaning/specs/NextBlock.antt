-- The next block of the same body: where a basic block without flow leads, outside while.
use Rattle.std.specs.Prelude.{◌≡◌, ℕ, ◌+◌, ◌<◌, ◌≤◌, cond, [], ◌∷◌, length}
use Rattle.std.proofs.Math.Option.{none}
use Rattle.grammar.specs.Tree.{Once, Case, if, while, Cases, no_more, more, Program}
use Rattle.grammar.specs.Render.{render}
use Rattle.meaning.specs.declared.machines.Next.TheVariants.{To, Reject}
use Rattle.meaning.specs.Codes.{member}
use Rattle.meaning.specs.Blocks.{Part, ending, part_length, case_codes, blocks, compiled}
use Rattle.meaning.specs.Rules.{by_blocks}
use Rattle.meaning.specs.Faults.{faults}
use Rattle.meaning.specs.Endless.{at, rejects}
use Rattle.meaning.specs.Language.{Behind, of_case, Point, point, body_start, rest_after}
use Rattle.meaning.specs.Points.{Numbered, words_from, index_at}

-- what is executed: a basic block, with the rest of its body behind it; or a while case's commands; or nothing, where no case holds the symbol
pub data Executed : Type 0 where
  block : Part → Point → Executed
  in_while : Once → Executed
  no_case : Executed

-- of a body: its first basic block
abbrev pub first_executed : Point → Executed
first_executed (point [] cs out) = block (ending none) (point [] cs out)
first_executed (point (p ∷ ps) cs out) = block p (point ps cs out)

-- of a case
abbrev pub case_executed : Case → Behind → Executed
case_executed (if ss b) out = first_executed (body_start b out)
case_executed (while ss o) out = in_while o

-- of a switch: by the case that holds the symbol
abbrev pub switch_executed : Cases → Behind → ℕ → Executed
switch_executed no_more out c = no_case
switch_executed (more k ks) out c = cond (member c (case_codes k)) (case_executed k (of_case ks out)) (switch_executed ks out c)

-- at a point and a symbol
abbrev pub executed : Point → ℕ → Executed
executed (point (p ∷ ps) cs out) c = block p (point ps cs out)
executed (point [] cs out) c = switch_executed cs out c

-- r is the number of the block whose first word is the word i, and the first number of which the first word isn't before i
pub record BeginsAt (t : Program) (i r : ℕ) : Type 0 where
  pub within : r < length (blocks t)
  pub index : index_at (blocks t) r ≡ i
  pub first : (n : ℕ) → n < length (blocks t) → i ≤ index_at (blocks t) n → r ≤ n

-- of the basic block p without flow that the block q executes at the symbol c, with this rest of its body behind it
pub record NextBlock (t : Program) (q c : ℕ) (p : Part) (rest : Point) : Type 0 where
  -- the index of its first word, which isn't before that of the block q
  pub begins : ℕ
  pub inside : index_at (blocks t) q ≤ begins
  pub words : begins + part_length p + words_from rest ≡ length (render t)
  -- where the body goes on, it leads to the number of the rest: that of the block whose first word comes right behind the last word of p
  pub next : rest_after rest ≡ at rest → (r : ℕ) × (((by_blocks (compiled t)).action q c).next ≡ To r) × Numbered t r rest × BeginsAt t (begins + part_length p) r
  -- at the end of the body it rejects
  pub end : rest_after rest ≡ rejects → ((by_blocks (compiled t)).action q c).next ≡ Reject

-- of every block of a program that keeps the rules
abbrev pub NextBlocks : Type 0
NextBlocks = (t : Program) → faults t ≡ [] → (q c : ℕ) (s : Point) (p : Part) (rest : Point) → Numbered t q s → executed s c ≡ block p rest → p.flow ≡ none → NextBlock t q c p rest
