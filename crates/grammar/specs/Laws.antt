-- What the answers of reading mean, in terms of trees and their words, and the theorems that reading gives exactly the right ones.
use Rattle.std.specs.Prelude.{◌≡◌, ℕ, suc, ◌<◌, ◌≤◌, ◌↔◌, List, ◌++◌, length, take}
use Rattle.words.specs.Bytes.{Text}
use Rattle.grammar.specs.Tree.{Program}
use Rattle.grammar.specs.Render.{render}
use Rattle.grammar.specs.Depth.{depth_limit, depth}
use Rattle.grammar.specs.Automaton.{Reading, parsed, unexpected, too_deep, parse}

-- the words are those of some program
abbrev pub IsProgram : List Text → Type 0
IsProgram ws = (t : Program) × (render t ≡ ws)

-- some program goes on after these words
abbrev pub Viable : List Text → Type 0
Viable ps = (t : Program) × (rest : List Text) × (render t ≡ ps ++ rest)

-- some program goes on after these words, and none of its cases is too deep
abbrev pub ViableWithinLimit : List Text → Type 0
ViableWithinLimit ps = (t : Program) × (rest : List Text) × (render t ≡ ps ++ rest) × (depth t ≤ depth_limit)

-- the words are those of this program, and none of its cases is too deep
pub record IsParse (ws : List Text) (t : Program) : Type 0 where
  pub words : render t ≡ ws
  pub within_limit : depth t ≤ depth_limit

-- the word numbered i is the first after which no program goes on, or i is the number of words, and the end comes too early;
-- and no case begun before it is too deep
pub record IsFault (ws : List Text) (i : ℕ) : Type 0 where
  pub within : i ≤ length ws
  pub before : ViableWithinLimit (take i ws)
  pub at_word : i < length ws → ¬ Viable (take (suc i) ws)
  pub at_end : i ≡ length ws → ¬ IsProgram ws

-- the word numbered i begins the first case that is too deep: programs go on after it, all of them with a case too deep, but before it
-- one without
pub record IsTooDeep (ws : List Text) (i : ℕ) : Type 0 where
  pub within : i < length ws
  pub before : ViableWithinLimit (take i ws)
  pub allowed : Viable (take (suc i) ws)
  pub too_deep : ¬ ViableWithinLimit (take (suc i) ws)

-- what each answer says of the words
abbrev pub Means : List Text → Reading Program → Type 0
Means ws (parsed t) = IsParse ws t
Means ws (unexpected i) = IsFault ws i
Means ws (too_deep i) = IsTooDeep ws i

-- a program is read exactly when the words are its words and none of its cases is too deep
abbrev pub ReadsPrograms : Type 0
ReadsPrograms = (ws : List Text) (t : Program) → (parse ws ≡ parsed t) ↔ IsParse ws t

-- a fault is told exactly at the first word after which no program goes on, or at an end that comes too early
abbrev pub FindsFaults : Type 0
FindsFaults = (ws : List Text) (i : ℕ) → (parse ws ≡ unexpected i) ↔ IsFault ws i

-- a case is told as too deep exactly when the grammar allows it, and neither a fault nor another such case comes before it
abbrev pub FindsDepth : Type 0
FindsDepth = (ws : List Text) (i : ℕ) → (parse ws ≡ too_deep i) ↔ IsTooDeep ws i

-- whatever the words, exactly one answer is right
abbrev pub OneAnswer : Type 0
OneAnswer = (ws : List Text) → (r : Reading Program) × Means ws r × ((s : Reading Program) → Means ws s → s ≡ r)

-- no two programs have the same words, however deep their cases
abbrev pub Unambiguous : Type 0
Unambiguous = (t u : Program) → render t ≡ render u → t ≡ u

-- every program whose cases are not too deep is read back from its words
abbrev pub ReadsBack : Type 0
ReadsBack = (t : Program) → depth t ≤ depth_limit → parse (render t) ≡ parsed t
