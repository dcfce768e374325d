-- The rules that a program's words must keep, each by the cause of its fault. A violation stands at the index of a word.
use Rattle.std.specs.Prelude.{◌≡◌, ℕ, suc, ◌+◌, ◌*◌, ◌<◌, Bool, true, false, cond, not, ◌&&◌, ◌||◌, ◌⊎◌, List, [], ◌∷◌, ◌++◌, length, Some, None, Option, ◌==◌, nat_le, nat_lt}
use Rattle.words.specs.Bytes.{Text}
use Rattle.words.specs.Vocabulary.{Symbol, ACCEPT, REJECT, same}
use Rattle.grammar.specs.Tree.{Act, change, move, Flow, accept, reject, goto, Once, once_change, once_move, Body, act_cases, acts_flow, Case, if, while, Cases, no_more, more, Inside, cases, body, Module, module', Program}
use Rattle.grammar.specs.Render.{acts_words, symbols_words, case_words, module_words}
use Rattle.meaning.specs.declared.faults.Cause.{Cause}
use Rattle.meaning.specs.declared.faults.Cause.TheVariants.{Alphabet, ModuleName, Goto, Letter, Repeated, Missing, Limit}
use Rattle.meaning.specs.Numbers.{cause_number}
use Rattle.meaning.specs.Codes.{code, member, columns}
use Rattle.meaning.specs.Blocks.{case_codes, Block, drafts, all_modules, modules_at, alphabet}

-- a rule is broken at the word with this index
pub record Violation : Type 0 where
  pub index : ℕ
  pub cause : Cause

-- a violation, if the test says so
abbrev pub flag : Bool → ℕ → Cause → List Violation
flag true i n = record { index = i; cause = n } ∷ []
flag false i n = []

-- what the rules ask of a program's words: its columns, and its modules' names
pub record Known : Type 0 where
  pub symbols : List ℕ
  pub names : List Text

-- a name is among these
abbrev pub named : Text → List Text → Bool
named w [] = false
named w (n ∷ ns) = same w n || named w ns

-- of the alphabet's symbols one was seen before; blank counts as seen
abbrev pub alphabet_faults : List ℕ → List ℕ → ℕ → List Violation
alphabet_faults seen [] i = []
alphabet_faults seen (c ∷ cs) i = flag (member c seen) i Alphabet ++ alphabet_faults (c ∷ seen) cs (i + 2)

-- a module's name is accept, reject or an earlier module's
abbrev pub names_faults : List Text → List Module → ℕ → List Violation
names_faults seen [] i = []
names_faults seen (module' n inside ∷ ms) i = flag (named n.word (ACCEPT ∷ REJECT ∷ seen)) (i + 1) ModuleName ++ names_faults (n.word ∷ seen) ms (i + length (module_words (module' n inside)))

-- a goto's name is no module's
abbrev pub flow_faults : Known → Flow → ℕ → List Violation
flow_faults k accept i = []
flow_faults k reject i = []
flow_faults k (goto n) i = flag (not (named n.word k.names)) (i + 1) Goto

-- a letter is not in the alphabet
abbrev pub outside : Known → Symbol → ℕ → List Violation
outside k s i = flag (not (member (code s) k.symbols)) i Letter

-- of the acts of a body
abbrev pub acts_faults : Known → List Act → ℕ → List Violation
acts_faults k [] i = []
acts_faults k (change s ∷ xs) i = outside k s (i + 1) ++ acts_faults k xs (i + 2)
acts_faults k (move d ∷ xs) i = acts_faults k xs (i + 2)

-- of a while case's commands
abbrev pub once_faults : Known → Once → ℕ → List Violation
once_faults k (once_change s m) i = outside k s (i + 1)
once_faults k (once_move d) i = []

-- symbols, each with the index of its word; commas stand between them
abbrev pub indexed : List ℕ → ℕ → List (ℕ × ℕ)
indexed [] i = []
indexed (c ∷ cs) i = (c, i) ∷ indexed cs (i + 2)

-- the symbols of a switch, each with the index of its word
abbrev pub switch_symbols : Cases → ℕ → List (ℕ × ℕ)
switch_symbols no_more i = []
switch_symbols (more c cs) i = indexed (case_codes c) (i + 1) ++ switch_symbols cs (i + length (case_words c))

-- a letter is not in the alphabet, or a symbol was seen before in this switch
abbrev pub symbol_faults : List ℕ → List ℕ → List (ℕ × ℕ) → List Violation
symbol_faults cols seen [] = []
symbol_faults cols seen (s ∷ ss) = cond (member s.0 cols) (flag (member s.0 seen) s.1 Repeated) (flag true s.1 Letter) ++ symbol_faults cols (s.0 ∷ seen) ss

-- the symbols without their indexes
abbrev pub codes_of : List (ℕ × ℕ) → List ℕ
codes_of [] = []
codes_of (s ∷ ss) = s.0 ∷ codes_of ss

-- each column is among these
abbrev pub covered : List ℕ → List ℕ → Bool
covered [] cs = true
covered (c ∷ cols) cs = member c cs && covered cols cs

-- of the symbols of a switch; and a column is missing in it
abbrev pub switch_faults : Known → Cases → ℕ → List Violation
switch_faults k no_more i = []
switch_faults k (more c cs) i =
    let ss = switch_symbols (more c cs) i in
    symbol_faults k.symbols [] ss ++ flag (not (covered k.symbols (codes_of ss))) i Missing

-- of each piece of a module, from the word i
abbrev mutual
  -- of a body
  pub body_faults : Body → Known → ℕ → List Violation
  body_faults (act_cases a xs cs) k i =
      let j = i + length (acts_words (a ∷ xs)) in
      acts_faults k (a ∷ xs) i ++ switch_faults k cs j ++ cases_faults cs k j
  body_faults (acts_flow xs f) k i = acts_faults k xs i ++ flow_faults k f (i + length (acts_words xs))

  -- of a case's body
  pub case_faults : Case → Known → ℕ → List Violation
  case_faults (if ss b) k i = body_faults b k (i + length (symbols_words ss) + 2)
  case_faults (while ss o) k i = once_faults k o (i + length (symbols_words ss) + 2)

  -- of the bodies of cases
  pub cases_faults : Cases → Known → ℕ → List Violation
  cases_faults no_more k i = []
  cases_faults (more c cs) k i = case_faults c k i ++ cases_faults cs k (i + length (case_words c))

-- of what stands in a module
abbrev pub inside_faults : Known → Inside → ℕ → List Violation
inside_faults k (cases c cs) i = switch_faults k (more c cs) i ++ cases_faults (more c cs) k i
inside_faults k (body b) i = body_faults b k i

-- of modules, one after another
abbrev pub modules_faults : Known → List Module → ℕ → List Violation
modules_faults k [] i = []
modules_faults k (module' n inside ∷ ms) i = inside_faults k inside (i + 3) ++ modules_faults k ms (i + length (module_words (module' n inside)))

-- n numbers with so many columns break the limits
abbrev pub too_many : ℕ → ℕ → Bool
too_many n width = nat_lt 128 n || nat_lt 1024 (n * width)

-- the number of a block breaks the limits
abbrev pub limit_faults : {G : Type 0} → ℕ → ℕ → List (Block G) → List Violation
limit_faults width q [] = []
limit_faults width q (b ∷ bs) = flag (too_many (suc q) width) b.index Limit ++ limit_faults width (suc q) bs

-- the names of modules
abbrev pub module_names : List Module → List Text
module_names [] = []
module_names (module' n inside ∷ ms) = n.word ∷ module_names ms

-- what the rules ask of a program's words
abbrev pub known : Program → Known
known t = record { symbols = columns (alphabet t); names = module_names (all_modules t) }

-- all that breaks a rule in a program
abbrev pub faults : Program → List Violation
faults t =
    alphabet_faults (0 ∷ []) (alphabet t) 3
    ++ names_faults [] (all_modules t) (modules_at t)
    ++ modules_faults (known t) (all_modules t) (modules_at t)
    ++ limit_faults (length (columns (alphabet t))) 0 (drafts t)

-- at a lower index, or at the same with no higher number
abbrev pub before : Violation → Violation → Bool
before f g = nat_lt f.index g.index || (f.index == g.index && nat_le (cause_number f.cause) (cause_number g.cause))

-- the lower of two, if there is a second
abbrev pub lower : Violation → Option Violation → Violation
lower f None = f
lower f (Some g) = cond (before f g) f g

-- the lowest of these
abbrev pub lowest : List Violation → Option Violation
lowest [] = None
lowest (f ∷ fs) = Some (lower f (lowest fs))

-- what is told of a program that breaks rules
abbrev pub first_fault : Program → Option Violation
first_fault t = lowest (faults t)

-- f is one of these
abbrev pub Among : Violation → List Violation → Type 0
Among f [] = ⊥
Among f (g ∷ gs) = (f ≡ g) ⊎ Among f gs

-- at a lower index, or there with a lower number
abbrev pub Earlier : Violation → Violation → Type 0
Earlier f g = (f.index < g.index) ⊎ ((f.index ≡ g.index) × (cause_number f.cause < cause_number g.cause))

-- none of these comes earlier than f
abbrev pub NoneBefore : Violation → List Violation → Type 0
NoneBefore f [] = Unit {0}
NoneBefore f (g ∷ gs) = ¬ Earlier g f × NoneBefore f gs

-- one of these, and none of these comes before it
pub record IsLowest (f : Violation) (fs : List Violation) : Type 0 where
  pub among : Among f fs
  pub no_earlier : NoneBefore f fs

-- what is told is the lowest
abbrev pub TellsLowest : Type 0
TellsLowest = (fs : List Violation) (f : Violation) → lowest fs ≡ Some f → IsLowest f fs
