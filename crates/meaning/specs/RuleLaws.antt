-- Each rule in the words of the subject: when no violation has its cause.
use Rattle.std.specs.Prelude.{◌≡◌, ℕ, suc, ◌+◌, ◌*◌, ◌≤◌, Bool, true, false, cond, not, ◌&&◌, ◌↔◌, List, [], ◌∷◌, ◌++◌, length, ◌==◌}
use Rattle.words.specs.Bytes.{Text}
use Rattle.words.specs.Vocabulary.{ACCEPT, REJECT}
use Rattle.grammar.specs.Tree.{Act, change, move, Flow, accept, reject, goto, Once, once_change, once_move, Body, act_cases, acts_flow, Case, if, while, Cases, no_more, more, Inside, cases, body, Module, module', Program}
use Rattle.meaning.specs.declared.faults.Cause.{Cause}
use Rattle.meaning.specs.declared.faults.Cause.TheVariants.{Alphabet, ModuleName, Goto, Letter, Repeated, Missing, Limit}
use Rattle.meaning.specs.declared.faults.Layer.TheVariants.{Rules}
use Rattle.meaning.specs.Numbers.{cause_layer}
use Rattle.meaning.specs.Codes.{code, member, different, columns}
use Rattle.meaning.specs.Blocks.{case_codes, all_modules, alphabet, blocks}
use Rattle.meaning.specs.Faults.{Violation, Known, named, switch_faults, module_names, faults}
use Rattle.meaning.specs.Tables.{Each}

-- none of these has this cause
abbrev pub NoneOf : Cause → List Violation → Type 0
NoneOf n fs = Each (λ f. ¬ (f.cause ≡ n)) fs

-- what the rules ask after in a module: a goto's name, a changeto's symbol, the symbols of a switch
pub data Use : Type 0 where
  goes_to : Text → Use
  changes_to : ℕ → Use
  switches : List ℕ → Use

-- of a flow
abbrev pub flow_uses : Flow → List Use
flow_uses accept = []
flow_uses reject = []
flow_uses (goto n) = goes_to n.word ∷ []

-- of acts
abbrev pub acts_uses : List Act → List Use
acts_uses [] = []
acts_uses (change s ∷ xs) = changes_to (code s) ∷ acts_uses xs
acts_uses (move d ∷ xs) = acts_uses xs

-- of a while case's commands
abbrev pub once_uses : Once → List Use
once_uses (once_change s m) = changes_to (code s) ∷ []
once_uses (once_move d) = []

-- the symbols of cases
abbrev pub cases_codes : Cases → List ℕ
cases_codes no_more = []
cases_codes (more c cs) = case_codes c ++ cases_codes cs

-- of the switch of these cases
abbrev pub switch_uses : Cases → List Use
switch_uses no_more = []
switch_uses (more c cs) = switches (cases_codes (more c cs)) ∷ []

-- of each piece of a module
abbrev mutual
  -- of a body
  pub body_uses : Body → List Use
  body_uses (act_cases a xs cs) = acts_uses (a ∷ xs) ++ switch_uses cs ++ cases_uses cs
  body_uses (acts_flow xs f) = acts_uses xs ++ flow_uses f

  -- of a case's body
  pub case_uses : Case → List Use
  case_uses (if ss b) = body_uses b
  case_uses (while ss o) = once_uses o

  -- of the bodies of cases
  pub cases_uses : Cases → List Use
  cases_uses no_more = []
  cases_uses (more c cs) = case_uses c ++ cases_uses cs

-- of what stands in a module
abbrev pub inside_uses : Inside → List Use
inside_uses (cases c cs) = switch_uses (more c cs) ++ cases_uses (more c cs)
inside_uses (body b) = body_uses b

-- of modules, one after another
abbrev pub modules_uses : List Module → List Use
modules_uses [] = []
modules_uses (module' n inside ∷ ms) = inside_uses inside ++ modules_uses ms

-- of a program
abbrev pub uses : Program → List Use
uses t = modules_uses (all_modules t)

-- the names of all gotos
abbrev pub gotos : List Use → List Text
gotos [] = []
gotos (goes_to w ∷ us) = w ∷ gotos us
gotos (changes_to c ∷ us) = gotos us
gotos (switches cs ∷ us) = gotos us

-- the symbols of all changetos and cases
abbrev pub symbols_used : List Use → List ℕ
symbols_used [] = []
symbols_used (goes_to w ∷ us) = symbols_used us
symbols_used (changes_to c ∷ us) = c ∷ symbols_used us
symbols_used (switches cs ∷ us) = cs ++ symbols_used us

-- the symbols of each switch
abbrev pub all_switches : List Use → List (List ℕ)
all_switches [] = []
all_switches (goes_to w ∷ us) = all_switches us
all_switches (changes_to c ∷ us) = all_switches us
all_switches (switches cs ∷ us) = cs ∷ all_switches us

-- how often x stands among these
abbrev pub count : ℕ → List ℕ → ℕ
count x [] = 0
count x (y ∷ ys) = cond (x == y) (suc (count x ys)) (count x ys)

-- the letters are different, and none is blank
abbrev pub LettersFit : List ℕ → Type 0
LettersFit letters = (different letters ≡ true) × (member 0 letters ≡ false)

-- no two of these names are the same
abbrev pub different_names : List Text → Bool
different_names [] = true
different_names (n ∷ ns) = not (named n ns) && different_names ns

-- the names are different, and none is accept or reject
abbrev pub NamesFit : List Text → Type 0
NamesFit names = (different_names names ≡ true) × Each (λ n. named n (ACCEPT ∷ REJECT ∷ []) ≡ false) names

-- each of these names is a module's
abbrev pub AllNamed : List Text → List Text → Type 0
AllNamed names ws = Each (λ w. named w names ≡ true) ws

-- each of these symbols is a column
abbrev pub AllColumns : List ℕ → List ℕ → Type 0
AllColumns cols cs = Each (λ c. member c cols ≡ true) cs

-- each column stands among these exactly once, and nothing else does
abbrev pub OnceEach : List ℕ → List ℕ → Type 0
OnceEach cols cs = (x : ℕ) → count x cs ≡ cond (member x cols) 1 0

-- n blocks with so many letters are within the limits
abbrev pub LimitsFit : ℕ → ℕ → Type 0
LimitsFit n letters = (n ≤ 128) × (n * (letters + 1) ≤ 1024)

-- what a program that keeps the rules is like
pub record KeepsRules (t : Program) : Type 0 where
  pub letters : LettersFit (alphabet t)
  pub names : NamesFit (module_names (all_modules t))
  pub gotos_lead : AllNamed (module_names (all_modules t)) (gotos (uses t))
  pub symbols_known : AllColumns (columns (alphabet t)) (symbols_used (uses t))
  pub switches_whole : Each (OnceEach (columns (alphabet t))) (all_switches (uses t))
  pub few_blocks : LimitsFit (length (blocks t)) (length (alphabet t))

-- when a program has no violation of each cause, and when it has none at all
pub record RuleLaws (t : Program) : Type 0 where
  -- every cause is a rule's
  pub layer : Each (λ f. cause_layer f.cause ≡ Rules) (faults t)
  pub by_alphabet : NoneOf Alphabet (faults t) ↔ LettersFit (alphabet t)
  pub by_module_name : NoneOf ModuleName (faults t) ↔ NamesFit (module_names (all_modules t))
  pub by_goto : NoneOf Goto (faults t) ↔ AllNamed (module_names (all_modules t)) (gotos (uses t))
  pub by_letter : NoneOf Letter (faults t) ↔ AllColumns (columns (alphabet t)) (symbols_used (uses t))
  -- where no letter is outside the alphabet
  pub by_switch : NoneOf Letter (faults t) → ((NoneOf Repeated (faults t) × NoneOf Missing (faults t)) ↔ Each (OnceEach (columns (alphabet t))) (all_switches (uses t)))
  pub by_limit : NoneOf Limit (faults t) ↔ LimitsFit (length (blocks t)) (length (alphabet t))
  pub clean : (faults t ≡ []) ↔ KeepsRules t

-- the laws of all programs, and of each switch by itself
pub record RulesAre : Type 0 where
  pub program : (t : Program) → RuleLaws t
  pub switch : (k : Known) (c : Case) (cs : Cases) (i : ℕ) → (switch_faults k (more c cs) i ≡ []) ↔ OnceEach k.symbols (cases_codes (more c cs))
