-- A table as a program: one module a state, in it one case a column.
use Rattle.std.specs.Prelude.{◌≡◌, ℕ, suc, ◌+◌, ◌/◌, ◌%◌, cond, List, [], ◌∷◌, map, ◌==◌, nat_lt}
use Rattle.std.proofs.Math.Option.{some}
use Rattle.words.specs.Bytes.{Text}
use Rattle.words.specs.Vocabulary.{Name, MODULE}
use Rattle.grammar.specs.Tree.{change, move, Flow, accept, reject, goto, once_change, Symbols, symbols, acts_flow, Case, if, while, Cases, no_more, more, Inside, cases, body, Module, module', Program, program}
use Rattle.meaning.specs.declared.machines.Next.{Next}
use Rattle.meaning.specs.declared.machines.Next.TheVariants.{To, Accept, Reject}
use Rattle.meaning.specs.declared.machines.Entry.{Entry}
use Rattle.meaning.specs.Codes.{symbol, or_else, columns, spelled}
use Rattle.meaning.specs.Blocks.{compiled}
use Rattle.meaning.specs.Rules.{Table, translation}
use Rattle.meaning.specs.Faults.{faults}
use Rattle.meaning.specs.Tables.{Within}

-- a decimal digit as a letter: 0 is a, 9 is j
abbrev pub digit : ℕ → ℕ
digit d = 97 + d

-- the decimal digits of a number below 1,000, as letters
abbrev pub digits : ℕ → Text
digits n =
    cond (nat_lt n 10) (digit n ∷ [])
    (cond (nat_lt n 100) (digit (n / 10) ∷ digit (n % 10) ∷ []) (digit (n / 100) ∷ digit (n / 10 % 10) ∷ digit (n % 10) ∷ []))

-- the word for a state: s and its number's digits
abbrev pub state_word : ℕ → Text
state_word q = 115 ∷ digits q

-- the name of a state
abbrev pub state_name : ℕ → Name
state_name q = or_else (state_word q) (record { word = MODULE; fits = tt })

-- this symbol alone
abbrev pub only : ℕ → Symbols
only c = symbols (symbol c) []

-- an if case that does what an entry says, with a flow
abbrev pub if_case : ℕ → Entry → Flow → Case
if_case c e f = if (only c) (acts_flow (change (symbol e.write) ∷ move (spelled e.direction) ∷ []) f)

-- a while case that does what an entry says
abbrev pub while_case : ℕ → Entry → Case
while_case c e = while (only c) (once_change (symbol e.write) (some (spelled e.direction)))

-- of state q the case for the column c, by what comes next: while if that is the same state
abbrev pub next_case : ℕ → ℕ → Entry → Next → Case
next_case q c e (To r) = cond (r == q) (while_case c e) (if_case c e (goto (state_name r)))
next_case q c e Accept = if_case c e accept
next_case q c e Reject = if_case c e reject

-- of state q the case for the column c
abbrev pub case_of : ℕ → ℕ → Entry → Case
case_of q c e = next_case q c e e.next

-- of state q a case for each column
abbrev pub row_cases : ℕ → List ℕ → List Entry → Cases
row_cases q [] es = no_more
row_cases q (c ∷ cs) [] = no_more
row_cases q (c ∷ cs) (e ∷ es) = more (case_of q c e) (row_cases q cs es)

-- cases as the inside of a module
abbrev pub inside_of : Cases → Inside
inside_of no_more = body (acts_flow [] reject)
inside_of (more c cs) = cases c cs

-- the module of state q
abbrev pub row_module : List ℕ → ℕ → List Entry → Module
row_module cols q es = module' (state_name q) (inside_of (row_cases q cols es))

-- the modules of the states from q on
abbrev pub row_modules : List ℕ → ℕ → List (List Entry) → List Module
row_modules cols q [] = []
row_modules cols q (es ∷ rest) = row_module cols q es ∷ row_modules cols (suc q) rest

-- an alphabet's letters as symbols
abbrev pub letter_symbols : List ℕ → Symbols
letter_symbols [] = only 0
letter_symbols (c ∷ cs) = symbols (symbol c) (map symbol cs)

-- a program with these modules
abbrev pub of_modules : Symbols → List Module → Program
of_modules ss [] = program ss (module' (state_name 0) (body (acts_flow [] reject))) []
of_modules ss (m ∷ ms) = program ss m ms

-- a table as a program
abbrev pub printed : Table → Program
printed t = of_modules (letter_symbols t.letters) (row_modules (columns t.letters) 0 t.rows)

-- every table within the ranges, as a program, keeps every rule, and translates back to the table
abbrev pub PrintsBack : Type 0
PrintsBack = (t : Table) → Within t → (faults (printed t) ≡ []) × (translation (compiled (printed t)) ≡ t)

-- the table of every program that keeps the rules is within the ranges
abbrev pub TranslatesWithin : Type 0
TranslatesWithin = (t : Program) → faults t ≡ [] → Within (translation (compiled t))
