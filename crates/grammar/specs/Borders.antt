-- What is read at the border of the grammar and of the depth.
use Rattle.std.specs.Prelude.{◌≡◌, ℕ, zero, suc, List, [], ◌∷◌, ◌++◌, take}
use Rattle.words.specs.Bytes.{Text}
use Rattle.words.specs.Vocabulary.{OPEN, CLOSE, EQUALS, ALPHABET, MODULE, IF, WHILE, ACCEPT, MOVE, LEFT, GOTO}
use Rattle.grammar.specs.Tree.{Program}
use Rattle.grammar.specs.Automaton.{Reading, parsed, unexpected, too_deep, parse}

-- the symbol a
abbrev pub a : Text
a = 97 ∷ []

-- alphabet = { a }
abbrev pub alphabet_of_a : List Text
alphabet_of_a = ALPHABET ∷ EQUALS ∷ OPEN ∷ a ∷ CLOSE ∷ []

-- alphabet = { a } module if {, where the name is a fixed word
abbrev pub module_begun : List Text
module_begun = alphabet_of_a ++ MODULE ∷ IF ∷ OPEN ∷ []

-- words in n cases that stand in one another, each behind a move
abbrev pub nested : ℕ → List Text → List Text
nested zero ws = ws
nested (suc n) ws = MOVE ∷ LEFT ∷ IF ∷ a ∷ OPEN ∷ nested n ws ++ CLOSE ∷ []

-- a program with one module, in which these words stand
abbrev pub with_inside : List Text → List Text
with_inside ws = module_begun ++ ws ++ CLOSE ∷ []

-- some program was read
abbrev pub IsParsed : Reading Program → Type 0
IsParsed (parsed t) = Unit {0}
IsParsed (unexpected i) = ⊥
IsParsed (too_deep i) = ⊥

-- the cases at the border
pub record Borders : Type 0 where
  -- no word at all
  pub empty : parse [] ≡ unexpected 0
  -- an alphabet and no module
  pub no_module : parse alphabet_of_a ≡ unexpected 5
  -- a module that holds nothing
  pub nothing_inside : parse (with_inside []) ≡ unexpected 8
  -- one flow
  pub one_flow : IsParsed (parse (with_inside (ACCEPT ∷ [])))
  -- a flow in a while case
  pub flow_in_while : parse (module_begun ++ WHILE ∷ a ∷ OPEN ∷ ACCEPT ∷ CLOSE ∷ []) ≡ unexpected 11
  -- a case right behind a case's brace
  pub case_first : parse (with_inside (IF ∷ a ∷ OPEN ∷ IF ∷ a ∷ OPEN ∷ ACCEPT ∷ CLOSE ∷ CLOSE ∷ [])) ≡ unexpected 11
  -- cases to the limit
  pub sixteen : IsParsed (parse (with_inside (nested 16 (ACCEPT ∷ []))))
  -- one beyond it
  pub seventeen : parse (with_inside (nested 17 (ACCEPT ∷ []))) ≡ too_deep 90
  -- a while case beyond it, and nothing behind its first word
  pub while_seventeen : parse (module_begun ++ take 82 (nested 16 (MOVE ∷ LEFT ∷ [])) ++ WHILE ∷ []) ≡ too_deep 90
  -- a case beyond it that may not come
  pub first_seventeen : parse (with_inside (nested 16 (IF ∷ a ∷ OPEN ∷ ACCEPT ∷ CLOSE ∷ []))) ≡ unexpected 88
  -- a name that spells a case's first word
  pub name_seventeen : IsParsed (parse (with_inside (nested 16 (GOTO ∷ IF ∷ []))))
