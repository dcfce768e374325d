-- What the words for symbols and directions stand for: symbol codes, and the directions of a tape.
use Rattle.std.specs.Prelude.{◌≡◌, ℕ, suc, ◌≤◌, Bool, true, false, cond, not, ◌&&◌, ◌||◌, T, List, [], ◌∷◌, ◌++◌, Some, None, Option, ◌==◌, refl}
use Rattle.std.proofs.Common.{sym, subst}
use Rattle.tape.specs.declared.kinds.Direction.{Direction}
use Rattle.tape.specs.declared.kinds.Direction.TheVariants.{Left, Right}
use Rattle.tape.specs.Symbols.{letter_code, code_letter}
use Rattle.words.specs.Bytes.{Text}
use Rattle.words.specs.Codes.{symbol_code}
use Rattle.words.specs.Vocabulary.{Such, Symbol, BLANK}
use Rattle.grammar.specs.Tree.{Direction as WrittenDirection, left, right}

-- blank where there is no code
abbrev pub or_blank : Option ℕ → ℕ
or_blank None = 0
or_blank (Some c) = c

-- the code of a symbol's word: a letter's, or that of blank, which has more than one byte
abbrev pub word_code : Text → ℕ
word_code [] = 0
word_code (b ∷ []) = or_blank (letter_code b)
word_code (b ∷ c ∷ cs) = 0

-- the code of a symbol
abbrev pub code : Symbol → ℕ
code s = word_code s.word

-- a word that passes a test, or else another that does
abbrev pub passing : {p : Text → Bool} (w : Text) (b : Bool) → p w ≡ b → Such p → Such p
passing w true e other = record { word = w; fits = subst T (sym e) tt }
passing w false e other = other

-- this word if it passes the test, or else another that does
abbrev pub or_else : {p : Text → Bool} → Text → Such p → Such p
or_else {p} w other = passing w (p w) refl other

-- the symbol blank
abbrev pub blank : Symbol
blank = record { word = BLANK; fits = tt }

-- the word of a letter, or that of blank
abbrev pub symbol_word : Option ℕ → Text
symbol_word None = BLANK
symbol_word (Some b) = b ∷ []

-- the symbol with this code
abbrev pub symbol : ℕ → Symbol
symbol c = or_else (symbol_word (code_letter c)) blank

-- c is among these
abbrev pub member : ℕ → List ℕ → Bool
member c [] = false
member c (x ∷ xs) = c == x || member c xs

-- no two of these are the same
abbrev pub different : List ℕ → Bool
different [] = true
different (x ∷ xs) = not (member x xs) && different xs

-- where c stands first
abbrev pub position : ℕ → List ℕ → ℕ
position c [] = 0
position c (x ∷ xs) = cond (c == x) 0 (suc (position c xs))

-- the columns of an alphabet: its letters, then blank
abbrev pub columns : List ℕ → List ℕ
columns letters = letters ++ 0 ∷ []

-- the direction that a program's word means
abbrev pub meant : WrittenDirection → Direction
meant left = Left
meant right = Right

-- the word that means a direction
abbrev pub spelled : Direction → WrittenDirection
spelled Left = left
spelled Right = right

-- what holds of symbol codes
pub record CodesAre : Type 0 where
  -- they are those that the word reader tells
  pub told : (s : Symbol) → symbol_code s.word ≡ code s
  -- each symbol has one up to 36, and each of these is a symbol's
  pub most : (s : Symbol) → code s ≤ 36
  pub back : (c : ℕ) → c ≤ 36 → code (symbol c) ≡ c
