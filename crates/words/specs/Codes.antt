-- The symbol codes.
use Rattle.std.specs.Prelude.{◌≡◌, ℕ, ◌+◌, ◌-◌, cond, [], ◌∷◌, map, Some, None, codes, Option}
use Rattle.words.specs.Bytes.{Text, between}
use Rattle.words.specs.Vocabulary.{is_symbol_text, BLANK}

-- the symbol code of a letter: 1 to 26 for a to z, 27 to 36 for 0 to 9
abbrev pub letter_code : ℕ → ℕ
letter_code b = cond (between 97 122 b) (b - 97 + 1) (b - 48 + 27)

-- the symbol code of a symbol: that of its letter, or 0 for blank
abbrev pub symbol_code : Text → ℕ
symbol_code [] = 0
symbol_code (b ∷ []) = letter_code b
symbol_code (b ∷ c ∷ bs) = 0

-- the symbol code of a text, if it is a symbol
abbrev pub symbol_in : Text → Option ℕ
symbol_in w = cond (is_symbol_text w) (Some (symbol_code w)) None

-- blank has code 0, and the letters have 1 to 36 in their order
pub record Codes : Type 0 where
  pub blank : symbol_code BLANK ≡ 0
  pub letters : map letter_code (codes "abcdefghijklmnopqrstuvwxyz0123456789") ≡ 1 ∷ 2 ∷ 3 ∷ 4 ∷ 5 ∷ 6 ∷ 7 ∷ 8 ∷ 9 ∷ 10 ∷ 11 ∷ 12 ∷ 13 ∷ 14 ∷ 15 ∷ 16 ∷ 17 ∷ 18 ∷ 19 ∷ 20 ∷ 21 ∷ 22 ∷ 23 ∷ 24 ∷ 25 ∷ 26 ∷ 27 ∷ 28 ∷ 29 ∷ 30 ∷ 31 ∷ 32 ∷ 33 ∷ 34 ∷ 35 ∷ 36 ∷ []
