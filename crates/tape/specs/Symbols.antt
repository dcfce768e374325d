-- Symbols as codes: 0 for blank, 1 to 26 for a to z, 27 to 36 for 0 to 9.
use Rattle.std.specs.Prelude.{ℕ, ◌+◌, ◌-◌, Bool, cond, ◌&&◌, Some, None, Option, ◌==◌, nat_le}

abbrev pub within : ℕ → ℕ → ℕ → Bool
within low high n = nat_le low n && nat_le n high

-- the code of a letter; 97 to 122 are a to z, 48 to 57 are 0 to 9
abbrev pub letter_code : ℕ → Option ℕ
letter_code b = cond (within 97 122 b) (Some (b - 96)) (cond (within 48 57 b) (Some (b - 21)) None)

-- the letter with a code
abbrev pub code_letter : ℕ → Option ℕ
code_letter c = cond (within 1 26 c) (Some (c + 96)) (cond (within 27 36 c) (Some (c + 21)) None)

-- the code of a cell that a byte writes: 95 is the underscore, for blank
abbrev pub cell_code : ℕ → Option ℕ
cell_code b = cond (b == 95) (Some 0) (letter_code b)
