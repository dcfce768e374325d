-- The display: fifteen cells around the head as bytes.
use Rattle.std.specs.Prelude.{ℕ, List, map, pos, ◌-ℤ◌, Some, None, Option}
use Rattle.std.specs.List.{range_with_len}
use Rattle.tape.specs.Symbols.{code_letter}
use Rattle.tape.specs.Meaning.{Meaning, looked}

-- the letter with a code; 95, the underscore, for blank, which has none
abbrev pub letter_or_blank : Option ℕ → ℕ
letter_or_blank None = 95
letter_or_blank (Some b) = b

-- the byte that shows a cell; 32, a space, beyond an end
abbrev pub shown : Option ℕ → ℕ
shown None = 32
shown (Some c) = letter_or_blank (code_letter c)

-- the byte at place i of the display: the cell at the distance i - 7
abbrev pub shown_at : Meaning → ℕ → ℕ
shown_at m i = shown (looked m (pos i -ℤ pos 7))

abbrev pub displayed : Meaning → List ℕ
displayed m = map (shown_at m) (range_with_len 0 15)
