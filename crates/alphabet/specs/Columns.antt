-- Letters, and the columns of symbols.
use Rattle.std.specs.Prelude.{ℕ, Bool, cond, ◌&&◌, List, map, length, Some, None, Option, nat_le}
use Rattle.std.specs.List.{range_with_len}
use Rattle.tape.specs.Meaning.{all_codes}
use Rattle.meaning.specs.Codes.{member, different, position, columns}

-- letters that differ from one another and from blank, and at least one of them
abbrev pub letters_fit : List ℕ → Bool
letters_fit letters = nat_le 1 (length letters) && (all_codes letters && different (columns letters))

-- the column of a code, if it has one
abbrev pub column_at : List ℕ → ℕ → Option ℕ
column_at cols c = cond (member c cols) (Some (position c cols)) None

-- the column of each code
abbrev pub column_map : List ℕ → List (Option ℕ)
column_map cols = map (column_at cols) (range_with_len 0 256)
