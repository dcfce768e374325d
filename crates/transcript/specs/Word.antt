-- The word of an input: 0 to 80 cells, each a letter or `_` for blank.
use Rattle.std.specs.Prelude.{ℕ, cond, List, [], ◌∷◌, length, Some, None, Option, nat_le}
use Rattle.bounded.specs.Inline.{items_of}
use Rattle.tape.specs.Symbols.{cell_code}
use Rattle.transcript.specs.declared.word.Word.{Word}

-- the codes that a word holds
abbrev pub codes_in : Word → List ℕ
codes_in w = items_of w.codes

-- one code before others, if all are codes
abbrev pub before : Option ℕ → Option (List ℕ) → Option (List ℕ)
before None cs = None
before (Some c) None = None
before (Some c) (Some cs) = Some (c ∷ cs)

-- the codes of a text, or nothing where a byte of it is no cell's
abbrev pub codes_of : List ℕ → Option (List ℕ)
codes_of [] = Some []
codes_of (b ∷ bs) = before (cell_code b) (codes_of bs)

-- the codes of a word, or nothing where the text is no word
abbrev pub read_word : List ℕ → Option (List ℕ)
read_word text = cond (nat_le (length text) 80) (codes_of text) None
