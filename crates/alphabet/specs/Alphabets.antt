-- What an alphabet means.
use Rattle.std.specs.Prelude.{ℕ, List, Some, None, Option}
use Rattle.bounded.specs.Inline.{items_of}
use Rattle.alphabet.specs.declared.letters.Alphabet.{Alphabet}

-- the letters, in order of writing
abbrev pub letters_of : Alphabet → List ℕ
letters_of a = items_of a.letters

-- the letters, if there is an alphabet
abbrev pub letters_if : Option Alphabet → Option (List ℕ)
letters_if None = None
letters_if (Some a) = Some (letters_of a)
