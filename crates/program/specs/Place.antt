-- What a store holds.
use Rattle.std.specs.Prelude.{ℕ, cond, ◌&&◌, List, length, Some, None, Option, nat_lt}
use Rattle.bounded.specs.Inline.{items_of}
use Rattle.meaning.specs.Codes.{member, columns}
use Rattle.meaning.specs.Blocks.{Basic, Compiled}
use Rattle.meaning.specs.Rules.{current, kind_at}
use Rattle.alphabet.specs.Alphabets.{letters_of}
use Rattle.program.specs.declared.store.Store.{Store}
use Rattle.program.specs.Store.{kinds_of}

-- the symbols that it knows
abbrev pub columns_of : Store → List ℕ
columns_of s = columns (letters_of s.alphabet)

-- how many numbers it has
abbrev pub count_of : Store → ℕ
count_of s = length (items_of s.shapes)

-- the alphabet and the blocks
abbrev pub stored : Store → Compiled
stored s = record { letters = letters_of s.alphabet; blocks = kinds_of (columns_of s) (items_of s.shapes) s.order s.slots }

-- the basic block that a program gives at the number q and the symbol c, if it has that number and knows that symbol
abbrev pub basic_at : Compiled → ℕ → ℕ → Option (Basic ℕ)
basic_at p q c = cond (nat_lt q (length p.blocks) && member c (columns p.letters)) (Some (current (kind_at p.blocks q) c)) None
