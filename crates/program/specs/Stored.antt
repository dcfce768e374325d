-- What a stored program means.
use Rattle.std.specs.Prelude.{[], ◌∷◌, Some, None, Ok, Err, codes, Option, Result}
use Rattle.words.specs.Bytes.{Text}
use Rattle.grammar.specs.Tree.{Program as Tree}
use Rattle.meaning.specs.declared.faults.Fault.{Fault}
use Rattle.meaning.specs.Blocks.{rejecting, basic, Compiled, compiled as program_of}
use Rattle.program.specs.declared.program.Program.{Program}
use Rattle.program.specs.Place.{stored}

-- the alphabet and the blocks
abbrev pub compiled : Program → Compiled
compiled p = stored p.store

-- one letter, and one block that rejects
abbrev pub first_program : Compiled
first_program = record { letters = 1 ∷ []; blocks = basic (record { write = None; move = None; then = rejecting }) ∷ [] }

-- what an accepted source says
abbrev pub said : Result Tree Fault → Option Compiled
said (Ok t) = Some (program_of t)
said (Err f) = None

-- the source of the first program
abbrev pub first_source : Text
first_source = codes "alphabet={a}module m{reject}"
