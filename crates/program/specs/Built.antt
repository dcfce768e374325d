-- What a program that is being put together means.
use Rattle.std.specs.Prelude.{ℕ, ◌+◌, Bool, cond, not, ◌&&◌, List, [], ◌∷◌, ◌++◌, length, Some, None, Option, Ok, Err, Result}
use Rattle.meaning.specs.Codes.{columns}
use Rattle.meaning.specs.Blocks.{Kind, Compiled}
use Rattle.meaning.specs.Faults.{too_many}
use Rattle.program.specs.declared.program.Program.{Program}
use Rattle.program.specs.declared.builder.Builder.{Builder}
use Rattle.program.specs.declared.builder.BuildRefusal.{BuildRefusal}
use Rattle.program.specs.declared.builder.BuildRefusal.TheVariants.{NoRoom, NotWhole}
use Rattle.program.specs.Arms.{switch_fits}
use Rattle.program.specs.Place.{stored}
use Rattle.program.specs.Stored.{compiled}

-- the alphabet and the blocks so far
abbrev pub built : Builder → Compiled
built b = stored b.store

-- no block yet
abbrev pub no_blocks : List ℕ → Compiled
no_blocks letters = record { letters = letters; blocks = [] }

-- one block more, with the next number
abbrev pub with_block : Compiled → Kind ℕ → Compiled
with_block p k = record { letters = p.letters; blocks = p.blocks ++ k ∷ [] }

-- there is a number left for one block more
abbrev pub has_room : Compiled → Bool
has_room p = not (too_many (length p.blocks + 1) (length (columns p.letters)))

-- there is one for a switch with these symbols, which are the columns, each exactly once
abbrev pub takes_switch : Compiled → List ℕ → Bool
takes_switch p symbols = has_room p && switch_fits (columns p.letters) symbols

-- what is answered to a basic block
abbrev pub basic_answer : Compiled → Result (Unit {0}) BuildRefusal
basic_answer p = cond (has_room p) (Ok tt) (Err NoRoom)

-- and to a switch with these symbols
abbrev pub switch_answer : Compiled → List ℕ → Result (Unit {0}) BuildRefusal
switch_answer p symbols = cond (has_room p) (cond (switch_fits (columns p.letters) symbols) (Ok tt) (Err NotWhole)) (Err NoRoom)

-- the alphabet and the blocks, if there is a program
abbrev pub compiled_if : Option Program → Option Compiled
compiled_if None = None
compiled_if (Some p) = Some (compiled p)
