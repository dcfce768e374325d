-- Which blocks a program that is being put together takes, one after another.
use Rattle.std.specs.Prelude.{ℕ, Bool, true, ◌&&◌, List, [], ◌∷◌, ◌++◌}
use Rattle.meaning.specs.Blocks.{Kind, basic, switch, Compiled}
use Rattle.program.specs.Ranges.{arm_codes}
use Rattle.program.specs.Built.{with_block, has_room, takes_switch}

-- this block
abbrev pub takes_block : Compiled → Kind ℕ → Bool
takes_block p (basic b) = has_room p
takes_block p (switch arms) = takes_switch p (arm_codes arms)

-- all of these
abbrev pub takes_blocks : Compiled → List (Kind ℕ) → Bool
takes_blocks p [] = true
takes_blocks p (k ∷ ks) = takes_block p k && takes_blocks (with_block p k) ks

-- these blocks more, with the next numbers
abbrev pub with_blocks : Compiled → List (Kind ℕ) → Compiled
with_blocks p ks = record { letters = p.letters; blocks = p.blocks ++ ks }
