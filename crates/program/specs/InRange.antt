-- Whether a program is one that can be stored.
use Rattle.std.specs.Prelude.{ℕ, Bool, not, ◌&&◌, List, length, nat_le}
use Rattle.std.specs.List.{list_all}
use Rattle.meaning.specs.Codes.{columns}
use Rattle.meaning.specs.Blocks.{Kind, basic, switch, Compiled}
use Rattle.meaning.specs.Faults.{too_many}
use Rattle.program.specs.Store.{basic_fits}
use Rattle.program.specs.Arms.{switch_fits, arms_fit}
use Rattle.program.specs.Ranges.{arm_codes}

-- a block of a program with n numbers
abbrev pub kind_fits : List ℕ → ℕ → Kind ℕ → Bool
kind_fits cols n (basic b) = basic_fits cols n b
kind_fits cols n (switch arms) = switch_fits cols (arm_codes arms) && arms_fit cols n arms

-- all blocks of a program with n numbers
abbrev pub blocks_fit : List ℕ → ℕ → List (Kind ℕ) → Bool
blocks_fit cols n ks = list_all (kind_fits cols n) ks

-- at least one block, no more numbers than there may be, and each block fits
abbrev pub in_range : Compiled → Bool
in_range p = nat_le 1 (length p.blocks) && (not (too_many (length p.blocks) (length (columns p.letters))) && blocks_fit (columns p.letters) (length p.blocks) p.blocks)
