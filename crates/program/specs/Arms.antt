-- The arms of a switch, and how they are written into the arrays.
use Rattle.std.specs.Prelude.{ℕ, ◌+◌, Bool, ◌&&◌, List, [], ◌∷◌, map, length, Some, None, Option, ◌==◌, slice_set}
use Rattle.std.specs.List.{list_all}
use Rattle.meaning.specs.Blocks.{Basic}
use Rattle.alphabet.specs.Columns.{column_at}
use Rattle.program.specs.declared.blocks.Arm.{Arm}
use Rattle.program.specs.declared.blocks.Shape.TheVariants.{Switch}
use Rattle.program.specs.Store.{Slot, arms_as, basic_fits, covers}

-- the codes of arms
abbrev pub codes_of : List (Arm ℕ) → List ℕ
codes_of arms = map (λ a. a.code) arms

-- arms as a switch has them
abbrev pub arms_in : List (Arm ℕ) → List (ℕ × Basic ℕ)
arms_in = arms_as (λ q. q)

-- these codes written from a place on
abbrev pub codes_put : ℕ → List ℕ → List ℕ → List ℕ
codes_put base [] order = order
codes_put base (c ∷ cs) order = codes_put (base + 1) cs (slice_set order base c)

-- a slot written at a column, if there is one, in the row from a place on
abbrev pub slot_put : ℕ → Option ℕ → Slot → List Slot → List Slot
slot_put base None b slots = slots
slot_put base (Some k) b slots = slice_set slots (base + k) b

-- the basic blocks of these arms written at their columns
abbrev pub slots_put : List ℕ → ℕ → List (Arm ℕ) → List Slot → List Slot
slots_put cols base [] slots = slots
slots_put cols base (a ∷ arms) slots = slots_put cols base arms (slot_put base (column_at cols a.code) a.basic slots)

-- these symbols are the columns, each exactly once
abbrev pub switch_fits : List ℕ → List ℕ → Bool
switch_fits cols symbols = length symbols == length cols && covers cols Switch symbols

-- the basic blocks of these arms write one of the symbols and lead to one of n numbers
abbrev pub arms_fit : List ℕ → ℕ → List (ℕ × Basic ℕ) → Bool
arms_fit cols n arms = list_all (λ a. basic_fits cols n a.1) arms
