-- The slots that no block uses.
use Rattle.std.specs.Prelude.{◌≡◌, ℕ, ◌+◌, ◌*◌, ◌<◌, ◌≤◌, List, length, slice_index_or}
use Rattle.program.specs.declared.blocks.Shape.{Shape}
use Rattle.program.specs.declared.blocks.Shape.TheVariants.{Single}
use Rattle.program.specs.Store.{Slot, unused}

-- each basic block has nothing in its row but the first slot
abbrev pub Bare : ℕ → List Shape → List Slot → Type 0
Bare width shapes slots = (q : ℕ) → q < length shapes → slice_index_or shapes q Single ≡ Single → (i : ℕ) → 1 ≤ i → i < width → slice_index_or slots (q * width + i) unused ≡ unused

-- there is nothing from a place on
abbrev pub Spare : List Slot → ℕ → Type 0
Spare slots place = (i : ℕ) → place ≤ i → slice_index_or slots i unused ≡ unused
