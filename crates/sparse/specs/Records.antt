-- Records of nonblank cells: the codes that they stand for, and their order.
use Rattle.std.specs.Prelude.{ℕ, ◌+◌, ◌<◌, ◌≤◌, Bool, false, cond, List, [], ◌∷◌, map, Some, None, Option, ◌==◌}
use Rattle.std.proofs.Props.{props}
use Rattle.std.specs.List.{range_with_len}
use Rattle.bounded.specs.Held.{Held}
use Rattle.tape.specs.Meaning.{Meaning}
use Rattle.sparse.specs.declared.record.NonblankCell.{NonblankCell}

-- the code of a cell: that of its record, or blank
abbrev pub code_at : List NonblankCell → ℕ → ℕ
code_at [] k = 0
code_at (r ∷ rs) k = cond (r.cell == k) r.code (code_at rs k)

-- the codes of n cells
abbrev pub cells_of : ℕ → List NonblankCell → List ℕ
cells_of n rs = map (code_at rs) (range_with_len 0 n)

-- records of cells from low to below high, each cell at most once and in order, with codes of letters
abbrev pub Rising : ℕ → ℕ → List NonblankCell → Type 0
Rising low high [] = low ≤ high
Rising low high (r ∷ rs) = (low ≤ r.cell) × (0 < r.code) × (r.code ≤ 36) × Rising (r.cell + 1) high rs

-- records in the order of their cells
abbrev pub InOrder : List NonblankCell → Type 0
InOrder rs = (low : ℕ) × (high : ℕ) × Rising low high rs

-- such a fact has one proof at most, and so has what a tape keeps: a struct may hold it
pub rising_prop : (low high : ℕ) (rs : List NonblankCell) → IsProp (Rising low high rs)
rising_prop low high [] = hlevel props
rising_prop low high (r ∷ rs) = let rest = rising_prop (r.cell + 1) high rs in hlevel (props, rest)

-- what a tape of n cells with its head at h keeps of its list: the records left of the head stand before the cursor
pub record Kept (n h : ℕ) (l : Held NonblankCell) : Type 0 where
  pub here : h < n
  pub most : n ≤ 4096
  pub room : l.capacity ≤ n
  pub left : Rising 0 h l.before
  pub right : Rising h n l.after

pub kept_prop : (n h : ℕ) (l : Held NonblankCell) → IsProp (Kept n h l)
kept_prop n h l = hlevel (props, rising_prop)

-- is this the record of the cell?
abbrev pub stands : Option NonblankCell → ℕ → Bool
stands None k = false
stands (Some r) k = r.cell == k

-- the tape of n cells that these records stand for, with k records in all and the head at h
abbrev pub of_records : ℕ → ℕ → List NonblankCell → ℕ → Meaning
of_records k n rs h = record { capacity = k; cells = cells_of n rs; head = h }
