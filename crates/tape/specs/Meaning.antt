-- What a tape means, and what each call answers and does to that, on every meaning.
use Rattle.std.specs.Prelude.{◌≡◌, ℕ, ◌+◌, ◌-◌, ◌<◌, ◌≤◌, Bool, true, cond, not, ◌&&◌, List, [], ◌∷◌, length, ℤ, pos, negsuc, ◌+ℤ◌, Some, None, Ok, Err, Option, Result, ◌==◌, nat_le, nat_lt, slice_index, slice_set}
use Rattle.std.specs.List.{list_all}
use Rattle.tape.specs.declared.kinds.Direction.{Direction}
use Rattle.tape.specs.declared.kinds.Direction.TheVariants.{Left, Right}
use Rattle.tape.specs.declared.kinds.TapeRefusal.{TapeRefusal}
use Rattle.tape.specs.declared.kinds.TapeRefusal.TheVariants.{Code, Edge, Capacity}

-- a symbol code for each cell, the head's cell, and how many cells may be nonblank
pub record Meaning : Type 0 where
  pub capacity : ℕ
  pub cells : List ℕ
  pub head : ℕ

abbrev pub size : Meaning → ℕ
size m = length m.cells

-- how many cells are not blank
abbrev pub nonblank : List ℕ → ℕ
nonblank [] = 0
nonblank (c ∷ cs) = cond (c == 0) (nonblank cs) (1 + nonblank cs)

-- each code is at most 36
abbrev pub all_codes : List ℕ → Bool
all_codes cs = list_all (λ c. nat_le c 36) cs

-- what every tape keeps
pub record Valid (m : Meaning) : Type 0 where
  pub here : m.head < size m
  pub most : size m ≤ 4096
  pub limit : m.capacity ≤ size m
  pub within : nonblank m.cells ≤ m.capacity
  pub codes : all_codes m.cells ≡ true

-- the cell at an integer place, if a tape of this size has it
abbrev pub reached : ℕ → ℤ → Option ℕ
reached n (pos k) = cond (nat_lt k n) (Some k) None
reached n (negsuc k) = None

-- the code of a cell, if there is one
abbrev pub code_in : List ℕ → Option ℕ → Option ℕ
code_in cs None = None
code_in cs (Some k) = Some (slice_index cs k)

-- look: the code at a signed distance from the head, or nothing exactly where that cell doesn't exist
abbrev pub looked : Meaning → ℤ → Option ℕ
looked m d = code_in m.cells (reached (size m) (pos m.head +ℤ d))

abbrev pub at_head : Meaning → ℕ
at_head m = slice_index m.cells m.head

-- a blank cell would become nonblank, with capacity cells nonblank already
abbrev pub no_room : Meaning → ℕ → Bool
no_room m c = at_head m == 0 && (not (c == 0) && nat_le m.capacity (nonblank m.cells))

-- put: the answer, and the tape after it
abbrev pub put_answer : Meaning → ℕ → Result (Unit {0}) TapeRefusal
put_answer m c = cond (nat_lt 36 c) (Err Code) (cond (no_room m c) (Err Capacity) (Ok tt))

-- the head's cell becomes c
abbrev pub written : Meaning → ℕ → Meaning
written m c = record { capacity = m.capacity; cells = slice_set m.cells m.head c; head = m.head }

-- where a call is refused, all stays as it was
abbrev pub unless_refused : Result (Unit {0}) TapeRefusal → Meaning → Meaning → Meaning
unless_refused (Ok _) before after = after
unless_refused (Err _) before after = before

abbrev pub put_after : Meaning → ℕ → Meaning
put_after m c = unless_refused (put_answer m c) m (written m c)

-- the distance of the cell that a head goes to
abbrev pub step_of : Direction → ℤ
step_of Left = negsuc 0
step_of Right = pos 1

-- shift: the answer, and the tape after it
abbrev pub at_end : Meaning → Direction → Bool
at_end m Left = m.head == 0
at_end m Right = nat_le (size m) (m.head + 1)

abbrev pub shift_answer : Meaning → Direction → Result (Unit {0}) TapeRefusal
shift_answer m d = cond (at_end m d) (Err Edge) (Ok tt)

abbrev pub beside : Direction → ℕ → ℕ
beside Left h = h - 1
beside Right h = h + 1

abbrev pub moved : Meaning → Direction → Meaning
moved m d = record { capacity = m.capacity; cells = m.cells; head = beside d m.head }

abbrev pub shift_after : Meaning → Direction → Meaning
shift_after m d = unless_refused (shift_answer m d) m (moved m d)
