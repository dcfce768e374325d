-- Execution on a tape without ends: a tape is a function from the integers.
-- S is what an execution can stand at: a point of a program, or a state of a Turing machine.
use Rattle.std.specs.Prelude.{ℕ, zero, suc, Bool, false, cond, ℤ, pos, negsuc, ◌+ℤ◌, ◌-ℤ◌, Some, None, Option, ◌==◌}
use Rattle.tape.specs.declared.kinds.Direction.{Direction}
use Rattle.tape.specs.declared.kinds.Direction.TheVariants.{Left, Right}

-- where an execution stands after a step: at an S, or it is terminated
pub data After (S : Type 0) : Type 0 where
  at : S → After S
  accepts rejects : After S

-- what is done at one symbol; where nothing is written, the cell stays as it is
pub record Step (S : Type 0) : Type 0 where
  pub write : Option ℕ
  pub direction : Direction
  pub after : After S

-- an execution at one time: the tape, the index of the head, and where it stands
pub record Moment (S : Type 0) : Type 0 where
  pub tape : ℤ → ℕ
  pub index : ℤ
  pub control : After S

-- two integers are the same
abbrev pub same_index : ℤ → ℤ → Bool
same_index (pos a) (pos b) = a == b
same_index (pos a) (negsuc b) = false
same_index (negsuc a) (pos b) = false
same_index (negsuc a) (negsuc b) = a == b

-- the tape after a write at the index i
abbrev pub next_tape : (ℤ → ℕ) → ℤ → Option ℕ → ℤ → ℕ
next_tape T i None x = T x
next_tape T i (Some c) x = cond (same_index x i) c (T x)

-- the index after a move
abbrev pub next_index : ℤ → Direction → ℤ
next_index i Left = i -ℤ pos 1
next_index i Right = i +ℤ pos 1

-- the moment after a step
abbrev pub stepped : {S : Type 0} → (ℤ → ℕ) → ℤ → Step S → Moment S
stepped T i d = record { tape = next_tape T i d.write; index = next_index i d.direction; control = d.after }

-- one step, unless execution is terminated
abbrev pub advance : {S : Type 0} → (S → ℕ → Step S) → (ℤ → ℕ) → ℤ → After S → Moment S
advance f T i (at s) = stepped T i (f s (T i))
advance f T i accepts = record { tape = T; index = i; control = accepts }
advance f T i rejects = record { tape = T; index = i; control = rejects }

-- n steps, or as many as there are before the end
abbrev pub execute_by : {S : Type 0} → (S → ℕ → Step S) → ℕ → Moment S → Moment S
execute_by f zero m = m
execute_by f (suc n) m = execute_by f n (advance f m.tape m.index m.control)

-- with another symbol under the head
abbrev pub marked : {S : Type 0} → Moment S → ℕ → Moment S
marked m c = record { tape = next_tape m.tape m.index (Some c); index = m.index; control = m.control }

-- with the head one cell further
abbrev pub nudged : {S : Type 0} → Moment S → Direction → Moment S
nudged m d = record { tape = m.tape; index = next_index m.index d; control = m.control }

-- standing at s
abbrev pub standing_at : {S : Type 0} → Moment S → S → Moment S
standing_at m s = record { tape = m.tape; index = m.index; control = at s }

-- two executions stand at the same: R tells which Q is which S
abbrev pub SameAfter : {Q S : Type 0} → (Q → S → Type 0) → After Q → After S → Type 0
SameAfter R (at q) (at s) = R q s
SameAfter R (at q) accepts = ⊥
SameAfter R (at q) rejects = ⊥
SameAfter R accepts (at s) = ⊥
SameAfter R accepts accepts = Unit {0}
SameAfter R accepts rejects = ⊥
SameAfter R rejects (at s) = ⊥
SameAfter R rejects accepts = ⊥
SameAfter R rejects rejects = Unit {0}
