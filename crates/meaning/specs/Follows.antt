-- Runs follow execution on tapes without ends, up to the first refused step; and a program and its table execute alike.
use Rattle.std.specs.Prelude.{◌≡◌, ℕ, ◌<◌, true, [], ℤ, pos, ◌+ℤ◌, Some, None, Ok}
use Rattle.tape.specs.declared.kinds.Direction.{Direction}
use Rattle.tape.specs.Meaning.{Meaning, size, reached, code_in, looked, put_answer, shift_answer}
use Rattle.grammar.specs.Tree.{Program}
use Rattle.meaning.specs.declared.calls.Status.{Status}
use Rattle.meaning.specs.declared.calls.Status.TheVariants.{Going, Accepted, Rejected}
use Rattle.meaning.specs.declared.calls.Ending.{Ending}
use Rattle.meaning.specs.declared.calls.Ending.TheVariants.{Spent, Refused}
use Rattle.meaning.specs.declared.calls.Call.TheVariants.{Step, Mark, Nudge, Restart}
use Rattle.meaning.specs.Codes.{or_blank, member, columns}
use Rattle.meaning.specs.Blocks.{alphabet, compiled}
use Rattle.meaning.specs.Rules.{Rules, by_blocks, Table, by_table, translation}
use Rattle.meaning.specs.Runs.{Config, Went, step_refusal, go_of, begun, call}
use Rattle.meaning.specs.Faults.{faults}
use Rattle.meaning.specs.Endless.{After, at, accepts, rejects, Moment, marked, nudged, standing_at, SameAfter}
use Rattle.meaning.specs.Language.{Point, first_point, execute}
use Rattle.meaning.specs.TuringMachine.{machine}
use Rattle.meaning.specs.Points.{Numbered}

-- where a run stands
abbrev pub standing : Status → ℕ → After ℕ
standing Going q = at q
standing Accepted q = accepts
standing Rejected q = rejects

-- a run and an execution are at the same; R tells which number is which S
pub record Agrees {S : Type 0} (R : ℕ → S → Type 0) (k : Config) (m : Moment S) : Type 0 where
  -- the run's head is on a cell
  pub here : k.tape.head < size k.tape
  -- what stands at a distance from the run's head stands there on the endless tape too
  pub cells : (d : ℤ) (c : ℕ) → looked k.tape d ≡ Some c → m.tape (m.index +ℤ d) ≡ c
  pub control : SameAfter R (standing k.status k.number) m.control

-- no step was refused
abbrev pub Unrefused : Ending → Type 0
Unrefused Spent = Unit {0}
Unrefused Ending.Accepted = Unit {0}
Unrefused Ending.Rejected = Unit {0}
Unrefused (Refused r) = ⊥

-- a run from k went so, of at most n steps, where an execution was at m
pub record Follows {S : Type 0} (R : ℕ → S → Type 0) (execution : ℕ → Moment S → Moment S) (n : ℕ) (k : Config) (w : Went) (m : Moment S) : Type 0 where
  -- after the steps that were done
  pub done : Agrees R w.config (execution w.count m)
  -- after n steps, if none was refused
  pub all : Unrefused w.ending → Agrees R w.config (execution n m)
  -- where the run has no cell, the endless tape is as it was
  pub beyond : (d : ℤ) → looked k.tape d ≡ None → (execution w.count m).tape (m.index +ℤ d) ≡ m.tape (m.index +ℤ d)

-- a tape's cells, and blank beyond them
abbrev pub unbounded : Meaning → ℤ → ℕ
unbounded t x = or_blank (code_in t.cells (reached (size t) x))

-- runs of a machine follow an execution that starts at `first`
pub record RunsFollow {S : Type 0} (R : ℕ → S → Type 0) (rules : Rules) (execution : ℕ → Moment S → Moment S) (first : S) : Type 0 where
  -- from the beginning
  pub begins : (t : Meaning) → t.head < size t → Agrees R (begun t) (record { tape = unbounded t; index = pos t.head; control = at first })
  -- by every go, and by every step that isn't refused
  pub goes : (n : ℕ) (k : Config) (m : Moment S) → Agrees R k m → Follows R execution n k (go_of rules n k) m
  pub steps_on : (k : Config) (m : Moment S) → Agrees R k m → step_refusal rules k ≡ None → Agrees R (call rules Step k).1 (execution 1 m)
  -- where a symbol is marked, the head nudged or the run restarted, as where that is done to the execution
  pub marks : (c : ℕ) (k : Config) (m : Moment S) → Agrees R k m → put_answer k.tape c ≡ Ok tt → Agrees R (call rules (Mark c) k).1 (marked m c)
  pub nudges : (d : Direction) (k : Config) (m : Moment S) → Agrees R k m → shift_answer k.tape d ≡ Ok tt → Agrees R (call rules (Nudge d) k).1 (nudged m d)
  pub restarts : (k : Config) (m : Moment S) → Agrees R k m → Agrees R (call rules Restart k).1 (standing_at m first)

-- runs of a program that keeps the rules follow the language's execution
abbrev pub BlocksFollow : Type 0
BlocksFollow = (t : Program) → faults t ≡ [] → RunsFollow (Numbered t) (by_blocks (compiled t)) (execute t) (first_point t)

-- runs of a table follow the Turing machine's execution
abbrev pub TablesFollow : Type 0
TablesFollow = (T : Table) → RunsFollow (λ q r. q ≡ r) (by_table T) (machine T) 0

-- every cell holds blank or a letter of the alphabet
abbrev pub TapeOf : Program → (ℤ → ℕ) → Type 0
TapeOf t T = (x : ℤ) → member (T x) (columns (alphabet t)) ≡ true

-- a Turing machine's execution and a program's are at the same
pub record Alike (t : Program) (j : Moment ℕ) (m : Moment Point) : Type 0 where
  pub tape : (x : ℤ) → j.tape x ≡ m.tape x
  pub index : j.index ≡ m.index
  pub control : SameAfter (Numbered t) j.control m.control

-- a program and its Turing machine execute in the same way on every tape of the alphabet
abbrev pub ExecutesAlike : Type 0
ExecutesAlike = (t : Program) → faults t ≡ [] → (n : ℕ) (j : Moment ℕ) (m : Moment Point) → TapeOf t m.tape → Alike t j m → Alike t (machine (translation (compiled t)) n j) (execute t n m)
