-- A table as a Turing machine: its states are the table's, besides accept and reject; its letters are the table's; it starts in state 0.
use Rattle.std.specs.Prelude.{ℕ, Some}
use Rattle.meaning.specs.declared.machines.Next.{Next}
use Rattle.meaning.specs.declared.machines.Next.TheVariants.{To, Accept, Reject}
use Rattle.meaning.specs.Rules.{Table, entry}
use Rattle.meaning.specs.Endless.{After, at, accepts, rejects, Step, Moment, execute_by}

-- the state after a step
abbrev pub state_after : Next → After ℕ
state_after (To r) = at r
state_after Accept = accepts
state_after Reject = rejects

-- the transition function
abbrev pub transition : Table → ℕ → ℕ → Step ℕ
transition T q c = record { write = Some (entry T q c).write; direction = (entry T q c).direction; after = state_after (entry T q c).next }

-- the machine's execution
abbrev pub machine : Table → ℕ → Moment ℕ → Moment ℕ
machine T = execute_by (transition T)
