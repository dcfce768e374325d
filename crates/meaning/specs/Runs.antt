-- Runs: a step, a go, and whole lists of calls, over any machine.
use Rattle.std.specs.Prelude.{ℕ, zero, suc, ◌+◌, Bool, true, false, cond, not, List, [], ◌∷◌, Some, None, Ok, Err, Option, Result, nat_le, nat_lt}
use Rattle.tape.specs.declared.kinds.TapeRefusal.{TapeRefusal}
use Rattle.tape.specs.Meaning.{Meaning, at_head, at_end, no_room, written, moved, put_answer, put_after, shift_answer, shift_after}
use Rattle.tape.specs.Display.{displayed}
use Rattle.meaning.specs.declared.machines.Next.{Next}
use Rattle.meaning.specs.declared.machines.Next.TheVariants.{To, Accept, Reject}
use Rattle.meaning.specs.declared.machines.Action.{Action}
use Rattle.meaning.specs.declared.refusals.Refusal.{Refusal}
use Rattle.meaning.specs.declared.refusals.Refusal.TheVariants.{Edge, Capacity, Verdict, Number, Symbol, Total, Fuel}
use Rattle.meaning.specs.declared.calls.Status.{Status}
use Rattle.meaning.specs.declared.calls.Status.TheVariants.{Going, Accepted, Rejected}
use Rattle.meaning.specs.declared.calls.Ending.{Ending}
use Rattle.meaning.specs.declared.calls.Ending.TheVariants.{Spent}
use Rattle.meaning.specs.declared.calls.Call.{Call}
use Rattle.meaning.specs.declared.calls.Call.TheVariants.{Step, Go, Mark, Nudge, Restart, Window}
use Rattle.meaning.specs.declared.calls.Answer.{Answer}
use Rattle.meaning.specs.declared.calls.Answer.TheVariants.{Stepped, Done, Reported, Shown}
use Rattle.meaning.specs.Numbers.{from_tape}
use Rattle.meaning.specs.Codes.{member}
use Rattle.meaning.specs.Rules.{Rules}

-- the configuration of a run: what its tape means, its block or state number, its status, and how many steps are done
pub record Config : Type 0 where
  pub tape : Meaning
  pub number : ℕ
  pub status : Status
  pub total : ℕ

-- an answer, and the configuration after it
abbrev pub Answered : Type 0
Answered = Answer × Config

-- a run has a verdict
abbrev pub over : Status → Bool
over Going = false
over Accepted = true
over Rejected = true

-- the first that applies
abbrev pub first : List (Bool × Refusal) → Option Refusal
first [] = None
first (r ∷ rs) = cond r.0 (Some r.1) (first rs)

-- there is no room for what an action writes
abbrev pub write_no_room : Meaning → Option ℕ → Bool
write_no_room t None = false
write_no_room t (Some c) = no_room t c

-- the tape after an action's write
abbrev pub write_after : Meaning → Option ℕ → Meaning
write_after t None = t
write_after t (Some c) = written t c

-- the action at a configuration
abbrev pub action_here : Rules → Config → Action
action_here R k = R.action k.number (at_head k.tape)

-- why a step is refused, checked in this order
abbrev pub step_refusal : Rules → Config → Option Refusal
step_refusal R k = first (
    (over k.status, Verdict)
    ∷ (not (nat_lt k.number R.numbers), Number)
    ∷ (nat_le 1000000000 k.total, Total)
    ∷ (not (member (at_head k.tape) R.symbols), Symbol)
    ∷ (at_end k.tape (action_here R k).direction, Edge)
    ∷ (write_no_room k.tape (action_here R k).write, Capacity) ∷ [])

-- a verdict keeps the number
abbrev pub number_after : ℕ → Next → ℕ
number_after q (To r) = r
number_after q Accept = q
number_after q Reject = q

-- the status after a step
abbrev pub status_after : Next → Status
status_after (To r) = Going
status_after Accept = Accepted
status_after Reject = Rejected

-- the configuration after an action: it writes, moves, counts one, and takes the next number or verdict
abbrev pub after : Action → Config → Config
after d k = record {
  tape = moved (write_after k.tape d.write) d.direction;
  number = number_after k.number d.next;
  status = status_after d.next;
  total = k.total + 1;
}

-- where a call is refused, nothing changes
abbrev pub unless : Option Refusal → Config → Answered → Answered
unless (Some r) k o = (Answer.Refused r, k)
unless None k o = o

-- step
abbrev pub step_of : Rules → Config → Answered
step_of R k = unless (step_refusal R k) k (Stepped (status_after (action_here R k).next), after (action_here R k) k)

-- how a go went: the steps done, how it ended, and the configuration after it
pub record Went : Type 0 where
  pub count : ℕ
  pub ending : Ending
  pub config : Config

-- with one step more in front
abbrev pub one_more : Went → Went
one_more w = record { count = 1 + w.count; ending = w.ending; config = w.config }

-- after a step that led to k: the rest, unless a verdict fell
abbrev pub onward : Next → Config → Went → Went
onward (To r) k rest = one_more rest
onward Accept k rest = record { count = 1; ending = Ending.Accepted; config = k }
onward Reject k rest = record { count = 1; ending = Ending.Rejected; config = k }

-- no step, where the first is refused
abbrev pub refused_or : Option Refusal → Config → Went → Went
refused_or (Some r) k w = record { count = 0; ending = Ending.Refused r; config = k }
refused_or None k w = w

-- at most n steps, until a verdict falls or a step is refused
abbrev pub steps : Rules → ℕ → Config → Went
steps R zero k = record { count = 0; ending = Spent; config = k }
steps R (suc n) k = refused_or (step_refusal R k) k (onward (action_here R k).next (after (action_here R k) k) (steps R n (after (action_here R k) k)))

-- why a go is refused
abbrev pub go_refusal : ℕ → Config → Option Refusal
go_refusal n k = first ((nat_lt 65535 n, Fuel) ∷ (over k.status, Verdict) ∷ [])

-- go
abbrev pub go_of : Rules → ℕ → Config → Went
go_of R n k = refused_or (go_refusal n k) k (steps R n k)

-- what a call on the tape answers
abbrev pub tape_answer : Result (Unit {0}) TapeRefusal → Answer
tape_answer (Ok _) = Done
tape_answer (Err r) = Answer.Refused (from_tape r)

-- the configuration with another tape
abbrev pub with_tape : Config → Meaning → Config
with_tape k t = record { tape = t; number = k.number; status = k.status; total = k.total }

-- the configuration that a run begins with
abbrev pub begun : Meaning → Config
begun t = record { tape = t; number = 0; status = Going; total = 0 }

-- each call
abbrev pub call : Rules → Call → Config → Answered
call R Step k = step_of R k
call R (Go n) k = (Answer.Went (go_of R n k).count (go_of R n k).ending, (go_of R n k).config)
call R (Mark c) k = (tape_answer (put_answer k.tape c), with_tape k (put_after k.tape c))
call R (Nudge d) k = (tape_answer (shift_answer k.tape d), with_tape k (shift_after k.tape d))
call R Restart k = (Done, begun k.tape)
call R Call.Report k = (Reported (record { status = k.status; number = k.number; total = k.total; code = at_head k.tape }), k)
call R Window k = (Shown (displayed k.tape), k)

-- calls one after another: all answers, and the last configuration
abbrev pub play : Rules → List Call → Config → List Answer × Config
play R [] k = ([], k)
play R (c ∷ cs) k =
    let now = call R c k in
    let later = play R cs now.1 in
    (now.0 ∷ later.0, later.1)
