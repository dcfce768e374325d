-- Laying a word onto a tape, from its last code to its first, each one cell further left.
use Rattle.std.specs.Prelude.{ℕ, ◌+◌, ◌-◌, List, [], ◌∷◌, ◌++◌, length, replicate, Ok, Err, Result}
use Rattle.tape.specs.declared.kinds.Direction.TheVariants.{Left}
use Rattle.tape.specs.declared.kinds.TapeRefusal.{TapeRefusal}
use Rattle.tape.specs.Meaning.{Meaning, put_answer, put_after, shift_answer, shift_after}

-- an answer, and the tape after it
pub record Laid : Type 0 where
  pub answer : Result (Unit {0}) TapeRefusal
  pub tape : Meaning

-- what comes after an answer, unless that is a refusal
abbrev pub and_then : Result (Unit {0}) TapeRefusal → Meaning → (Meaning → Laid) → Laid
and_then (Ok u) m next = next m
and_then (Err e) m next = record { answer = Err e; tape = m }

-- a code into the cell left of the head, which goes there
abbrev pub lay_one : ℕ → Meaning → Laid
lay_one c m = and_then (shift_answer m Left) (shift_after m Left) (λ n. record { answer = put_answer n c; tape = put_after n c })

-- a word's first code is laid when the others are; the first refusal ends it
abbrev pub laid : List ℕ → Meaning → Laid
laid [] m = record { answer = Ok tt; tape = m }
laid (c ∷ cs) m = and_then (laid cs m).answer (laid cs m).tape (lay_one c)

-- n blank cells with the head at h, each of which may become nonblank
abbrev pub blank_cells : ℕ → ℕ → Meaning
blank_cells n h = record { capacity = n; cells = replicate n 0; head = h }

-- n cells with a word from cell h on, the others blank, the head on cell h
abbrev pub word_cells : ℕ → ℕ → List ℕ → Meaning
word_cells n h word = record { capacity = n; cells = replicate h 0 ++ (word ++ replicate (n - (h + length word)) 0); head = h }
