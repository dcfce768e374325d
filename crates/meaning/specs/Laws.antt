-- What holds of runs.
use Rattle.std.specs.Prelude.{◌≡◌, ℕ, ◌+◌, ◌≤◌, true, List, Some, None, Err, Option, nat_lt}
use Rattle.tape.specs.declared.kinds.Direction.{Direction}
use Rattle.tape.specs.declared.kinds.TapeRefusal.TheVariants.{Shape}
use Rattle.tape.specs.Meaning.{Meaning, Valid, put_answer, shift_answer}
use Rattle.meaning.specs.declared.calls.Ending.{Ending}
use Rattle.meaning.specs.declared.calls.Ending.TheVariants.{Spent, Accepted, Rejected, Refused}
use Rattle.meaning.specs.declared.calls.Call.{Call}
use Rattle.meaning.specs.Codes.{member}
use Rattle.meaning.specs.Blocks.{Compiled}
use Rattle.meaning.specs.Rules.{Rules, by_blocks, by_table, translation}
use Rattle.meaning.specs.Runs.{Config, Went, go_of, play}

-- a program's blocks and its table give equal answers and equal configurations, for every list of calls and every configuration
abbrev pub Agreement : Type 0
Agreement = (p : Compiled) (cs : List Call) (k : Config) → play (by_blocks p) cs k ≡ play (by_table (translation p)) cs k

-- two go answers joined: the second's with the first's count added if the first was spent, else the first's; the configuration is the second's
abbrev pub join_pairs : ℕ → Ending → Went → Went
join_pairs m Spent w = record { count = m + w.count; ending = w.ending; config = w.config }
join_pairs m Accepted w = record { count = m; ending = Accepted; config = w.config }
join_pairs m Rejected w = record { count = m; ending = Rejected; config = w.config }
join_pairs m (Refused r) w = record { count = m; ending = Refused r; config = w.config }

-- go m, and then go n from where that ended, joined, is go (m + n)
abbrev pub Composition : Type 0
Composition = (R : Rules) (m n : ℕ) (k : Config) → m + n ≤ 65535 → join_pairs (go_of R m k).count (go_of R m k).ending (go_of R n (go_of R m k).config) ≡ go_of R (m + n) k

-- a code, if anything is written
abbrev pub SmallWrite : Option ℕ → Type 0
SmallWrite None = Unit {0}
SmallWrite (Some c) = c ≤ 36

-- a machine writes codes only
abbrev pub WritesCodes : Rules → Type 0
WritesCodes R = (q c : ℕ) → nat_lt q R.numbers ≡ true → member c R.symbols ≡ true → SmallWrite (R.action q c).write

-- every call keeps the ranges of a tape
abbrev pub KeepsTapes : Type 0
KeepsTapes = (R : Rules) → WritesCodes R → (cs : List Call) (k : Config) → Valid k.tape → Valid (play R cs k).1.tape

-- no call on a tape answers Shape, so that each of its refusals is a run's
pub record NoShape : Type 0 where
  pub put : (t : Meaning) (c : ℕ) → ¬ (put_answer t c ≡ Err Shape)
  pub shift : (t : Meaning) (d : Direction) → ¬ (shift_answer t d ≡ Err Shape)
