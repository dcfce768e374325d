-- Published examples of the language, executed on tapes without ends.
use Rattle.std.specs.Prelude.{◌≡◌, ℕ, List, [], ◌∷◌, ◌++◌, map, ℤ, pos, negsuc, Some, None, Ok, Err, codes, Option, Result}
use Rattle.words.specs.Bytes.{Text}
use Rattle.grammar.specs.Tree.{Program}
use Rattle.meaning.specs.declared.calls.Status.{Status}
use Rattle.meaning.specs.declared.calls.Status.TheVariants.{Going, Accepted, Rejected}
use Rattle.meaning.specs.declared.faults.Fault.{Fault}
use Rattle.meaning.specs.Blocks.{compiled}
use Rattle.meaning.specs.Rules.{translation}
use Rattle.meaning.specs.Outcome.{outcome}
use Rattle.meaning.specs.Endless.{After, at, accepts, rejects, Moment}
use Rattle.meaning.specs.Language.{first_point, execute}
use Rattle.meaning.specs.TuringMachine.{machine}
use Rattle.meaning.specs.Follows.{unbounded}

-- the status of an execution
abbrev pub status_of : {S : Type 0} → After S → Status
status_of (at s) = Going
status_of accepts = Accepted
status_of rejects = Rejected

-- the status, the index, and the cells from -1 to 3
abbrev pub Seen : Type 0
Seen = Status × ℤ × List ℕ

-- what is seen of an execution
abbrev pub seen : {S : Type 0} → Moment S → Seen
seen m = (status_of m.control, m.index, map m.tape (negsuc 0 ∷ pos 0 ∷ pos 1 ∷ pos 2 ∷ pos 3 ∷ []))

-- n steps on a word that begins at 0: by the language, and by the Turing machine
abbrev pub executed : Result Program Fault → ℕ → List ℕ → Option (Seen × Seen)
executed (Ok t) n word =
    let T = unbounded (record { capacity = 0; cells = word; head = 0 }) in
    Some (seen (execute t n (record { tape = T; index = pos 0; control = at (first_point t) })), seen (machine (translation (compiled t)) n (record { tape = T; index = pos 0; control = at 0 })))
executed (Err f) n word = None

-- both executions show this
abbrev pub both : Seen → Option (Seen × Seen)
both s = Some (s, s)

-- erases a letter, goes to the word's end and erases the same letter there
abbrev pub half : Text → Text → Text
half own other = codes "changeto blank move right while a, b { move right } if blank { move left if blank, " ++ own ++ codes " { changeto blank move left goto restart } if " ++ other ++ codes " { reject } }"

-- accepts the palindromes
abbrev pub palindrome : Text
palindrome = codes "alphabet = {a, b} module palindrome { if blank { accept } if a { " ++ half (codes "a") (codes "b") ++ codes " } if b { " ++ half (codes "b") (codes "a") ++ codes " } } module restart { while a, b { move left } if blank { move right goto palindrome } }"

-- accepts the words whose second letter is a
abbrev pub second_a : Text
second_a = codes "alphabet = {a, b} module isSecondValueA { move right if a { accept } if b, blank { reject } }"

-- what the examples come to
pub record Examples : Type 0 where
  pub halfway : executed (outcome palindrome) 5 (1 ∷ 2 ∷ 1 ∷ []) ≡ both (Going, pos 1, 0 ∷ 0 ∷ 2 ∷ 0 ∷ 0 ∷ [])
  pub aba : executed (outcome palindrome) 12 (1 ∷ 2 ∷ 1 ∷ []) ≡ both (Accepted, pos 0, 0 ∷ 0 ∷ 0 ∷ 0 ∷ 0 ∷ [])
  pub ab : executed (outcome palindrome) 20 (1 ∷ 2 ∷ []) ≡ both (Rejected, pos 0, 0 ∷ 0 ∷ 2 ∷ 0 ∷ 0 ∷ [])
  pub second : executed (outcome second_a) 9 (2 ∷ 1 ∷ []) ≡ both (Accepted, pos 0, 0 ∷ 2 ∷ 1 ∷ 0 ∷ 0 ∷ [])
