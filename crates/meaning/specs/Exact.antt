-- What each outcome of a source means, in the words of the subject, and the theorem that exactly the right one is told.
use Rattle.std.specs.Prelude.{◌≡◌, ℕ, ◌<◌, ◌≤◌, ◌↔◌, length, Some, None, Ok, Err, Result}
use Rattle.words.specs.Bytes.{Text, FirstForeign}
use Rattle.words.specs.Words.{words}
use Rattle.grammar.specs.Tree.{Program}
use Rattle.grammar.specs.Places.{texts}
use Rattle.grammar.specs.Laws.{IsParse, IsFault, IsTooDeep}
use Rattle.meaning.specs.declared.faults.Cause.TheVariants.{Length, Byte, Word, Depth}
use Rattle.meaning.specs.declared.faults.Fault.{Fault}
use Rattle.meaning.specs.Faults.{Violation, faults, IsLowest}
use Rattle.meaning.specs.RuleLaws.{KeepsRules}
use Rattle.meaning.specs.Outcome.{fault, place_in, outcome}

-- a source that is not too long, and of which no byte is foreign
pub record Readable (source : Text) : Type 0 where
  pub short : length source ≤ 60000
  pub bytes : FirstForeign source None

-- the source is that of a program with no case too deep, which keeps the rules
pub record Accepted (source : Text) (t : Program) : Type 0 where
  pub readable : Readable source
  pub parse : IsParse (texts (words source)) t
  pub rules : KeepsRules t

-- the source has this fault
pub data Refused (source : Text) (f : Fault) : Type 0 where
  -- it is too long
  too_long : 60000 < length source → f ≡ fault Length 60000 → Refused source f
  -- the first foreign byte
  foreign : (p : ℕ) → length source ≤ 60000 → FirstForeign source (Some p) → f ≡ fault Byte p → Refused source f
  -- the first word after which no program goes on, or the end
  unexpected : (i : ℕ) → Readable source → IsFault (texts (words source)) i → f ≡ fault Word (place_in source i) → Refused source f
  -- the first case too deep
  too_deep : (i : ℕ) → Readable source → IsTooDeep (texts (words source)) i → f ≡ fault Depth (place_in source i) → Refused source f
  -- the lowest violation of a rule
  broken : (t : Program) (v : Violation) → Readable source → IsParse (texts (words source)) t → IsLowest v (faults t) → f ≡ fault v.cause (place_in source v.index) → Refused source f

-- what an outcome says of a source
abbrev pub Means : Text → Result Program Fault → Type 0
Means source (Ok t) = Accepted source t
Means source (Err f) = Refused source f

-- an outcome is told exactly when what it says holds
abbrev pub Exact : Type 0
Exact = (source : Text) (r : Result Program Fault) → (outcome source ≡ r) ↔ Means source r
