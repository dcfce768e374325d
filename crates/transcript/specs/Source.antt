-- The faults of a source that its length and its bytes tell, and the line that tells a fault.
use Rattle.std.specs.Prelude.{ℕ, cond, List, [], ◌∷◌, ◌++◌, length, Some, codes, decimal, Option, nat_lt}
use Rattle.std.specs.Option.{option_map}
use Rattle.words.specs.Bytes.{first_foreign}
use Rattle.meaning.specs.declared.faults.Cause.TheVariants.{Length, Byte}
use Rattle.meaning.specs.declared.faults.Fault.{Fault}
use Rattle.meaning.specs.Numbers.{cause_number}
use Rattle.meaning.specs.Outcome.{fault}

-- more than 60,000 bytes, or else the first foreign byte
abbrev pub bytes_fault : List ℕ → Option Fault
bytes_fault source = cond (nat_lt 60000 (length source)) (Some (fault Length 60000)) (option_map (fault Byte) (first_foreign source))

-- `refused N at P`, ended by LF (10)
abbrev pub fault_line : Fault → List ℕ
fault_line f = codes "refused " ++ (decimal (cause_number f.cause) ++ (codes " at " ++ (decimal f.place ++ (10 ∷ []))))
