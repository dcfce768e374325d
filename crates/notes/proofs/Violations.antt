-- The lowest violation.
use Rattle.std.proofs.Common.{◌≡◌, ℕ, Bool, true, false, Some, None, Option, refl, arith}
use Rattle.std.proofs.lemmas.Bool.Decides.{nat_tests}
use Rattle.meaning.specs.declared.faults.Cause.{Cause}
use Rattle.meaning.specs.Faults.{Violation}
use Rattle.draft.specs.Draft.{met}
use Rattle.notes.specs.Kinds.{known_before}

-- where one is known before a place, none at that place changes it
pub met_behind : (b : Bool) (p : ℕ) (n : Cause) (v : Option Violation) → known_before p v ≡ true → met b p n v ≡ v
met_behind false p n v k = refl
met_behind true p n None k = cc
met_behind true p n (Some v) k = grind (arith, nat_tests)
