-- The derived orders of causes and of faults.
use Rattle.std.proofs.Common.{◌≡◌, arith}
use Rattle.std.proofs.lemmas.Bool.Decides.{nat_tests}
use Rattle.std.specs.Prelude.{Some}
use Rattle.std.specs.Ordering.{is_le, nat_cmp, ord_min}
use Rattle.meaning.specs.declared.faults.Cause.{Cause}
use Rattle.meaning.specs.declared.faults.Fault.{Fault}
use Rattle.meaning.specs.contracts.faults.CauseOrd.TheImpl as causes
use Rattle.meaning.specs.contracts.faults.FaultOrd.TheImpl as faults
use Rattle.meaning.specs.Numbers.{cause_number}
use Rattle.meaning.specs.Faults.{before, lower}
use Rattle.meaning.specs.FaultOrder.{violation_at, FaultsInOrder}

pub by_number : (c d : Cause) → (causes.ghosts).cmp c d ≡ nat_cmp (cause_number c) (cause_number d)
by_number c d = grind (arith, nat_tests)

pub by_place : (f g : Fault) → is_le ((faults.ghosts).cmp f g) ≡ before (violation_at f) (violation_at g)
by_place f g = grind (arith, nat_tests, by_number)

pub least : (f g : Fault) → violation_at (ord_min (faults.ghosts).cmp f g) ≡ lower (violation_at f) (Some (violation_at g))
least f g = grind (arith, nat_tests, by_number)

pub faults_in_order : FaultsInOrder
faults_in_order = record { by_number = by_number; by_place = by_place; least = least }
