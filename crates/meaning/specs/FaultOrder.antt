-- The derived orders: causes go by their numbers, and faults as their violations do, by their places and there by their causes.
use Rattle.std.specs.Prelude.{◌≡◌, Some}
use Rattle.std.specs.Ordering.{is_le, nat_cmp, ord_min}
use Rattle.meaning.specs.declared.faults.Cause.{Cause}
use Rattle.meaning.specs.declared.faults.Fault.{Fault}
use Rattle.meaning.specs.contracts.faults.CauseOrd.TheImpl as causes
use Rattle.meaning.specs.contracts.faults.FaultOrd.TheImpl as faults
use Rattle.meaning.specs.Numbers.{cause_number}
use Rattle.meaning.specs.Faults.{Violation, before, lower}

-- a fault as a violation, whose index is the fault's place
abbrev pub violation_at : Fault → Violation
violation_at f = record { index = f.place; cause = f.cause }

-- the derived orders are those of the rules
pub record FaultsInOrder : Type 0 where
  pub by_number : (c d : Cause) → (causes.ghosts).cmp c d ≡ nat_cmp (cause_number c) (cause_number d)
  pub by_place : (f g : Fault) → is_le ((faults.ghosts).cmp f g) ≡ before (violation_at f) (violation_at g)
  -- and so the lesser of two faults is the lower violation
  pub least : (f g : Fault) → violation_at (ord_min (faults.ghosts).cmp f g) ≡ lower (violation_at f) (Some (violation_at g))
