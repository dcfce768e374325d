-- A tape with one byte a cell: what it means, and what it can be made of.
use Rattle.std.specs.Prelude.{ℕ, ◌≤◌, Bool, cond, ◌&&◌, List, [], ◌∷◌, length, Ok, Err, Result, nat_le, nat_lt}
use Rattle.std.proofs.Common.{arith}
use Rattle.std.proofs.lemmas.Bool.Decides.{nat_tests}
use Rattle.tape.specs.declared.dense.DenseTape.{DenseTape}
use Rattle.tape.specs.declared.kinds.TapeRefusal.{TapeRefusal}
use Rattle.tape.specs.declared.kinds.TapeRefusal.TheVariants.{Shape}
use Rattle.tape.specs.Meaning.{Meaning, Valid, nonblank, all_codes}

-- these cells and this head, each cell free to be nonblank
abbrev pub of_cells : List ℕ → ℕ → Meaning
of_cells cs h = record { capacity = length cs; cells = cs; head = h }

abbrev pub dense : DenseTape → Meaning
dense t = of_cells t.cells.now t.head

-- a tape can be made of these: 1 to 4,096 cells with codes, the head on one of them
abbrev pub dense_fits : List ℕ → ℕ → Bool
dense_fits cs h = nat_lt h (length cs) && (nat_le (length cs) 4096 && all_codes cs)

abbrev pub dense_check : List ℕ → ℕ → Result (Unit {0}) TapeRefusal
dense_check cs h = cond (dense_fits cs h) (Ok tt) (Err Shape)

-- no more cells are nonblank than there are
pub nonblank_most : (cs : List ℕ) → nonblank cs ≤ length cs
nonblank_most [] = omega arith
nonblank_most (c ∷ cs) = let rest : nonblank cs ≤ length cs = nonblank_most cs in grind (arith, nat_tests)

pub dense_sound : (t : DenseTape) → Valid (dense t)
dense_sound t =
    let within = nonblank_most t.cells.now in
    record { here = t.here; most = t.most; limit = omega arith; within = within; codes = t.codes }
