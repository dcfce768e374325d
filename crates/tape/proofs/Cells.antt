-- Where a cell is blank there is room for one nonblank cell more.
use Rattle.std.proofs.Common.{◌≡◌, ℕ, zero, suc, ◌<◌, List, [], ◌∷◌, length, get_or, arith}
use Rattle.std.proofs.lemmas.Bool.Decides.{nat_tests}
use Rattle.tape.specs.Meaning.{nonblank}
use Rattle.tape.specs.Dense.{nonblank_most}

pub blank_room : (cs : List ℕ) (h : ℕ) → h < length cs → get_or cs h 0 ≡ 0 → nonblank cs < length cs
blank_room [] h k e = absurd (omega arith)
blank_room (x ∷ cs) zero k e = let rest = nonblank_most cs in grind (arith, nat_tests)
blank_room (x ∷ cs) (suc h) k e = let rest = blank_room cs h (omega arith) e in grind (arith, nat_tests)
