use Rattle.std.proofs.Common.{◌≡◌, ◌+◌, drop}
use Rattle.program.specs.Arms.{codes_of, codes_put}
use Rattle.program.proofs.arms.write_codes.Given as goal

abbrev pub invariant-loop-i : goal.invariant-loop-i
invariant-loop-i l = codes_put (l.base + l.i) (codes_of (drop l.i l.arms)) l.order ≡ codes_put l.base (codes_of l.arms) l.initial.order
