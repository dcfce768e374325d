-- What the builder takes.
use Rattle.std.specs.Prelude.{◌≡◌, true, []}
use Rattle.grammar.specs.Tree.{Program}
use Rattle.meaning.specs.Blocks.{compiled}
use Rattle.meaning.specs.Faults.{faults}
use Rattle.program.specs.InRange.{in_range}

-- a program without violations is in range
abbrev pub AcceptedFit : Type 0
AcceptedFit = (t : Program) → faults t ≡ [] → in_range (compiled t) ≡ true
