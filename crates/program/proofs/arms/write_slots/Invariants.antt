use Rattle.std.proofs.Common.{◌≡◌, drop}
use Rattle.meaning.specs.Codes.{columns}
use Rattle.alphabet.specs.Alphabets.{letters_of}
use Rattle.program.specs.Arms.{slots_put}
use Rattle.program.proofs.arms.write_slots.Given as goal

abbrev pub invariant-loop-arm : goal.invariant-loop-arm
invariant-loop-arm l = slots_put (columns (letters_of l.alphabet)) l.base (drop l.arm-index l.arms) l.slots ≡ slots_put (columns (letters_of l.alphabet)) l.base l.arms l.initial.slots
