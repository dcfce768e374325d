use Rattle.std.proofs.Common.{◌≡◌, length}
use Rattle.alphabet.proofs.Places.{apart}
use Rattle.alphabet.proofs.letters.operations.are_letters.Given as goal

abbrev pub invariant-loop-code : goal.invariant-loop-code
invariant-loop-code l = apart l.codes ≡ apart l.rest

abbrev pub decreases-loop-code : goal.decreases-loop-code
decreases-loop-code l = length l.rest
