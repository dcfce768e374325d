use Rattle.std.proofs.Common.{◌≡◌, drop}
use Rattle.program.specs.Place.{columns_of, count_of}
use Rattle.program.specs.Built.{built}
use Rattle.program.specs.InRange.{blocks_fit}
use Rattle.program.proofs.builder.Builder.blocks_fit.Given as goal

-- the blocks fit where those that are left do
abbrev pub invariant-loop-number : goal.invariant-loop-number
invariant-loop-number l =
    let s = l.self.store in
    blocks_fit (columns_of s) (count_of s) (built l.self).blocks ≡ blocks_fit (columns_of s) (count_of s) (drop l.number (built l.self).blocks)
