use Rattle.std.proofs.Common.{◌≡◌, drop}
use Rattle.program.specs.Built.{built}
use Rattle.program.specs.Taken.{takes_blocks, with_blocks}
use Rattle.notes.specs.Settled.{kinds_settled}
use Rattle.notes.proofs.notes.building.push_blocks.Given as goal

-- the blocks that are left are taken as all of them are, and come behind those so far
abbrev pub invariant-loop-block : goal.invariant-loop-block
invariant-loop-block l =
    (takes_blocks (built l.builder) (kinds_settled l.source l.modules (drop l.block-index l.rows)) ≡ takes_blocks (built l.initial.builder) (kinds_settled l.source l.modules l.rows))
    × (with_blocks (built l.builder) (kinds_settled l.source l.modules (drop l.block-index l.rows)) ≡ with_blocks (built l.initial.builder) (kinds_settled l.source l.modules l.rows))
