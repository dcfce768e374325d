use Rattle.std.proofs.Common.{◌≡◌, take}
use Rattle.bounded.specs.Inline.{items_of}
use Rattle.meaning.specs.Blocks.{settled_arms}
use Rattle.draft.specs.Draft.{first_number}
use Rattle.program.specs.Store.{arms_as}
use Rattle.program.specs.Arms.{arms_in}
use Rattle.notes.specs.Kinds.{entries_of, text_in}
use Rattle.notes.proofs.notes.settling.settle_arms.Given as goal

-- the arms so far are settled
abbrev pub invariant-loop-arm : goal.invariant-loop-arm
invariant-loop-arm l = arms_in (items_of l.settled) ≡ settled_arms (first_number (entries_of l.source l.modules)) (arms_as (text_in l.source) (take l.arm-index l.arm-items))
