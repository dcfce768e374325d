use Rattle.std.proofs.Common.{◌≡◌, ◌++◌, take}
use Rattle.bounded.specs.Inline.{items_of}
use Rattle.words.specs.Bytes.{Text}
use Rattle.meaning.specs.Blocks.{lead}
use Rattle.events.specs.Notes.{most_arms}
use Rattle.program.specs.Store.{basic_as, arms_as}
use Rattle.notes.proofs.notes.rows.with_arms.Given as goal

-- the arms of the symbols so far are added
abbrev pub invariant-loop-code : goal.invariant-loop-code
invariant-loop-code g l = (target : g.row.G.Denot → Text) → arms_as target (items_of l.arms) ≡ take most_arms (arms_as target (items_of l.initial.arms) ++ lead (take l.code-index l.codes) (basic_as target l.basic))
