use Rattle.std.proofs.Common.{◌≡◌, drop}
use Rattle.meaning.specs.Codes.{columns}
use Rattle.events.specs.Notes.{all_seen}
use Rattle.notes.specs.Switches.{switch_of}
use Rattle.notes.proofs.switches.OpenSwitch.covers.Given as goal

-- those that are left decide
abbrev pub invariant-loop-i : goal.invariant-loop-i
invariant-loop-i l = all_seen (columns l.letters) (switch_of l.self).seen ≡ all_seen (columns (drop l.i l.letters)) (switch_of l.self).seen
