use Rattle.std.proofs.Common.{ℕ, Bool, arith}
use Rattle.std.proofs.lemmas.List.{set_past}
use Rattle.std.proofs.lemmas.Bool.Decides.{nat_tests}
use Rattle.events.specs.Notes.{symbol_seen}
use Rattle.notes.specs.Switches.{switch_of}
use Rattle.notes.proofs.Lists.{extended_kept}
use Rattle.notes.proofs.switches.OpenSwitch.see.Goals as goal

pub returns-then-code-lt37 : goal.returns-then-code-lt37
unfolding switch_of symbol_seen
returns-then-code-lt37 c = grind (arith, nat_tests, extended_kept {A = ℕ})

pub returns-else-code-lt37 : goal.returns-else-code-lt37
unfolding switch_of symbol_seen
returns-else-code-lt37 c = grind (arith, nat_tests, extended_kept {A = ℕ}, set_past {X = Bool})
