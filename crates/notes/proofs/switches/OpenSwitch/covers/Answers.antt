use Rattle.std.proofs.Common.{Bool, List, ℕ, arith}
use Rattle.std.proofs.lemmas.Bool.Decides.{nat_tests}
use Rattle.std.proofs.lemmas.List.{at_drop_more, at_drop_all}
use Rattle.meaning.specs.Codes.{columns}
use Rattle.events.specs.Notes.{all_seen}
use Rattle.notes.specs.Switches.{switch_of}
use Rattle.notes.proofs.switches.OpenSwitch.covers.Goals as goal

-- whether those that are left were seen
seen_of : List Bool → List ℕ → Bool
seen_of seen letters = all_seen (columns letters) seen

pub returns-then-not-has_seen : goal.returns-then-not-has_seen
unfolding seen_of
returns-then-not-has_seen c = grind (arith, nat_tests, at_drop_more (seen_of (switch_of c.args.self.now).seen) c.args.letters.now c.loop-i.i 0)

pub loop-i-preserved : goal.loop-i-preserved
unfolding seen_of
loop-i-preserved c = grind (arith, nat_tests, at_drop_more (seen_of (switch_of c.args.self.now).seen) c.args.letters.now c.loop-i.i 0)

pub returns : goal.returns
unfolding seen_of
returns c = grind (arith, nat_tests, at_drop_all (seen_of (switch_of c.args.self.now).seen) c.args.letters.now c.loop-i.i)
