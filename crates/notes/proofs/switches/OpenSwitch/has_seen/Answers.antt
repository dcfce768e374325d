use Rattle.std.proofs.Common.{false, ap, ◌∙◌, unwrap_or, arith}
use Rattle.notes.specs.Switches.{switch_of}
use Rattle.notes.proofs.switches.OpenSwitch.has_seen.Goals as goal

pub returns : goal.returns
unfolding switch_of
returns c = c.unwrap_or.ensures ∙ ap (λ o. unwrap_or o false) c.copied.ensures ∙ c.get.ensures.lookup.4 (omega arith) false
