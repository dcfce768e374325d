-- What an open switch means.
use Rattle.std.specs.Prelude.{ℕ, false, [], replicate}
use Rattle.events.specs.Notes.{Open}
use Rattle.notes.specs.declared.switches.OpenSwitch.{OpenSwitch}
use Rattle.notes.specs.Kinds.{codes_of}

-- an open switch
unfoldable pub switch_of : OpenSwitch → Open
switch_of o = record { number = o.number; first = o.first; seen = o.seen; codes = codes_of o.codes }

-- one before its first symbol
unfoldable pub empty_switch : ℕ → ℕ → Open
empty_switch q p = record { number = q; first = p; seen = replicate 37 false; codes = [] }
