-- Events, played from a word on.
use Rattle.std.proofs.Common.{ℕ, suc, List, [], ◌∷◌}
use Rattle.draft.specs.Draft.{Letters, Draft}
use Rattle.draft.specs.Building.{Current}
use Rattle.events.specs.Event.{Event}
use Rattle.events.specs.Noting.{Open, State, noting}

-- a state by its parts
abbrev pub state : Letters → List Open → Current → Draft → State
state a os c x = record { letters = a; draft = x; current = c; switches = os }

-- what events make of a state, the first of them at the word i
abbrev pub from : ℕ → List Event → State → State
from i [] s = s
from i (e ∷ es) s = from (suc i) es (noting e i s)
