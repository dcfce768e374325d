-- A fault is told at the place of its word.
use Rattle.std.proofs.Common.{◌≡◌, ℕ, List, sym, ap, ◌∙◌}
use Rattle.words.specs.Words.{Word}
use Rattle.grammar.specs.Tree.{Program}
use Rattle.grammar.specs.Automaton.{Reading, parsed, unexpected, too_deep, parse_at, parse}
use Rattle.grammar.specs.Places.{texts, placed, TellsPlaces}
use Rattle.grammar.proofs.Programs.{MeansAt, parse_at_means}
use Rattle.grammar.proofs.Laws.{exact}

-- an answer that is right for words with places is the one for the words, placed
placed_means : (e : ℕ) (ws : List Word) (r : Reading Program) → MeansAt e ws r → r ≡ placed e ws (parse (texts ws))
placed_means e ws (parsed t) h = ap (placed e ws) (sym ((exact (texts ws) (parsed t)).1 h))
placed_means e ws (unexpected p) (i, f, h) = ap {B = Reading Program} unexpected (sym h) ∙ ap (placed e ws) (sym ((exact (texts ws) (unexpected i)).1 f))
placed_means e ws (too_deep p) (i, d, h) = ap {B = Reading Program} too_deep (sym h) ∙ ap (placed e ws) (sym ((exact (texts ws) (too_deep i)).1 d))

-- so it is with the answer that is given
pub tells_places : TellsPlaces
tells_places e ws = placed_means e ws (parse_at e ws) (parse_at_means e ws)
