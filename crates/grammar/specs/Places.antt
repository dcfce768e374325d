-- The places of faults: words with places are read as the words alone are, and a fault is told at the place of its word. In a source the
-- places count bytes, and the end's place is the length.
use Rattle.std.specs.Prelude.{◌≡◌, ℕ, zero, suc, List, [], ◌∷◌}
use Rattle.words.specs.Bytes.{Text}
use Rattle.words.specs.Words.{Word}
use Rattle.grammar.specs.Automaton.{Reading, parsed, unexpected, too_deep, parse_at, parse}

-- words without their places
abbrev pub texts : List Word → List Text
texts [] = []
texts (w ∷ ws) = w.text ∷ texts ws

-- the place of the word numbered k, or, where there is none, the end's, which is e
abbrev pub place_of : ℕ → List Word → ℕ → ℕ
place_of e [] k = e
place_of e (w ∷ ws) zero = w.place
place_of e (w ∷ ws) (suc k) = place_of e ws k

-- a reading with the places of words for their numbers
abbrev pub placed : {A : Type 0} → ℕ → List Word → Reading A → Reading A
placed e ws (parsed t) = parsed t
placed e ws (unexpected k) = unexpected (place_of e ws k)
placed e ws (too_deep k) = too_deep (place_of e ws k)

-- a fault is told at the place of its word, or of the end
abbrev pub TellsPlaces : Type 0
TellsPlaces = (e : ℕ) (ws : List Word) → parse_at e ws ≡ placed e ws (parse (texts ws))
