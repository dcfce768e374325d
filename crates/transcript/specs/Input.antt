-- The parts of an input: a source up to the first `%`, and a word behind it.
use Rattle.std.specs.Prelude.{ℕ, List, ◌==◌}
use Rattle.std.specs.List.{after_first, before_first}

-- the source: up to the first `%` (37) or the end
abbrev pub source_text : List ℕ → List ℕ
source_text input = before_first (λ b. b == 37) input

-- the word's text: behind the first `%` (37), up to LF (10) or the end
abbrev pub word_text : List ℕ → List ℕ
word_text input = before_first (λ b. b == 10) (after_first (λ b. b == 37) input)
