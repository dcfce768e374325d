use Rattle.std.proofs.Common.{[], ◌∷◌, length}
use Rattle.events.specs.Descent.{a_letter, letters_end}
use Rattle.compiler.specs.Reading.{rest, Onward, Same, awaiting}
use Rattle.compiler.proofs.parser.Parser.letters.Given as goal

abbrev pub invariant-loop-letter : goal.invariant-loop-letter
invariant-loop-letter l =
    let items = a_letter ∷ letters_end ∷ [] in
    Onward l.initial.self.lexer l.self.lexer × Same (awaiting items l.initial.self) (awaiting items l.self)

abbrev pub decreases-loop-letter : goal.decreases-loop-letter
decreases-loop-letter l = length (rest l.self.lexer)
