use Rattle.std.proofs.Common.{[], ◌∷◌, length}
use Rattle.events.specs.Descent.{a_symbol, symbols_end}
use Rattle.compiler.specs.Reading.{rest, Onward, Same, awaiting_in}
use Rattle.compiler.proofs.parser.Parser.symbols.Given as goal

abbrev pub invariant-loop-symbol : goal.invariant-loop-symbol
invariant-loop-symbol l =
    let items = a_symbol ∷ symbols_end ∷ [] in
    Onward l.initial.self.lexer l.self.lexer × Same (awaiting_in items l.initial.self l.initial.switch) (awaiting_in items l.self l.switch)

abbrev pub decreases-loop-symbol : goal.decreases-loop-symbol
decreases-loop-symbol l = length (rest l.self.lexer)
