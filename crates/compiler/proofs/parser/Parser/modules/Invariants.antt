use Rattle.std.proofs.Common.{◌≡◌, [], length}
use Rattle.events.specs.Descent.{modules}
use Rattle.compiler.specs.Reading.{rest, running, state, Onward}
use Rattle.compiler.proofs.parser.Parser.modules.Given as goal

abbrev pub invariant-loop-word : goal.invariant-loop-word
invariant-loop-word l =
    Onward l.initial.self.lexer l.self.lexer × (running l.initial.self.lexer modules (state l.initial.self []) ≡ running l.self.lexer modules (state l.self []))

abbrev pub decreases-loop-word : goal.decreases-loop-word
decreases-loop-word l = length (rest l.self.lexer)
