use Rattle.std.proofs.Common.{◌+◌, ◌*◌, [], ◌∷◌, length}
use Rattle.events.specs.Event.{begin_switch}
use Rattle.events.specs.Descent.{acted_end, cases_end}
use Rattle.events.specs.Notes.{apply}
use Rattle.compiler.specs.Reading.{rest, around, Onward, Same, entering, state, awaiting, awaiting_in}
use Rattle.compiler.proofs.parser.Parser.+in_case.Given as goal

abbrev pub decreases-body : goal.decreases-body
decreases-body l = 7 * l.room.cases + 6

abbrev pub decreases-commands : goal.decreases-commands
decreases-commands l = 7 * l.room.cases + 5

abbrev pub decreases-acted : goal.decreases-acted
decreases-acted l = 7 * l.room.cases + 4

abbrev pub decreases-last : goal.decreases-last
decreases-last l = 7 * l.room.cases + 3

abbrev pub decreases-next_switch : goal.decreases-next_switch
decreases-next_switch l = 7 * l.first.room.cases + 2

abbrev pub decreases-switch : goal.decreases-switch
decreases-switch l = 7 * l.first.room.cases + 1

abbrev pub decreases-case : goal.decreases-case
decreases-case l = 7 * l.case.room.cases

abbrev pub invariant-acted-loop-word : goal.invariant-acted-loop-word
invariant-acted-loop-word l =
    let items = acted_end (around l.room) ∷ [] in
    Onward l.initial.self.lexer l.self.lexer × Same (awaiting items l.initial.self) (awaiting items l.self)

abbrev pub decreases-acted-loop-word : goal.decreases-acted-loop-word
decreases-acted-loop-word l = length (rest l.self.lexer)

abbrev pub invariant-switch-loop-word : goal.invariant-switch-loop-word
invariant-switch-loop-word l =
    let items = cases_end (around l.first.room) ∷ [] in
    Onward l.fn.self.lexer l.self.lexer
    × Same (λ k os. entering l.fn.self.lexer l.first k (apply begin_switch l.first.place (state l.fn.self os))) (awaiting_in items l.self l.switch)

abbrev pub decreases-switch-loop-word : goal.decreases-switch-loop-word
decreases-switch-loop-word l = length (rest l.self.lexer)
