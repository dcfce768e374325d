-- What the descent through the words of a readable source tells of it.
use Rattle.std.proofs.Common.{◌≡◌, [], length, Ok, Err, sym, ap, ◌∙◌, subst}
use Rattle.words.specs.Bytes.{Text}
use Rattle.words.specs.Words.{words}
use Rattle.meaning.specs.declared.faults.Fault.{Fault}
use Rattle.meaning.specs.Outcome.{outcome}
use Rattle.events.specs.Descent.{Outcome, made, fault, run, start}
use Rattle.events.specs.Notes.{State, empty_state, apply}
use Rattle.events.specs.Laws.{Noted, Tells, Descends}
use Rattle.events.proofs.Bridge.{follows}
use Rattle.events.proofs.Making.{makes_drafts}
use Rattle.events.proofs.Keeping.{keeps_all_from}
use Rattle.events.proofs.Descending.{descends_from}
use Rattle.notes.specs.Noted.{notes_of}
use Rattle.compiler.specs.declared.parser.Parser.{Parser}
use Rattle.compiler.specs.Reading.{source_of, running, state, Ends}
use Rattle.compiler.specs.Compiling.{Begins}

descends : Descends
descends = descends_from follows (keeps_all_from makes_drafts)

module _ (c d : Parser) where
  abbrev source : Text
  source = source_of c.lexer

  module _ (b : Begins c) where
    -- from the first word of a source, the way is that of the descent
    begun : running c.lexer start (state c []) ≡ run apply (length source) start empty_state (words source)
    unfolding running
    begun =
        ap (run apply (length source) start (state c [])) b.first
        ∙ ap (λ x. run apply (length source) start (record { notes = x; switches = [] }) (words source)) b.nothing

    -- so it tells
    tells : (o : Outcome State) → running c.lexer start (state c []) ≡ o → Tells source o
    tells o e = subst (Tells source) (sym begun ∙ e) (descends source b.readable.0 b.readable.1)

    pub faulty : (f : Fault) → Ends {A = Unit {0}} (Err f) start c d → outcome source ≡ Err f
    faulty f e = tells (fault f.cause f.place) e

    pub noted : Ends {A = Unit {0}} (Ok tt) start c d → Noted source (notes_of d.source.now d.notes)
    noted e = tells (made (state d [])) e
