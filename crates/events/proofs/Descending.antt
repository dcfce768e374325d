-- What the descent comes to tells the outcome of a source.
use Rattle.std.proofs.Common.{◌≡◌, false, cond, ltb, length, Some, None, Option, sym, refl, ap, ◌∙◌, subst}
use Rattle.words.specs.Bytes.{Text, first_foreign}
use Rattle.words.specs.Words.{words}
use Rattle.grammar.specs.Tree.{Program}
use Rattle.grammar.specs.Automaton.{Reading, parsed, unexpected, too_deep, parse}
use Rattle.grammar.specs.Places.{texts, placed}
use Rattle.grammar.proofs.Places.{tells_places}
use Rattle.meaning.specs.declared.faults.Cause.TheVariants.{Length}
use Rattle.meaning.specs.Blocks.{compiled}
use Rattle.meaning.specs.Faults.{Violation}
use Rattle.meaning.specs.Outcome.{refused, worded, byted, outcome, compile_answer, compile_after}
use Rattle.draft.specs.Noted.{told as draft_told, finished as draft_finished}
use Rattle.draft.specs.Outcome.{source_letters, source_draft, drafted, stored}
use Rattle.draft.proofs.Outcome.{tells_outcome}
use Rattle.events.specs.Event.{events, played}
use Rattle.events.specs.Notes.{State, empty_state, apply}
use Rattle.events.specs.Laws.{places, read_as, Follows, KeepsAll, answered, Noted, Tells, Descends}

-- what a draft tells, as compile answers it
drafted_answer : (t : Program) (o : Option Violation) → compile_answer (drafted t o) ≡ answered o
drafted_answer t None = refl
drafted_answer t (Some v) = refl

module _ (keeps : KeepsAll) (source : Text) (short : ltb 60000 (length source) ≡ false) (bytes : first_foreign source ≡ None) where
  -- the state after the events of a program
  abbrev after : Program → State
  after t = played apply (events t) (places (words source)) empty_state

  -- the outcome is that of the words
  outcome_is : (r : Reading Program) → parse (texts (words source)) ≡ r → outcome source ≡ worded source r
  outcome_is r e = ap (λ b. cond b (refused Length 60000) (byted source (first_foreign source))) short ∙ ap (byted source) bytes ∙ ap (worded source) e

  -- what the notes of a program's events tell
  noted : (t : Program) → parse (texts (words source)) ≡ parsed t → Noted source (after t).notes
  noted t e =
      let k = keeps source t short e in
      let o = tells_outcome source t short bytes e in
      record {
        answers = ap compile_answer o.answers ∙ drafted_answer t (draft_told (source_draft source t)) ∙ ap answered (sym k.tells);
        accepts = λ n.
            let d : draft_told (source_draft source t) ≡ None = sym k.tells ∙ n in
            let ok = o.answers ∙ ap (drafted t) d in
            let all = draft_finished (source_letters source t) (source_draft source t) in
            (t, ok, k.stores n ∙ sym (ap (compile_after (compiled t)) (sym ok) ∙ o.stores (compiled t) ∙ ap (λ v. stored (compiled t) v all) d));
      }

  -- whatever the grammar reads
  tells : (r : Reading Program) → parse (texts (words source)) ≡ r → Tells source (read_as after (placed (length source) (words source) r))
  tells (parsed t) e = noted t e
  tells (unexpected i) e = outcome_is (unexpected i) e
  tells (too_deep i) e = outcome_is (too_deep i) e

-- where the descent reads what the grammar reads, and memory of fixed size keeps all that matters
pub descends_from : Follows → KeepsAll → Descends
descends_from follows keeps source short bytes =
    let e = follows source ∙ ap (read_as (after keeps source short bytes)) (tells_places (length source) (words source)) in
    subst (Tells source) (sym e) (tells keeps source short bytes (parse (texts (words source))) refl)
