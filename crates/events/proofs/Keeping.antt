-- What is kept in memory of fixed size tells what the draft of the tree tells, and stores its program.
use Rattle.std.proofs.Common.{◌≡◌, ℕ, suc, ◌≤◌, List, [], ◌∷◌, length, Some, None, Option, sym, refl, ap, ◌∙◌, subst, ap₂, arith}
use Rattle.std.proofs.lemmas.Bool.{ltb-false}
use Rattle.words.specs.Words.{words}
use Rattle.meaning.specs.Blocks.{Compiled}
use Rattle.meaning.specs.Faults.{Violation, faults, lowest, first_fault}
use Rattle.meaning.specs.Tables.{Each}
use Rattle.draft.specs.Draft.{Pending, Letters, Draft, first_number}
use Rattle.draft.specs.Building.{Current}
use Rattle.draft.specs.Noted.{letters_of, draft_of, told as draft_told, finished as draft_finished}
use Rattle.draft.specs.Outcome.{source_letters, source_draft}
use Rattle.draft.specs.Places.{lowest_at, gotos_at, NotesPlaces, place_at}
use Rattle.draft.proofs.Tells.{tells_first}
use Rattle.draft.proofs.Keeps.{finishes}
use Rattle.draft.proofs.Placing.{keeps_places}
use Rattle.draft.proofs.Outcome.{places_rise}
use Rattle.draft.proofs.Counts.{bounds}
use Rattle.events.specs.Event.{events, played}
use Rattle.events.specs.Noting as noting
use Rattle.events.specs.Notes.{apply, empty_state, told, program_noted}
use Rattle.events.specs.Laws.{places, listed, Makes, MakesDrafts, KeepsAll}
use Rattle.events.proofs.Capping.{cut_notes, cut_state, events_cut}
use Rattle.events.proofs.Lengths.{events_words, listed_places, words_few}
use Rattle.events.proofs.Arms.{Few, blocks_few, kinds_whole}

-- gotos by places are as many
gotos_length : (at : ℕ → ℕ) (gs : List Pending) → length (gotos_at at gs) ≡ length gs
gotos_length at [] = refl
gotos_length at (g ∷ gs) = ap suc (gotos_length at gs)

-- no lowest violation, so none
lowest_none : (fs : List Violation) → lowest fs ≡ None → fs ≡ []
lowest_none [] h = refl
lowest_none (f ∷ fs) h = let z : ◌≡◌ {A = ℕ} 0 1 = cc in absurd (omega arith)

-- none by its place, so none
none_at : (at : ℕ → ℕ) (o : Option Violation) → lowest_at at o ≡ None → o ≡ None
none_at at None h = refl
none_at at (Some v) h = let z : ◌≡◌ {A = ℕ} 0 1 = cc in absurd (omega arith)

-- notes cut to size tell the same
told_cut : (a : Letters) (x : Draft) (c : Current) → told (cut_notes a x c) ≡ draft_told x
unfolding told
told_cut a x c = refl

-- and stand for the same program, where its switches have few arms
program_cut : (a : Letters) (x : Draft) (c : Current) → Each Few (draft_finished a x).blocks → program_noted (cut_notes a x c) ≡ draft_finished a x
unfolding program_noted
program_cut a x c h = λ j. record { letters = a.letters; blocks = kinds_whole (first_number x.names) x.blocks h j }

-- where events make of a draft what the tree makes, memory of fixed size keeps all that matters
pub keeps_all_from : MakesDrafts → KeepsAll
keeps_all_from makes source t short e = record {
  tells = ap told noted ∙ told_cut a x c;
  stores = λ n. ap program_noted noted ∙ program_cut a x c (few (sym (ap told noted ∙ told_cut a x c) ∙ n));
}
  where
    at : ℕ → ℕ
    at = place_at source

    m : Makes at t
    m = makes at (places_rise source).rise t

    u : noting.State
    u = played noting.noting (events t) (listed at 0 (events t)) noting.empty_state

    a : Letters
    a = source_letters source t

    x : Draft
    x = source_draft source t

    c : Current
    c = u.current

    cut : played apply (events t) (listed at 0 (events t)) empty_state ≡ cut_state u
    cut =
        let small : length source ≤ 60000 = ltb-false 60000 (length source) short in
        let b = bounds source t small e in
        events_cut (events t) (listed at 0 (events t))
        (omega (arith, ap (λ (y : Draft). length y.names) m.draft, b.names))
        (omega (arith, ap (λ (y : Draft). length y.gotos) m.draft, gotos_length at (draft_of t).gotos, b.gotos))
        (omega (arith, events_words source t e, words_few source))

    noted : (played apply (events t) (places (words source)) empty_state).notes ≡ cut_notes a x c
    noted =
        ap (λ (ps : List ℕ). (played apply (events t) ps empty_state).notes) (sym (listed_places source t e)) ∙ (λ j. (cut j).notes)
        ∙ ap₂ (λ (b : Letters) (y : Draft). cut_notes b y c) m.letters m.draft

    placing : NotesPlaces at
    placing = keeps_places at (places_rise source).rise

    few : draft_told x ≡ None → Each Few (draft_finished a x).blocks
    few n =
        let f : first_fault t ≡ None = none_at at (first_fault t) (sym (placing.tell (draft_of t) ∙ ap (lowest_at at) (tells_first t)) ∙ n) in
        subst (λ (p : Compiled). Each Few p.blocks) (sym (placing.finish (letters_of t) (draft_of t) ∙ finishes t f)) (blocks_few t (lowest_none (faults t) f))
