-- The places of words rise, and the outcome of a source is told by the draft by places.
use Rattle.std.proofs.Common.{◌≡◌, ℕ, zero, suc, ◌+◌, ◌-◌, ◌<◌, ◌≤◌, cond, ◌⊎◌, List, [], ◌∷◌, length, Some, None, Option, sym, refl, ap, ◌∙◌, inl, inr, arith}
use Rattle.std.specs.List.{AllByRecursion}
use Rattle.words.specs.Bytes.{Text, first_foreign}
use Rattle.words.specs.Words.{Word, words}
use Rattle.words.specs.Stretches.{end, Stretch, Single, Longest, Apart}
use Rattle.words.proofs.Unique.{only_words}
use Rattle.grammar.specs.Render.{render}
use Rattle.grammar.specs.Places.{texts, place_of}
use Rattle.grammar.proofs.Laws.{reads_programs}
use Rattle.meaning.specs.Faults.{Violation, faults, first_fault, Among}
use Rattle.meaning.specs.declared.faults.Cause.TheVariants.{Length}
use Rattle.meaning.specs.Blocks.{Compiled}
use Rattle.meaning.specs.Outcome.{refused, place_in, ruled, worded, byted, outcome, compile_after}
use Rattle.meaning.proofs.Lowest.{tells_lowest}
use Rattle.draft.specs.Noted.{letters_of, draft_of, told, finished}
use Rattle.draft.specs.Places.{lowest_at, NotesPlaces, place_at, PlacesRise}
use Rattle.draft.specs.Outcome.{source_letters, source_draft, drafted, stored, TellsOutcome}
use Rattle.draft.proofs.Tells.{tells_first}
use Rattle.draft.proofs.Keeps.{finishes}
use Rattle.draft.proofs.Placing.{keeps_places}
use Rattle.draft.proofs.Within.{violations_within}

-- a word has a byte
has_byte : (source : Text) (w : Word) → Single source w ⊎ Longest source w → w.place < end w
has_byte source w (inl s) = omega (arith, s.one)
has_byte source w (inr l) = omega (arith, l.nonempty)

-- words from a place on stand from there on, and so does the end
place_from : (source : Text) (ws : List Word) (p i : ℕ) → Apart p ws → AllByRecursion (Stretch source) ws → p ≤ length source → p ≤ place_of (length source) ws i
place_from source [] p i a s h = h
place_from source (w ∷ ws) p zero a s h = a.0
place_from source (w ∷ ws) p (suc i) a s h =
    let z = place_from source ws (end w) i a.1 s.1 s.0.within in omega (arith, a.0, z)

places_higher : (source : Text) (ws : List Word) (p i j : ℕ) → Apart p ws → AllByRecursion (Stretch source) ws → AllByRecursion (λ w. Single source w ⊎ Longest source w) ws → i < j
    → place_of (length source) ws i + (i - length ws) < place_of (length source) ws j + (j - length ws)
places_higher source [] p i j a s k h = omega arith
places_higher source (w ∷ ws) p zero zero a s k h = absurd (omega arith)
places_higher source (w ∷ ws) p zero (suc j) a s k h =
    let z = place_from source ws (end w) j a.1 s.1 s.0.within in let y = has_byte source w k.0 in omega (arith, z, y)
places_higher source (w ∷ ws) p (suc i) zero a s k h = absurd (omega arith)
places_higher source (w ∷ ws) p (suc i) (suc j) a s k h =
    let z = places_higher source ws (end w) i j a.1 s.1 k.1 (omega arith) in omega (arith, z)

pub places_rise : PlacesRise
places_rise source =
    let o = (only_words source).are in
    record {
      rise = λ i j h. places_higher source (words source) 0 i j o.apart o.stretches o.kinds h;
      words_are = λ i h. let z : place_in source i + (i - length (words source)) ≡ place_in source i = omega (arith, h) in z;
    }

pub texts_length : (ws : List Word) → length (texts ws) ≡ length ws
texts_length [] = refl
texts_length (w ∷ ws) = ap suc (texts_length ws)

among_under : (v : Violation) (fs : List Violation) (n : ℕ) → Among v fs → AllByRecursion (λ f. f.index < n) fs → v.index < n
among_under v [] n a u = absurd a
among_under v (f ∷ fs) n (inl e) u = let z = ap (λ (x : Violation). x.index) e in omega (arith, u.0, z)
among_under v (f ∷ fs) n (inr a) u = among_under v fs n a u.1

pub tells_outcome : TellsOutcome
tells_outcome source t short bytes e = record { answers = answer; stores = λ before. ap (compile_after before) answer ∙ ap (λ o. compile_after before (drafted t o)) tell ∙ store before (first_fault t) refl ∙ ap (λ o. stored before o all) (sym tell) }
  where
    at : ℕ → ℕ
    at = place_at source

    all : Compiled
    all = finished (source_letters source t) (source_draft source t)

    placing : NotesPlaces at
    placing = keeps_places at (places_rise source).rise

    tell : told (source_draft source t) ≡ lowest_at at (first_fault t)
    tell = placing.tell (draft_of t) ∙ ap (lowest_at at) (tells_first t)

    long : length (render t) ≡ length (words source)
    long = ap length ((reads_programs (texts (words source)) t).0 e).words ∙ texts_length (words source)

    by : (o : Option Violation) → first_fault t ≡ o → ruled source t o ≡ drafted t (lowest_at at o)
    by None h = refl
    by (Some v) h =
        let l : v.index < length (render t) = among_under v (faults t) (length (render t)) (tells_lowest (faults t) v h).among (violations_within t) in
        ap (refused v.cause) (sym ((places_rise source).words_are v.index (omega (arith, l, long))))

    answer : outcome source ≡ drafted t (told (source_draft source t))
    answer =
        ap (λ b. cond b (refused Length 60000) (byted source (first_foreign source))) short ∙ ap (byted source) bytes ∙ ap (worded source) e
        ∙ by (first_fault t) refl ∙ ap (drafted t) (sym tell)

    store : (before : Compiled) (o : Option Violation) → first_fault t ≡ o → compile_after before (drafted t (lowest_at at o)) ≡ stored before (lowest_at at o) all
    store before None h = sym (placing.finish (letters_of t) (draft_of t) ∙ finishes t h)
    store before (Some v) h = refl
