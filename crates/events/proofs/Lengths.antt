-- A program has an event for each of its words, and a source has no more words than bytes.
use Rattle.std.proofs.Common.{◌≡◌, ℕ, zero, suc, ◌+◌, ◌<◌, ◌≤◌, List, [], ◌∷◌, ◌++◌, length, refl, ap, ◌∙◌, ap₂, arith, length-append}
use mathlib.Core.Option.{Option, none, some}
use Rattle.words.specs.Bytes.{Text}
use Rattle.words.specs.Vocabulary.{Symbol, CLOSE}
use Rattle.words.specs.Words.{Word, words}
use Rattle.grammar.specs.Tree.{Direction, Act, change, move, Flow, accept, reject, goto, Once, once_change, once_move, Symbols, symbols, Body, act_cases, acts_flow, Case, if, while, Cases, no_more, more, Inside, cases, body, Module, module', Program, program}
use Rattle.grammar.specs.Automaton.{parsed, parse}
use Rattle.grammar.specs.Places.{texts, place_of}
use Rattle.grammar.specs.Render.{act_words, acts_words, flow_words, option_words, once_words, commas_words, symbols_words, braced, body_words, case_words, cases_words, inside_words, module_words, modules_words, alphabet_words, render}
use Rattle.grammar.proofs.Laws.{reads_programs}
use Rattle.meaning.specs.Blocks.{again}
use Rattle.draft.specs.Places.{Rises, place_at}
use Rattle.draft.proofs.Outcome.{places_rise, texts_length}
use Rattle.events.specs.Event.{Event, Place, in_module, in_case, first_event, commas_events, symbols_events, option_events, once_events, act_events, acts_events, flow_events, only_flow_events, body_events, case_events, cases_events, switch_events, inside_events, module_events, modules_events, events}
use Rattle.events.specs.Event as event
use Rattle.events.specs.Laws.{places, listed}

-- ---- The events of each piece are as many as its words.

commas_length : (f : Text → Event) (ss : List Symbol) (es : List Event) → length (commas_events f ss es) ≡ length (commas_words ss) + length es
commas_length f [] es = omega arith
commas_length f (s ∷ ss) es = omega (arith, commas_length f ss es)

symbols_length : (f : Text → Event) (ss : Symbols) (es : List Event) → length (symbols_events f ss es) ≡ length (symbols_words ss) + length es
symbols_length f (symbols s ss) es = omega (arith, commas_length f ss es)

option_length : (m : Option Direction) (es : List Event) → length (option_events m es) ≡ length (option_words m) + length es
option_length none es = omega arith
option_length (some d) es = omega arith

once_length : (o : Once) (es : List Event) → length (once_events o es) ≡ length (once_words o) + length es
once_length (once_change s m) es = omega (arith, option_length m es)
once_length (once_move d) es = omega arith

act_length : (f : ℕ → Event) (a : Act) (es : List Event) → length (act_events f a es) ≡ length (act_words a) + length es
act_length f (change s) es = omega arith
act_length f (move d) es = omega arith

acts_length : (xs : List Act) (es : List Event) → length (acts_events xs es) ≡ length (acts_words xs) + length es
acts_length [] es = omega arith
acts_length (a ∷ xs) es = omega (arith, act_length event.command a (acts_events xs es), acts_length xs es, length-append (act_words a) (acts_words xs))

flow_length : (f : Flow) (es : List Event) → length (flow_events f es) ≡ length (flow_words f) + length es
flow_length accept es = omega arith
flow_length reject es = omega arith
flow_length (goto n) es = omega arith

only_flow_length : (p : Place) (f : Flow) (es : List Event) → length (only_flow_events p f es) ≡ length (flow_words f) + length es
only_flow_length in_case f es = flow_length f es
only_flow_length in_module accept es = omega arith
only_flow_length in_module reject es = omega arith
only_flow_length in_module (goto n) es = omega arith

-- a body, and so on, and the brace behind it
mutual
  body_length : (b : Body) (p : Place) (es : List Event) → length (body_events b p es) ≡ length (body_words b) + suc (length es)
  body_length (act_cases a xs cs) p es =
      let rest = switch_events cs es in
      omega (
        arith,
        act_length (first_event p) a (acts_events xs rest),
        acts_length xs rest,
        switch_length cs es,
        length-append (act_words a ++ acts_words xs) (cases_words cs),
        length-append (act_words a) (acts_words xs),
      )
  body_length (acts_flow [] f) p es = only_flow_length p f (event.quiet ∷ es)
  body_length (acts_flow (a ∷ xs) f) p es =
      let rest = flow_events f (event.quiet ∷ es) in
      omega (
        arith,
        act_length (first_event p) a (acts_events xs rest),
        acts_length xs rest,
        flow_length f (event.quiet ∷ es),
        length-append (act_words a ++ acts_words xs) (flow_words f),
        length-append (act_words a) (acts_words xs),
      )

  case_length : (c : Case) (e : Event) (es : List Event) → length (case_events c e es) ≡ length (case_words c) + length es
  case_length (if ss b) e es =
      let rest = body_events b in_case es in
      omega (arith, symbols_length event.symbol ss (event.enter ∷ rest), body_length b in_case es, length-append (symbols_words ss) (braced (body_words b)), length-append (body_words b) (CLOSE ∷ []))
  case_length (while ss o) e es =
      let rest = once_events o (event.finish again ∷ es) in
      omega (
        arith,
        symbols_length event.symbol ss (event.enter ∷ rest),
        once_length o (event.finish again ∷ es),
        length-append (symbols_words ss) (braced (once_words o)),
        length-append (once_words o) (CLOSE ∷ []),
      )

  cases_length : (cs : Cases) (es : List Event) → length (cases_events cs es) ≡ length (cases_words cs) + suc (length es)
  cases_length no_more es = omega arith
  cases_length (more c cs) es = omega (arith, case_length c event.another (cases_events cs es), cases_length cs es, length-append (case_words c) (cases_words cs))

  switch_length : (cs : Cases) (es : List Event) → length (switch_events cs es) ≡ length (cases_words cs) + suc (length es)
  switch_length no_more es = omega arith
  switch_length (more c cs) es = omega (arith, case_length c event.next_switch (cases_events cs es), cases_length cs es, length-append (case_words c) (cases_words cs))

inside_length : (i : Inside) (es : List Event) → length (inside_events i es) ≡ length (inside_words i) + suc (length es)
inside_length (cases c cs) es = omega (arith, case_length c event.begin_switch (cases_events cs es), cases_length cs es, length-append (case_words c) (cases_words cs))
inside_length (body b) es = body_length b in_module es

module_length : (m : Module) (es : List Event) → length (module_events m es) ≡ length (module_words m) + length es
module_length (module' n i) es = omega (arith, inside_length i es, length-append (inside_words i) (CLOSE ∷ []))

modules_length : (ms : List Module) → length (modules_events ms) ≡ length (modules_words ms)
modules_length [] = refl
modules_length (m ∷ ms) = omega (arith, module_length m (modules_events ms), modules_length ms, length-append (module_words m) (modules_words ms))

events_length : (t : Program) → length (events t) ≡ length (render t)
events_length (program ss m ms) =
    let rest = module_events m (modules_events ms) in
    let l = symbols_length event.letter ss (event.quiet ∷ rest) in
    omega (
      arith,
      l,
      module_length m (modules_events ms),
      modules_length ms,
      length-append (symbols_words ss) (CLOSE ∷ []),
      length-append (alphabet_words ss ++ module_words m) (modules_words ms),
      length-append (alphabet_words ss) (module_words m),
    )

-- ---- Of a source.

-- an event for each word of a source
pub events_words : (source : Text) (t : Program) → parse (texts (words source)) ≡ parsed t → length (events t) ≡ length (words source)
events_words source t e = events_length t ∙ ap length ((reads_programs (texts (words source)) t).0 e).words ∙ texts_length (words source)

-- the places of words, one after another
listed_by : (end : ℕ) (es : List Event) (ws : List Word) (at : ℕ → ℕ) (i : ℕ) → length es ≡ length ws → ((k : ℕ) → k < length ws → at (i + k) ≡ place_of end ws k) → listed at i es ≡ places ws
listed_by end [] [] at i l h = refl
listed_by end [] (w ∷ ws) at i l h = absurd (omega arith)
listed_by end (e ∷ es) [] at i l h = absurd (omega arith)
listed_by end (e ∷ es) (w ∷ ws) at i l h =
    ap₂ (λ (p : ℕ) (ps : List ℕ). p ∷ ps) (ap at (let z : i ≡ i + 0 = omega arith in z) ∙ h 0 (omega arith))
    (listed_by end es ws at (suc i) (omega arith) (λ k m. ap at (let z : suc i + k ≡ i + suc k = omega arith in z) ∙ h (suc k) (omega arith)))

-- so the events of a source's program stand at the places of its words
pub listed_places : (source : Text) (t : Program) → parse (texts (words source)) ≡ parsed t → listed (place_at source) 0 (events t) ≡ places (words source)
listed_places source t e = listed_by (length source) (events t) (words source) (place_at source) 0 (events_words source t e)
    (λ k l. ap (place_at source) (let z : 0 + k ≡ k = omega arith in z) ∙ (places_rise source).words_are k l)

-- places are at least indexes
rises_above : (at : ℕ → ℕ) → Rises at → (k : ℕ) → k ≤ at k
rises_above at r zero = omega arith
rises_above at r (suc k) = omega (arith, rises_above at r k, r k (suc k) (omega arith))

-- behind the last word is the end
end_place : (e : ℕ) (ws : List Word) → place_of e ws (length ws) ≡ e
end_place e [] = refl
end_place e (w ∷ ws) = end_place e ws

-- words are no more than bytes
pub words_few : (source : Text) → length (words source) ≤ length source
words_few source =
    let n = length (words source) in
    omega (arith, rises_above (place_at source) (places_rise source).rise n, end_place (length source) (words source))
