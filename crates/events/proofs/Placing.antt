-- Events at places make what they make at indexes, by places.
use Rattle.std.proofs.Common.{◌≡◌, ℕ, suc, Bool, true, false, cond, not, ltb, List, [], ◌∷◌, ◌++◌, Some, refl, ap, ◌∙◌, ap₂}
use Rattle.words.specs.Bytes.{Text}
use Rattle.meaning.specs.declared.faults.Cause.TheVariants.{Alphabet, Letter, Missing}
use Rattle.meaning.specs.Codes.{word_code, member, columns}
use Rattle.meaning.specs.Blocks.{Then, next, jump, switch}
use Rattle.draft.specs.Draft.{Letters, Draft, is_column, all_seen, seen_too, none_seen, begun, goto_noted}
use Rattle.draft.specs.Building.{numbered, Current, fresh, last_rank, closed, unfilled, next_begun, basic_from}
use Rattle.draft.specs.Places.{Rises, letters_at, draft_at, NotesPlaces}
use Rattle.draft.proofs.Placing.{keeps_places}
use Rattle.events.specs.Event as event
use Rattle.events.specs.Event.{Event, played}
use Rattle.events.specs.Noting.{Open, State, noting, begin_read, with_progress, finish_read, open_read, another_read, symbol_read, enter_read, ended_read}
use Rattle.events.specs.Laws.{listed}
use Rattle.events.proofs.Playing.{state, from}

-- open switches by the places of their first cases
abbrev opens_at : (ℕ → ℕ) → List Open → List Open
opens_at at [] = []
opens_at at (o ∷ os) = record { number = o.number; first = at o.first; seen = o.seen; codes = o.codes } ∷ opens_at at os

-- a state by places
abbrev pub state_at : (ℕ → ℕ) → State → State
state_at at s = state (letters_at at s.letters) (opens_at at s.switches) s.current (draft_at at s.draft)

module _ (at : ℕ → ℕ) (rises : Rises at) where
  -- what is noted at these places
  notes : NotesPlaces at
  notes = keeps_places at rises

  -- the letters of a state by places, with these other parts
  abbrev drafted : State → List Open → Current → Draft → State
  drafted s os c x = state (letters_at at s.letters) (opens_at at os) c x

  -- a block that is finished
  closed_places : (c : Current) (t : Then Text) (x : Draft) → closed c t (draft_at at x) ≡ draft_at at (closed c t x)
  closed_places c t x = notes.fill c.owner (basic_from c t) x

  -- so in a state
  finish_places : (t : Then Text) (s : State) → finish_read t (state_at at s) ≡ state_at at (finish_read t s)
  finish_places t s = ap (drafted s s.switches s.current) (closed_places s.current t s.draft)

  -- a module's body
  begin_places : (i : ℕ) (s : State) → begin_read (at i) (state_at at s) ≡ state_at at (begin_read i s)
  begin_places i s = ap (drafted s s.switches (fresh (numbered s.draft.count))) (notes.begin s.letters i unfilled s.draft)

  -- a switch
  open_places : (i : ℕ) (s : State) → open_read (at i) (state_at at s) ≡ state_at at (open_read i s)
  open_places i s =
      ap (drafted s (record { number = s.draft.count; first = i; seen = none_seen; codes = [] } ∷ s.switches) s.current) (notes.begin s.letters i (switch []) s.draft)

  -- the next block of a body
  next_places : (i : ℕ) (s : State)
      → with_progress (next_begun (letters_at at s.letters) s.current (at i) (draft_at at s.draft)) (state_at at s)
      ≡ state_at at (with_progress (next_begun s.letters s.current i s.draft) s)
  next_places i s =
      let q = s.draft.count in
      ap (drafted s s.switches (fresh (numbered q)))
      (ap (begun s.letters (at i) unfilled) (closed_places s.current (next q) s.draft) ∙ notes.begin s.letters i unfilled (closed s.current (next q) s.draft))

  -- either of two states
  either : (b : Bool) (s t u : State) → t ≡ state_at at u → cond b (state_at at s) t ≡ state_at at (cond b s u)
  either true s t u e = refl
  either false s t u e = e

  -- another case
  another_places : (os : List Open) (s : State) → another_read (opens_at at os) (state_at at s) ≡ state_at at (another_read os s)
  another_places [] s = refl
  another_places (o ∷ os) s = refl

  -- a symbol of a case
  symbol_places : (c i : ℕ) (os : List Open) (s : State) → symbol_read c (at i) (opens_at at os) (state_at at s) ≡ state_at at (symbol_read c i os s)
  symbol_places c i [] s = refl
  symbol_places c i (o ∷ os) s =
      ap (drafted s (record { number = o.number; first = o.first; seen = seen_too c o.seen; codes = o.codes ++ c ∷ [] } ∷ os) s.current) (notes.code s.letters c i o.seen s.draft)

  -- the body of a case
  enter_places : (os : List Open) (s : State) → enter_read (opens_at at os) (state_at at s) ≡ state_at at (enter_read os s)
  enter_places [] s = refl
  enter_places (o ∷ os) s = refl

  -- the end of a switch
  ended_places : (os : List Open) (s : State) → ended_read (opens_at at os) (state_at at s) ≡ state_at at (ended_read os s)
  ended_places [] s = refl
  ended_places (o ∷ os) s =
      ap (drafted s os s.current) (notes.flag (not (all_seen (columns s.letters.letters) o.seen)) o.first Missing s.draft)

  -- an event
  placed : (e : Event) (i : ℕ) (s : State) → noting e (at i) (state_at at s) ≡ state_at at (noting e i s)
  placed event.quiet i s = refl
  placed (event.letter w) i s =
      let c = word_code w in
      ap₂ (λ (a : Letters) (x : Draft). state a (opens_at at s.switches) s.current x)
      (notes.letter c i s.letters) (notes.flag (member c (columns s.letters.letters)) i Alphabet s.draft)
  placed (event.name w) i s = ap (drafted s s.switches s.current) (notes.name w i s.draft)
  placed event.begin i s = begin_places i s
  placed (event.begin_finish t) i s = ap (finish_read t) (begin_places i s) ∙ finish_places t (begin_read i s)
  placed (event.command r) i s =
      either (ltb (last_rank s.current) r) s (with_progress (next_begun (letters_at at s.letters) s.current (at i) (draft_at at s.draft)) (state_at at s))
      (with_progress (next_begun s.letters s.current i s.draft) s) (next_places i s)
  placed (event.write w) i s =
      ap (drafted s s.switches (record { owner = s.current.owner; write = Some (word_code w); move = s.current.move }))
      (notes.flag (not (is_column s.letters (word_code w))) i Letter s.draft)
  placed (event.turn d) i s = refl
  placed (event.finish t) i s = finish_places t s
  placed (event.jump w) i s =
      ap (drafted s s.switches s.current) (ap (goto_noted w (at i)) (closed_places s.current (jump w) s.draft) ∙ notes.goto w i (closed s.current (jump w) s.draft))
  placed event.begin_switch i s = open_places i s
  placed event.next_switch i s =
      let t = next s.draft.count in
      ap (open_read (at i)) (finish_places t s) ∙ open_places i (finish_read t s)
  placed event.another i s = another_places s.switches s
  placed (event.symbol w) i s = symbol_places (word_code w) i s.switches s
  placed event.enter i s = enter_places s.switches s
  placed event.ended i s = ended_places s.switches s

  -- events, one after another
  pub played_places : (es : List Event) (i : ℕ) (s : State) → played noting es (listed at i es) (state_at at s) ≡ state_at at (from i es s)
  played_places [] i s = refl
  played_places (e ∷ es) i s = ap (played noting es (listed at (suc i) es)) (placed e i s) ∙ played_places es (suc i) (noting e i s)
