-- Events, at indexes, make what the tree makes.
use Rattle.std.proofs.Common.{◌≡◌, ℕ, suc, ◌+◌, Bool, true, false, cond, ltb, List, [], ◌∷◌, ◌++◌, map, length, sym, refl, ap, ◌∙◌, ap₂, append_assoc, append-nil, add-one, arith, length-append}
use mathlib.Core.Option.{none, some}
use Rattle.words.specs.Vocabulary.{Symbol}
use Rattle.grammar.specs.Tree.{Act, change, move, Flow, accept, reject, goto, Once, once_change, once_move, Symbols, symbols, Body, act_cases, acts_flow, Case, if, while, Cases, no_more, more, Inside, cases, body, Module, module', Program, program}
use Rattle.grammar.specs.Render.{act_words, acts_words, flow_words, once_words, commas_words, symbols_words, body_words, case_words, cases_words, inside_words, module_words, braced}
use Rattle.meaning.specs.Codes.{code, meant}
use Rattle.meaning.specs.Blocks.{rank, again, accepting, rejecting, end, next, jump, switch, symbols_codes, case_codes, modules_at}
use Rattle.meaning.proofs.Order.{braced_length}
use Rattle.draft.specs.Draft.{Letters, Draft, empty_draft, no_letters, symbol_noted, name_noted, Seen, none_seen, seen_too, code_noted, switch_ended, goto_noted, begun, letter_noted}
use Rattle.draft.specs.Building.{Owner, numbered, arm_of, Current, fresh, with_act, last_rank, closed, unfilled, Progress, next_begun, command_noted}
use Rattle.draft.specs.Noted.{letters_noted, act_noted, acts_noted, flow_noted, once_noted, codes_noted, seen_with, behind, body_noted, case_noted, cases_noted, switch_noted, inside_noted, modules_noted, letters_of, draft_of}
use Rattle.events.specs.Event.{Event, quiet, write, turn, letter, command, finish, symbol, enter, begin_switch, next_switch, another, commas_events, symbols_events, once_events, act_events, acts_events, flow_events, Place, in_module, in_case, first_event, only_flow_events, body_events, case_events, cases_events, switch_events, inside_events, modules_events, events}
use Rattle.events.specs.Noting.{Open, State, empty_state, begin_read, noting, command_read}
use Rattle.events.specs.Laws.{MakesDrafts}
use Rattle.events.proofs.Playing.{state, from}
use Rattle.events.proofs.Placing.{state_at, played_places}

-- letters behind commas
letters_made : (ss : List Symbol) (a : Letters) (os : List Open) (c : Current) (i n j : ℕ) (es : List Event) → n ≡ suc i → j ≡ i + length (commas_words ss)
    → let b = letters_noted (map code ss) n a in from i (commas_events letter ss es) (state a os c (empty_draft a)) ≡ from j es (state b os c (empty_draft b))
letters_made [] a os c i n j es h e = ap (λ k. from k es (state a os c (empty_draft a))) (omega arith)
letters_made (s ∷ ss) a os c i n j es h e =
    ap (λ k. let b = letter_noted (code s) k a in from (suc (suc i)) (commas_events letter ss es) (state b os c (empty_draft b))) (sym h)
    ∙ letters_made ss (letter_noted (code s) n a) os c (suc (suc i)) (n + 2) j es (omega arith) (omega arith)

-- what stands before the first command of a body
abbrev entered : Place → ℕ → State → State
entered in_module i s = begin_read i s
entered in_case i s = s

-- so after its first word, if that is an act's
first_entered : (p : Place) (r i : ℕ) (s : State) → noting (first_event p r) i s ≡ entered p i s
first_entered in_module r i s = refl
first_entered in_case r i s = refl

-- a flow that is the whole body
first_flow : (f : Flow) (p : Place) (i : ℕ) (s : State) (es : List Event) → from i (only_flow_events p f es) s ≡ from i (flow_events f es) (entered p i s)
first_flow accept in_module i s es = refl
first_flow reject in_module i s es = refl
first_flow (goto n) in_module i s es = refl
first_flow f in_case i s es = refl

-- an act has two words
act_length : (a : Act) → length (act_words a) ≡ 2
act_length (change s) = refl
act_length (move d) = refl

module _ (a : Letters) where
  -- with this block under construction
  abbrev progress : List Open → Progress → State
  progress os w = state a os w.current w.draft

  -- a command behind another
  commanded : (act : Act) (os : List Open) (c : Current) (i : ℕ) (x : Draft) → command_read (rank act) i (state a os c x) ≡ progress os (command_noted a act c i x)
  commanded act os c i x = by (ltb (last_rank c) (rank act))
    where
      by : (b : Bool) → cond b (state a os c x) (progress os (next_begun a c i x)) ≡ progress os (cond b (record { current = c; draft = x }) (next_begun a c i x))
      by true = refl
      by false = refl

  -- an act whose first word leads to this block under construction
  act_made : (f : ℕ → Event) (act : Act) (s : State) (os : List Open) (w : Progress) (i : ℕ) (es : List Event) → noting (f (rank act)) i s ≡ progress os w
      → from i (act_events f act es) s ≡ from (suc (suc i)) es (state a os (with_act act w.current) (act_noted a act i w.draft))
  act_made f (change t) s os w i es e =
      ap (λ u. from (suc (suc i)) es (noting (write t.word) (suc i) u)) e
      ∙ ap (λ n. from (suc (suc i)) es (state a os (with_act (change t) w.current) (symbol_noted a t n w.draft))) (sym (add-one i))
  act_made f (move d) s os w i es e = ap (λ u. from (suc (suc i)) es (noting (turn (meant d)) (suc i) u)) e

  -- acts behind another
  acts_made : (xs : List Act) (os : List Open) (c : Current) (i n j : ℕ) (x : Draft) (es : List Event) → n ≡ i → j ≡ i + length (acts_words xs)
      → from i (acts_events xs es) (state a os c x) ≡ from j es (progress os (acts_noted a xs c n x))
  acts_made [] os c i n j x es h e = ap (λ k. from k es (state a os c x)) (omega arith)
  acts_made (act ∷ xs) os c i n j x es h e =
      let l = length-append (act_words act) (acts_words xs) in
      let m = act_length act in
      ap (λ k. from k (acts_events (act ∷ xs) es) (state a os c x)) (sym h)
      ∙ (let w = command_noted a act c n x in
      act_made command act (state a os c x) os w n (acts_events xs es) (commanded act os c n x)
      ∙ acts_made xs os (with_act act w.current) (suc (suc n)) (n + 2) j (act_noted a act n w.draft) es (omega arith) (omega arith))

  -- a first command begins no further block
  first_command : (act : Act) (os : List Open) (o : Owner) (i : ℕ) (x : Draft) → state a os (fresh o) x ≡ progress os (command_noted a act (fresh o) i x)
  first_command (change s) os o i x = refl
  first_command (move d) os o i x = refl

  -- the acts at the beginning of a body
  first_acts_made : (act : Act) (xs : List Act) (p : Place) (s : State) (os : List Open) (o : Owner) (i j : ℕ) (x : Draft) (es : List Event)
      → entered p i s ≡ state a os (fresh o) x → j ≡ i + length (acts_words (act ∷ xs))
      → from i (act_events (first_event p) act (acts_events xs es)) s ≡ from j es (progress os (acts_noted a (act ∷ xs) (fresh o) i x))
  first_acts_made act xs p s os o i j x es h e =
      let l = length-append (act_words act) (acts_words xs) in
      let m = act_length act in
      let w = command_noted a act (fresh o) i x in
      act_made (first_event p) act s os w i (acts_events xs es) (first_entered p (rank act) i s ∙ h ∙ first_command act os o i x)
      ∙ acts_made xs os (with_act act w.current) (suc (suc i)) (i + 2) j (act_noted a act i w.draft) es (omega arith) (omega arith)

  -- a flow
  flow_made : (f : Flow) (os : List Open) (c : Current) (i n j : ℕ) (x : Draft) (es : List Event) → n ≡ i → j ≡ i + length (flow_words f)
      → from i (flow_events f es) (state a os c x) ≡ from j es (state a os c (flow_noted f c n x))
  flow_made accept os c i n j x es h e = ap (λ k. from k es (state a os c (closed c accepting x))) (omega arith)
  flow_made reject os c i n j x es h e = ap (λ k. from k es (state a os c (closed c rejecting x))) (omega arith)
  flow_made (goto m) os c i n j x es h e =
      ap₂ (λ (k l : ℕ). from k es (state a os c (goto_noted m.word l (closed c (jump m.word) x)))) (omega arith) (omega arith)

  -- from a state to the next event, at this word, with this draft
  abbrev Reaches : State → ℕ → List Event → List Open → Draft → Type 0
  Reaches t j es os y = (c : Current) × (t ≡ from j es (state a os c y))

  -- the commands of a while case, and the brace behind them
  once_made : (o : Once) (os : List Open) (w : Owner) (i j : ℕ) (x : Draft) (es : List Event) → j ≡ i + length (once_words o) + 1
      → Reaches (from i (once_events o (finish again ∷ es)) (state a os (fresh w) x)) j es os (once_noted a o w i x)
  once_made (once_change s none) os w i j x es e =
      let c = with_act (change s) (fresh w) in
      (c, ap₂ (λ (k l : ℕ). from k es (state a os c (closed c again (symbol_noted a s l x)))) (omega arith) (omega arith))
  once_made (once_change s (some d)) os w i j x es e =
      let c = with_act (move d) (with_act (change s) (fresh w)) in
      (c, ap₂ (λ (k l : ℕ). from k es (state a os c (closed c again (symbol_noted a s l x)))) (omega arith) (omega arith))
  once_made (once_move d) os w i j x es e =
      let c = with_act (move d) (fresh w) in
      (c, ap (λ k. from k es (state a os c (closed c again x))) (omega arith))

  -- an open switch
  abbrev opened : ℕ → ℕ → Seen → List ℕ → Open
  opened q p s cs = record { number = q; first = p; seen = s; codes = cs }

  -- the symbols of a case behind commas
  commas_made : (ts : List Symbol) (q p : ℕ) (s : Seen) (cs : List ℕ) (os : List Open) (c : Current) (i n j : ℕ) (x : Draft) (es : List Event) → n ≡ suc i → j ≡ i + length (commas_words ts)
      → from i (commas_events symbol ts es) (state a (opened q p s cs ∷ os) c x)
      ≡ from j es (state a (opened q p (seen_with (map code ts) s) (cs ++ map code ts) ∷ os) c (codes_noted a (map code ts) n s x))
  commas_made [] q p s cs os c i n j x es h e = ap₂ (λ (k : ℕ) (ds : List ℕ). from k es (state a (opened q p s ds ∷ os) c x)) (omega arith) (sym (append-nil cs))
  commas_made (t ∷ ts) q p s cs os c i n j x es h e =
      let d = code t in
      ap (λ k. from (suc (suc i)) (commas_events symbol ts es) (state a (opened q p (seen_too d s) (cs ++ d ∷ []) ∷ os) c (code_noted a d k s x))) (sym h)
      ∙ commas_made ts q p (seen_too d s) (cs ++ d ∷ []) os c (suc (suc i)) (n + 2) j (code_noted a d n s x) es (omega arith) (omega arith)
      ∙ ap (λ ds. from j es (state a (opened q p (seen_with (map code (t ∷ ts)) s) ds ∷ os) c (codes_noted a (map code (t ∷ ts)) n s x))) (append_assoc cs (d ∷ []) (map code ts))

  -- a case as far as its body, where its first word leads to this state
  symbols_made : (ss : Symbols) (v : Event) (t : State) (q p : ℕ) (s : Seen) (os : List Open) (c : Current) (i : ℕ) (x : Draft) (es : List Event) → noting v i t ≡ state a (opened q p s [] ∷ os) c x
      → let cs = symbols_codes ss in from i (v ∷ symbols_events symbol ss (enter ∷ es)) t
      ≡ from (i + length (symbols_words ss) + 2) es (state a (opened q p (seen_with cs s) cs ∷ os) (fresh (arm_of q cs)) (codes_noted a cs (i + 1) s x))
  symbols_made (symbols u us) v t q p s os c i x es h =
      let d = code u in
      let cs = symbols_codes (symbols u us) in
      let j = suc (suc i) + length (commas_words us) in
      ap (λ y. from (suc (suc i)) (commas_events symbol us (enter ∷ es)) (noting (symbol u.word) (suc i) y)) h
      ∙ ap (λ k. from (suc (suc i)) (commas_events symbol us (enter ∷ es)) (state a (opened q p (seen_too d s) (d ∷ []) ∷ os) c (code_noted a d k s x))) (sym (add-one i))
      ∙ commas_made us q p (seen_too d s) (d ∷ []) os c (suc (suc i)) (i + 1 + 2) j (code_noted a d (i + 1) s x) (enter ∷ es) (omega arith) refl
      ∙ ap (λ k. from k es (state a (opened q p (seen_with cs s) cs ∷ os) (fresh (arm_of q cs)) (codes_noted a cs (i + 1) s x))) (omega arith)

  mutual
    -- a body, and the brace behind it
    body_made : (b : Body) (p : Place) (s : State) (os : List Open) (o : Owner) (i j : ℕ) (x : Draft) (es : List Event)
        → entered p i s ≡ state a os (fresh o) x → j ≡ i + length (body_words b) + 1 → Reaches (from i (body_events b p es) s) j es os (body_noted b a o i x)
    body_made (act_cases act xs ks) p s os o i j x es h e =
        let w = acts_noted a (act ∷ xs) (fresh o) i x in
        let k = i + length (acts_words (act ∷ xs)) in
        let l = length-append (acts_words (act ∷ xs)) (cases_words ks) in
        let r = switch_made ks os w.current k j w.draft es (omega arith) in
        (r.0, first_acts_made act xs p s os o i k x (switch_events ks es) h refl ∙ r.1)
    body_made (acts_flow [] f) p s os o i j x es h e = (
      fresh o,
      first_flow f p i s (quiet ∷ es) ∙ ap (from i (flow_events f (quiet ∷ es))) h ∙ flow_made f os (fresh o) i (i + 0) (i + length (flow_words f)) x (quiet ∷ es) (omega arith) refl
          ∙ ap (λ k. from k es (state a os (fresh o) (flow_noted f (fresh o) (i + 0) x))) (omega arith),
    )
    body_made (acts_flow (act ∷ xs) f) p s os o i j x es h e =
        let w = acts_noted a (act ∷ xs) (fresh o) i x in
        let k = i + length (acts_words (act ∷ xs)) in
        let l = length-append (acts_words (act ∷ xs)) (flow_words f) in
        let n = k + length (flow_words f) in (
          w.current,
          first_acts_made act xs p s os o i k x (flow_events f (quiet ∷ es)) h refl ∙ flow_made f os w.current k k n w.draft (quiet ∷ es) refl refl
              ∙ ap (λ m. from m es (state a os w.current (flow_noted f w.current k w.draft))) (omega arith),
        )

    -- a case of an open switch, whose first word leads to this state
    case_made : (k : Case) (v : Event) (t : State) (q p : ℕ) (s : Seen) (os : List Open) (c : Current) (i j : ℕ) (x : Draft) (es : List Event)
        → noting v i t ≡ state a (opened q p s [] ∷ os) c x → j ≡ i + length (case_words k)
        → Reaches (from i (case_events k v es) t) j es (opened q p (seen_with (case_codes k) s) (case_codes k) ∷ os) (case_noted k a q s i x)
    case_made (if ss b) v t q p s os c i j x es h e =
        let cs = symbols_codes ss in
        let us = opened q p (seen_with cs s) cs ∷ os in
        let y = codes_noted a cs (i + 1) s x in
        let n = i + length (symbols_words ss) + 2 in
        let l = length-append (symbols_words ss) (braced (body_words b)) in
        let m = braced_length (body_words b) in
        let r = body_made b in_case (state a us (fresh (arm_of q cs)) y) us (arm_of q cs) n j y es refl (omega arith) in
        (r.0, symbols_made ss v t q p s os c i x (body_events b in_case es) h ∙ r.1)
    case_made (while ss o) v t q p s os c i j x es h e =
        let cs = symbols_codes ss in
        let us = opened q p (seen_with cs s) cs ∷ os in
        let y = codes_noted a cs (i + 1) s x in
        let n = i + length (symbols_words ss) + 2 in
        let l = length-append (symbols_words ss) (braced (once_words o)) in
        let m = braced_length (once_words o) in
        let r = once_made o us (arm_of q cs) n j y es (omega arith) in
        (r.0, symbols_made ss v t q p s os c i x (once_events o (finish again ∷ es)) h ∙ r.1)

    -- the other cases of an open switch, and the brace behind them
    cases_made : (ks : Cases) (o : Open) (os : List Open) (c : Current) (i j : ℕ) (x : Draft) (es : List Event) → j ≡ i + length (cases_words ks) + 1
        → Reaches (from i (cases_events ks es) (state a (o ∷ os) c x)) j es os (cases_noted ks a o.number o.first o.seen i x)
    cases_made no_more o os c i j x es e = (c, ap (λ k. from k es (state a os c (switch_ended a o.first o.seen x))) (omega arith))
    cases_made (more k ks) o os c i j x es e =
        let n = i + length (case_words k) in
        let l = length-append (case_words k) (cases_words ks) in
        let r = case_made k another (state a (o ∷ os) c x) o.number o.first o.seen os c i n x (cases_events ks es) refl refl in
        let u = opened o.number o.first (seen_with (case_codes k) o.seen) (case_codes k) in
        let t = cases_made ks u os r.0 n j (case_noted k a o.number o.seen i x) es (omega arith) in
        (t.0, r.1 ∙ t.1)

    -- a switch behind commands, and the brace
    switch_made : (ks : Cases) (os : List Open) (c : Current) (i j : ℕ) (x : Draft) (es : List Event) → j ≡ i + length (cases_words ks) + 1
        → Reaches (from i (switch_events ks es) (state a os c x)) j es os (switch_noted ks a i (closed c (behind ks x.count) x))
    switch_made no_more os c i j x es e = (c, ap (λ k. from k es (state a os c (closed c end x))) (omega arith))
    switch_made (more k ks) os c i j x es e =
        let n = i + length (case_words k) in
        let q = x.count in
        let y = begun a i (switch []) (closed c (next q) x) in
        let l = length-append (case_words k) (cases_words ks) in
        let r = case_made k next_switch (state a os c x) q i none_seen os c i n y (cases_events ks es) refl refl in
        let t = cases_made ks (opened q i (seen_with (case_codes k) none_seen) (case_codes k)) os r.0 n j (case_noted k a q none_seen i y) es (omega arith) in
        (t.0, r.1 ∙ t.1)

  -- what stands in a module, and the brace behind it
  inside_made : (v : Inside) (os : List Open) (c : Current) (i j : ℕ) (x : Draft) (es : List Event) → j ≡ i + length (inside_words v) + 1
      → Reaches (from i (inside_events v es) (state a os c x)) j es os (inside_noted a v i x)
  inside_made (cases k ks) os c i j x es e =
      let n = i + length (case_words k) in
      let q = x.count in
      let y = begun a i (switch []) x in
      let l = length-append (case_words k) (cases_words ks) in
      let r = case_made k begin_switch (state a os c x) q i none_seen os c i n y (cases_events ks es) refl refl in
      let t = cases_made ks (opened q i (seen_with (case_codes k) none_seen) (case_codes k)) os r.0 n j (case_noted k a q none_seen i y) es (omega arith) in
      (t.0, r.1 ∙ t.1)
  inside_made (body b) os c i j x es e = body_made b in_module (state a os c x) os (numbered x.count) i j (begun a i unfilled x) es refl e

  -- modules, one after another
  modules_made : (ms : List Module) (os : List Open) (c : Current) (i : ℕ) (x : Draft) → Reaches (from i (modules_events ms) (state a os c x)) i [] os (modules_noted a ms i x)
  modules_made [] os c i x = (c, refl)
  modules_made (module' n v ∷ ms) os c i x =
      let y = name_noted n.word (i + 1) x in
      let j = i + length (module_words (module' n v)) in
      let m = braced_length (inside_words v) in
      let r = inside_made v os c (i + 3) j y (modules_events ms) (omega arith) in
      let t = modules_made ms os r.0 j (inside_noted a v (i + 3) y) in
      (t.0, ap₂ (λ (k l : ℕ). from k (inside_events v (modules_events ms)) (state a os c (name_noted n.word l x))) (omega arith) (omega arith) ∙ r.1 ∙ t.1)

-- a program
pub program_made : (t : Program) → (c : Current) × (from 0 (events t) empty_state ≡ state (letters_of t) [] c (draft_of t))
program_made (program (symbols s ss) m ms) =
    let ls = letters_of (program (symbols s ss) m ms) in
    let c = fresh (numbered 0) in
    let j = 4 + length (commas_words ss) in
    let r = modules_made ls (m ∷ ms) [] c (modules_at (program (symbols s ss) m ms)) (empty_draft ls) in (
      r.0,
      letters_made ss (letter_noted (code s) 3 no_letters) [] c 4 5 j (quiet ∷ modules_events (m ∷ ms)) refl refl
          ∙ ap (λ k. from k (modules_events (m ∷ ms)) (state ls [] c (empty_draft ls))) (omega arith) ∙ r.1,
    )

-- so at any rising places
pub makes_drafts : MakesDrafts
makes_drafts at rises t =
    let p = played_places at rises (events t) 0 empty_state in
    let e = p ∙ ap (state_at at) (program_made t).1 in
    record { letters = ap (λ s. s.letters) e; draft = ap (λ s. s.draft) e }
