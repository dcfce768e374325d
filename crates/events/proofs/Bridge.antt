-- The descent does what the grammar's automaton does, and plays the events of the tree.
use Rattle.std.proofs.Common.{◌≡◌, ℕ, Bool, true, false, cond, T, ltb, List, [], ◌∷◌, length, sym, refl, ap, ◌∙◌, subst}
use mathlib.Core.Option.{Option, none, some}
use Rattle.words.specs.declared.token.Keyword.{Keyword}
use Rattle.words.specs.declared.token.Mark.{Mark}
use Rattle.words.specs.Bytes.{Text}
use Rattle.words.specs.Words.{Word, words}
use Rattle.words.specs.Vocabulary.{Such, same, is_name_text, is_symbol_text}
use Rattle.words.specs.Tokens.{keyword_text, mark_text, kind}
use Rattle.grammar.specs.Tree.{Act, change, move, Flow, acts_flow, Case, Cases, more, cases, body, Program}
use Rattle.grammar.specs.Automaton as grammar
use Rattle.grammar.specs.Automaton.{Tree, Trees, Fill, Transition, Reading, parsed, unexpected, too_deep, mapped, too_deep_if, fronts, behind, such_if, pick_on, pick_any, on, any, as_program}
use Rattle.meaning.specs.declared.faults.Cause.TheVariants.{Word as WordFault, Depth}
use Rattle.meaning.specs.Blocks.{again}
use Rattle.meaning.specs.Codes.{meant}
use Rattle.events.specs.Event as event
use Rattle.events.specs.Event.{Event, quiet, events, played}
use Rattle.events.specs.Descent.{Item, the_mark, a_letter, letters_end, a_name, a_target, a_written, a_direction, a_symbol, symbols_end, once_end, move_end, body_end, acted_end, cases_end, inside_end, a_module, an_alphabet, Turn, onto, stop, Edge, by_key, by_mark, by_symbol, by_name, act_edges, flow_edges, first_flow_edges, case_edges, edges, pick, turn, Stack, modules, await, push, Outcome, made, fault, follow, run, start}
use Rattle.events.specs.Notes.{apply, empty_state}
use Rattle.events.specs.Laws.{places, read_as, Follows}
use Rattle.events.proofs.KindTests.{key_kind, mark_kind, symbol_kind, name_kind}

-- ---- The grammar's items, and the events of their trees.

-- an item as the grammar's
abbrev plain : Item → grammar.Item
plain (the_mark m e) = grammar.fixed (mark_text m)
plain a_letter = grammar.a_symbol
plain letters_end = grammar.commas grammar.closing
plain a_name = grammar.a_name
plain a_target = grammar.a_name
plain a_written = grammar.a_symbol
plain a_direction = grammar.a_direction
plain a_symbol = grammar.a_symbol
plain symbols_end = grammar.commas grammar.opening
plain once_end = grammar.once_end
plain move_end = grammar.move_end
plain (body_end d) = grammar.body_end d
plain (acted_end d) = grammar.acted_end d
plain (cases_end d) = grammar.cases_end d
plain inside_end = grammar.inside_end
plain a_module = grammar.a_module
plain an_alphabet = grammar.an_alphabet

-- items as the grammar's
abbrev plains : List Item → List grammar.Item
plains [] = []
plains (i ∷ is) = plain i ∷ plains is

-- the events of the rest of a body behind an act, and of the brace
abbrev acted_events : grammar.Acted → List Event → List Event
acted_events (grammar.then_cases xs cs) es = event.acts_events xs (event.switch_events cs es)
acted_events (grammar.then_flow xs f) es = event.acts_events xs (event.flow_events f (quiet ∷ es))

-- the events of an item's tree, in front of those of what follows it
abbrev item_events : (i : Item) → Tree (plain i) → List Event → List Event
item_events (the_mark m e) t es = e ∷ es
item_events a_letter t es = event.letter t.word ∷ es
item_events letters_end t es = event.commas_events event.letter t (quiet ∷ es)
item_events a_name t es = event.name t.word ∷ es
item_events a_target t es = event.jump t.word ∷ es
item_events a_written t es = event.write t.word ∷ es
item_events a_direction t es = event.turn (meant t) ∷ es
item_events a_symbol t es = event.symbol t.word ∷ es
item_events symbols_end t es = event.commas_events event.symbol t (event.enter ∷ es)
item_events once_end t es = event.once_events t (event.finish again ∷ es)
item_events move_end t es = event.option_events t (event.finish again ∷ es)
item_events (body_end d) t es = event.body_events t event.in_case es
item_events (acted_end d) t es = acted_events t es
item_events (cases_end d) t es = event.cases_events t es
item_events inside_end t es = event.inside_events t es
item_events a_module t es = event.module_events t es
item_events an_alphabet t es = event.alphabet_events t es

-- the events of items' trees
abbrev items_events : (is : List Item) → Trees (plains is) → List Event → List Event
items_events [] t es = es
items_events (i ∷ is) t es = item_events i t.0 (items_events is t.1 es)

-- ---- The edges.

-- the trees of the items awaited after a word tell the item's events, behind the word's
abbrev Tells : (i : Item) (is : List Item) → Event → (Trees (plains is) → Tree (plain i)) → Type 0
Tells i is e f = (t : Trees (plains is)) (es : List Event) → item_events i (f t) es ≡ e ∷ items_events is t es

-- edges of the descent beside those of the grammar
data Alike (i : Item) : List Edge → List (grammar.Edge (plain i)) → Type 0 where
  no_more : Alike i [] []
  keys : {k : Keyword} {n : ℕ} {is : List Item} {e : Event} {f : Trees (plains is) → Tree (plain i)} {es : List Edge} {fs : List (grammar.Edge (plain i))}
      → Tells i is e f → Alike i es fs → Alike i (by_key k n is e ∷ es) (on (keyword_text k) n (plains is) f ∷ fs)
  marks : {m : Mark} {is : List Item} {e : Event} {f : Trees (plains is) → Tree (plain i)} {es : List Edge} {fs : List (grammar.Edge (plain i))}
      → Tells i is e f → Alike i es fs → Alike i (by_mark m is e ∷ es) (on (mark_text m) 0 (plains is) f ∷ fs)
  symbols : {is : List Item} {e : Text → Event} {f : Such is_symbol_text → Trees (plains is) → Tree (plain i)} {es : List Edge} {fs : List (grammar.Edge (plain i))}
      → ((s : Such is_symbol_text) → Tells i is (e s.word) (f s)) → Alike i es fs → Alike i (by_symbol is e ∷ es) (any is_symbol_text (plains is) f ∷ fs)
  names : {is : List Item} {e : Text → Event} {f : Such is_name_text → Trees (plains is) → Tree (plain i)} {es : List Edge} {fs : List (grammar.Edge (plain i))}
      → ((s : Such is_name_text) → Tells i is (e s.word) (f s)) → Alike i es fs → Alike i (by_name is e ∷ es) (any is_name_text (plains is) f ∷ fs)

module _ {i : Item} {es : List Edge} {fs : List (grammar.Edge (plain i))} where
  -- the edges of an act are alike where its trees tell its events
  acts : {d : ℕ} (e : ℕ → Event) (f : Act → grammar.Acted → Tree (plain i))
      → ((a : Act) (t : grammar.Acted) (rest : List Event) → item_events i (f a t) rest ≡ event.act_events e a (acted_events t rest))
      → Alike i es fs → Alike i (act_edges d e es) (grammar.act_of d f fs)
  acts e f h later = keys (λ t rest. h (change t.0) t.1.0 rest) (keys (λ t rest. h (move t.0) t.1.0 rest) later)

  -- those of a flow
  flows : (f : Flow → Tree (plain i))
      → ((x : Flow) (rest : List Event) → item_events i (f x) rest ≡ event.flow_events x (quiet ∷ rest))
      → Alike i es fs → Alike i (flow_edges es) (grammar.flow_of f fs)
  flows f h later = keys (λ t rest. h _ rest) (keys (λ t rest. h _ rest) (keys (λ t rest. h _ rest) later))

  -- those of a flow at the beginning of a module
  first_flows : (f : Flow → Tree (plain i))
      → ((x : Flow) (rest : List Event) → item_events i (f x) rest ≡ event.first_flow_events x (quiet ∷ rest))
      → Alike i es fs → Alike i (first_flow_edges es) (grammar.flow_of f fs)
  first_flows f h later = keys (λ t rest. h _ rest) (keys (λ t rest. h _ rest) (keys (λ t rest. h _ rest) later))

  -- those of a case
  case_heads : {d : ℕ} {e : Event} (f : Case → Cases → Tree (plain i))
      → ((c : Case) (cs : Cases) (rest : List Event) → item_events i (f c cs) rest ≡ event.case_events c e (event.cases_events cs rest))
      → Alike i es fs → Alike i (case_edges d e es) (grammar.case_of d f fs)
  case_heads f h later = keys (λ t rest. h _ t.1.1.1.0 rest) (keys (λ t rest. h _ t.1.1.1.0 rest) later)

-- the events of the body of an act and the rest
body_of_events : (p : event.Place) (a : Act) (t : grammar.Acted) (es : List Event) → event.body_events (grammar.body_of a t) p es ≡ event.act_events (event.first_event p) a (acted_events t es)
body_of_events p a (grammar.then_cases xs cs) es = refl
body_of_events p a (grammar.then_flow xs f) es = refl

-- the events of an act before the rest of a body
after_act_events : (a : Act) (t : grammar.Acted) (es : List Event) → acted_events (grammar.after_act a t) es ≡ event.act_events event.command a (acted_events t es)
after_act_events a (grammar.then_cases xs cs) es = refl
after_act_events a (grammar.then_flow xs f) es = refl

-- the edges of each item are alike
alike : (i : Item) → Alike i (edges i) (grammar.edges (plain i))
alike (the_mark m e) = marks (λ t es. refl) no_more
alike a_letter = symbols (λ s t es. refl) no_more
alike letters_end = marks (λ t es. refl) (marks (λ t es. refl) no_more)
alike a_name = names (λ s t es. refl) no_more
alike a_target = names (λ s t es. refl) no_more
alike a_written = symbols (λ s t es. refl) no_more
alike a_direction = keys (λ t es. refl) (keys (λ t es. refl) no_more)
alike a_symbol = symbols (λ s t es. refl) no_more
alike symbols_end = marks (λ t es. refl) (marks (λ t es. refl) no_more)
alike once_end = keys (λ t es. refl) (keys (λ t es. refl) no_more)
alike move_end = keys (λ t es. refl) (marks (λ t es. refl) no_more)
alike (body_end d) = acts (event.first_event event.in_case) grammar.body_of (body_of_events event.in_case) (flows (acts_flow []) (λ f es. refl) no_more)
alike (acted_end d) =
    acts event.command grammar.after_act after_act_events
    (flows (grammar.then_flow []) (λ f es. refl) (case_heads (λ c cs. grammar.then_cases [] (more c cs)) (λ c cs es. refl) (marks (λ t es. refl) no_more)))
alike (cases_end d) = case_heads more (λ c cs es. refl) (marks (λ t es. refl) no_more)
alike inside_end =
    acts (event.first_event event.in_module) (λ a t. body (grammar.body_of a t)) (body_of_events event.in_module)
    (first_flows (λ f. body (acts_flow [] f)) (λ f es. refl) (case_heads cases (λ c cs es. refl) no_more))
alike a_module = keys (λ t es. refl) no_more
alike an_alphabet = keys (λ t es. refl) no_more

-- ---- What a word does.

-- a turn beside a transition of the grammar
data Same (i : Item) : Turn → Option (Transition (plain i)) → Type 0 where
  neither : Same i stop none
  both : {n : ℕ} {is : List Item} {e : Event} {f : Trees (plains is) → Tree (plain i)}
      → Tells i is e f → Same i (onto n is e) (some (record { awaits = plains is; make = f; opens = n }))

module _ {i : Item} {x : Turn} {o : Option (Transition (plain i))} (n : ℕ) (is : List Item) where
  -- an edge is taken by a certain word, or a later one
  taken : (b : Bool) {e : Event} (f : Trees (plains is) → Tree (plain i)) → Tells i is e f → Same i x o
      → Same i (cond b (onto n is e) x) (pick_on b (record { awaits = plains is; make = f; opens = n }) o)
  taken true f h later = both h
  taken false f h later = later

  -- an edge is taken by a word that passes a test, or a later one
  passed : (p : Text → Bool) (w : Text) (b : Bool) (q : T b → T (p w)) (e : Text → Event) (f : Such p → Trees (plains is) → Tree (plain i))
      → ((s : Such p) → Tells i is (e s.word) (f s)) → Same i x o
      → Same i (cond b (onto n is (e w)) x) (pick_any (such_if p w b q) (λ s. record { awaits = plains is; make = f s; opens = n }) o)
  passed p w true q e f h later = both (h (record { word = w; fits = q tt }))
  passed p w false q e f h later = later

-- alike edges do the same
same_pick : {i : Item} {es : List Edge} {fs : List (grammar.Edge (plain i))} (w : Text) → Alike i es fs → Same i (pick es (kind w) w) (grammar.pick fs w)
same_pick w no_more = neither
same_pick w (keys {k = k} h later) = rw (key_kind w k) (taken _ _ (same w (keyword_text k)) _ h (same_pick w later))
same_pick w (marks {m = m} h later) = rw (mark_kind w m) (taken _ _ (same w (mark_text m)) _ h (same_pick w later))
same_pick w (symbols h later) = rw (symbol_kind w) (passed _ _ is_symbol_text w (is_symbol_text w) (λ t. t) _ _ h (same_pick w later))
same_pick w (names h later) = rw (name_kind w) (passed _ _ is_name_text w (is_name_text w) (λ t. t) _ _ h (same_pick w later))

-- a word does the same to an item of both
same_step : (i : Item) (w : Text) → Same i (turn i (kind w) w) (grammar.step (plain i) w)
same_step i w = same_pick w (alike i)

-- ---- The stack.

-- a stack of the grammar with the events of its trees
record View : Type 0 where
  stack : grammar.Stack
  tell : Fill stack → List Event

-- an item above it
abbrev put : Item → View → View
put i v = record { stack = grammar.await (plain i) v.stack; tell = λ f. item_events i f.0 (v.tell f.1) }

-- items above it
abbrev puts : List Item → View → View
puts is v = record {
  stack = grammar.push (plains is) v.stack;
  tell = λ f. items_events is (fronts (plains is) v.stack f) (v.tell (behind (plains is) v.stack f));
}

-- a stack as the grammar's
abbrev view : Stack → View
view modules = record { stack = grammar.modules; tell = event.modules_events }
view (await i k) = put i (view k)

-- items are above a stack as they are above the grammar's
view_push : (is : List Item) (k : Stack) → view (push is k) ≡ puts is (view k)
view_push [] k = refl
view_push (i ∷ is) k = ap (put i) (view_push is k)

-- ---- Running.

-- what the words come to, by what the grammar reads
abbrev out : {A S : Type 0} → (A → S) → Reading A → Outcome S
out g (parsed a) = made (g a)
out g (unexpected p) = fault WordFault p
out g (too_deep p) = fault Depth p

-- what is made of trees, by what is made of those that they are made of
out_mapped : {A B S : Type 0} (f : A → B) (g : A → S) (h : B → S) → ((a : A) → h (f a) ≡ g a) → (r : Reading A) → out g r ≡ out h (mapped f r)
out_mapped f g h q (parsed a) = ap made (sym (q a))
out_mapped f g h q (unexpected p) = refl
out_mapped f g h q (too_deep p) = refl

-- both ask the same of the depth of a case
entering : {A B S : Type 0} (b : Bool) (p : ℕ) (f : A → B) (g : A → S) (h : B → S) → ((a : A) → h (f a) ≡ g a)
    → (x : Outcome S) (r : Reading A) → x ≡ out g r → cond b (fault Depth p) x ≡ out h (too_deep_if b p (mapped f r))
entering true p f g h q x r e = refl
entering false p f g h q x r e = e ∙ out_mapped f g h q r

module _ {S : Type 0} (act : Event → ℕ → S → S) (e : ℕ) where
  -- the descent comes to what the grammar reads
  abbrev Agrees : List Word → Stack → View → Type 0
  Agrees ws k v = (s : S) → run act e k s ws ≡ out (λ f. played act (v.tell f) (places ws) s) (grammar.read e v.stack ws)

  module _ (p : ℕ) (ws : List Word) (further : (k : Stack) → Agrees ws k (view k)) where
    -- so with items on the stack
    further_on : (is : List Item) (k : Stack) → Agrees ws (push is k) (puts is (view k))
    further_on is k = subst (Agrees ws (push is k)) (view_push is k) (further (push is k))

    -- a word for an item
    at_item : (i : Item) (k : Stack) {x : Turn} {o : Option (Transition (plain i))} → Same i x o → (s : S)
        → follow act p x s (λ is s'. run act e (push is k) s' ws)
        ≡ out (λ f. played act ((put i (view k)).tell f) (p ∷ places ws) s) (grammar.advance p (put i (view k)).stack o (λ st. grammar.read e st ws))
    at_item i k neither s = refl
    at_item i k (both {n = n} {is = is} h) s = entering (ltb 16 n) p _ _ _ (λ f. ap (λ (es : List Event). played act es (p ∷ places ws) s) (h _ _)) _ _ (further_on is k _)

    -- a word for module*
    at_module : {x : Turn} {o : Option (Transition grammar.a_module)} → Same a_module x o → (s : S)
        → follow act p x s (λ is s'. run act e (push is modules) s' ws)
        ≡ out (λ f. played act (event.modules_events f) (p ∷ places ws) s) (grammar.advance p grammar.modules o (λ st. grammar.read e st ws))
    at_module neither s = refl
    at_module (both {n = n} {is = is} h) s = entering (ltb 16 n) p _ _ _ (λ f. ap (λ (es : List Event). played act es (p ∷ places ws) s) (h _ _)) _ _ (further_on is modules _)

  -- so of all words and stacks
  agrees : (ws : List Word) (k : Stack) → Agrees ws k (view k)
  agrees [] modules s = refl
  agrees [] (await i k) s = refl
  agrees (w ∷ ws) modules s = at_module w.place ws (agrees ws) (same_step a_module w.text) s
  agrees (w ∷ ws) (await i k) s = at_item w.place ws (agrees ws) i k (same_step i w.text) s

-- what is read of a program
out_program : {A S : Type 0} (f : A → Program) (g : Program → S) (r : Reading A) → out (λ a. g (f a)) r ≡ read_as g (mapped f r)
out_program f g (parsed a) = refl
out_program f g (unexpected p) = refl
out_program f g (too_deep p) = refl

-- the descent reads what the grammar reads, and plays the events of the tree, each at the place of its word
pub follows : Follows
follows source =
    agrees apply (length source) (words source) start empty_state
    ∙ out_program as_program (λ t. played apply (events t) (places (words source)) empty_state) (grammar.read (length source) grammar.start (words source))
