-- The automaton that reads words to trees, by a stack of what is still awaited. Nothing awaited is empty but module* at the bottom, so the
-- next word decides on the top item alone, and the end may come only at the bottom. What its answers mean is in Laws.
use Rattle.std.specs.Prelude.{ℕ, suc, Bool, true, false, T, List, [], ◌∷◌, length, nat_lt}
use Rattle.std.proofs.Math.Option.{Option, none, some}
use Rattle.words.specs.Bytes.{Text}
use Rattle.words.specs.Words.{Word}
use Rattle.words.specs.Vocabulary.{Such, Name, Symbol, same, is_name_text, is_symbol_text, OPEN, CLOSE, COMMA, EQUALS, ALPHABET, MODULE, IF, WHILE, CHANGETO, MOVE, LEFT, RIGHT, ACCEPT, REJECT, GOTO}
use Rattle.grammar.specs.Tree.{Direction, left, right, Act, change, move, Flow, accept, reject, goto, Once, once_change, once_move, Symbols, symbols, Body, act_cases, acts_flow, Case, if, while, Cases, no_more, more, Inside, cases, body, Module, module', Program, program}
use Rattle.grammar.specs.Depth.{depth_limit}

-- ---- Items: what is awaited.

-- the brace behind a list of symbols
pub data Brace : Type 0 where
  opening closing : Brace

-- its word
abbrev pub brace_word : Brace → Text
brace_word opening = OPEN
brace_word closing = CLOSE

-- what may be awaited; the number is how many cases are around
pub data Item : Type 0 where
  fixed : Text → Item  -- this word
  a_symbol a_name : Item
  a_direction : Item  -- "left" | "right"
  commas : Brace → Item  -- ("," symbol)* and the brace
  once_end : Item  -- once "}"
  move_end : Item  -- [move] "}"
  body_end : ℕ → Item  -- body "}"
  acted_end : ℕ → Item  -- the rest of a body behind an act, and "}"
  cases_end : ℕ → Item  -- case* "}"
  inside_end : Item  -- (case+ | body) "}"
  a_module : Item
  an_alphabet : Item

-- the rest of a body behind an act: act* case* | act* flow
pub data Acted : Type 0 where
  then_cases : List Act → Cases → Acted
  then_flow : List Act → Flow → Acted

-- the trees of an item
abbrev pub Tree : Item → Type 0
Tree (fixed w) = Unit {0}
Tree a_symbol = Symbol
Tree a_name = Name
Tree a_direction = Direction
Tree (commas b) = List Symbol
Tree once_end = Once
Tree move_end = Option Direction
Tree (body_end d) = Body
Tree (acted_end d) = Acted
Tree (cases_end d) = Cases
Tree inside_end = Inside
Tree a_module = Module
Tree an_alphabet = Symbols

-- the trees of several items
abbrev pub Trees : List Item → Type 0
Trees [] = Unit {0}
Trees (i ∷ is) = Tree i × Trees is

-- ---- Transitions: what a word does to an item.

-- what is awaited in the item's place after the word, how their trees make the item's, and the depth of the case that the word begins, or 0
pub record Transition (i : Item) : Type 0 where
  pub awaits : List Item
  pub make : Trees awaits → Tree i
  pub opens : ℕ

-- a way to a transition: on a certain word, with the depth of the case that it begins, or on any word that passes a test
pub data Edge (i : Item) : Type 0 where
  on : Text → ℕ → (is : List Item) → (Trees is → Tree i) → Edge i
  any : (p : Text → Bool) → (is : List Item) → (Such p → Trees is → Tree i) → Edge i

-- the edges of an act and the rest of its body, before other edges; f makes the item's tree
abbrev pub act_of : {i : Item} → ℕ → (Act → Acted → Tree i) → List (Edge i) → List (Edge i)
act_of d f es =
    on CHANGETO 0 (a_symbol ∷ acted_end d ∷ []) (λ t. f (change t.0) t.1.0)
    ∷ on MOVE 0 (a_direction ∷ acted_end d ∷ []) (λ t. f (move t.0) t.1.0)
    ∷ es

-- the edges of a flow and its closing brace, before other edges
abbrev pub flow_of : {i : Item} → (Flow → Tree i) → List (Edge i) → List (Edge i)
flow_of f es =
    on ACCEPT 0 (fixed CLOSE ∷ []) (λ t. f accept)
    ∷ on REJECT 0 (fixed CLOSE ∷ []) (λ t. f reject)
    ∷ on GOTO 0 (a_name ∷ fixed CLOSE ∷ []) (λ t. f (goto t.0))
    ∷ es

-- the edges of a case and those behind it, before other edges; d is how many cases are around
abbrev pub case_of : {i : Item} → ℕ → (Case → Cases → Tree i) → List (Edge i) → List (Edge i)
case_of d f es =
    on IF (suc d) (a_symbol ∷ commas opening ∷ body_end (suc d) ∷ cases_end d ∷ []) (λ t. f (if (symbols t.0 t.1.0) t.1.1.0) t.1.1.1.0)
    ∷ on WHILE (suc d) (a_symbol ∷ commas opening ∷ once_end ∷ cases_end d ∷ []) (λ t. f (while (symbols t.0 t.1.0) t.1.1.0) t.1.1.1.0)
    ∷ es

-- an act before the rest of a body
abbrev pub after_act : Act → Acted → Acted
after_act a (then_cases xs cs) = then_cases (a ∷ xs) cs
after_act a (then_flow xs f) = then_flow (a ∷ xs) f

-- the body of an act and the rest
abbrev pub body_of : Act → Acted → Body
body_of a (then_cases xs cs) = act_cases a xs cs
body_of a (then_flow xs f) = acts_flow (a ∷ xs) f

-- the words that may come where an item is awaited
abbrev pub edges : (i : Item) → List (Edge i)
edges (fixed w) = on w 0 [] (λ t. tt) ∷ []
edges a_symbol = any is_symbol_text [] (λ s t. s) ∷ []
edges a_name = any is_name_text [] (λ s t. s) ∷ []
edges a_direction = on LEFT 0 [] (λ t. left) ∷ on RIGHT 0 [] (λ t. right) ∷ []
edges (commas b) = on COMMA 0 (a_symbol ∷ commas b ∷ []) (λ t. t.0 ∷ t.1.0) ∷ on (brace_word b) 0 [] (λ t. []) ∷ []
edges once_end = on CHANGETO 0 (a_symbol ∷ move_end ∷ []) (λ t. once_change t.0 t.1.0) ∷ on MOVE 0 (a_direction ∷ fixed CLOSE ∷ []) (λ t. once_move t.0) ∷ []
edges move_end = on MOVE 0 (a_direction ∷ fixed CLOSE ∷ []) (λ t. some t.0) ∷ on CLOSE 0 [] (λ t. none) ∷ []
edges (body_end d) = act_of d body_of (flow_of (acts_flow []) [])
edges (acted_end d) = act_of d after_act (flow_of (then_flow []) (case_of d (λ c cs. then_cases [] (more c cs)) (on CLOSE 0 [] (λ t. then_cases [] no_more) ∷ [])))
edges (cases_end d) = case_of d more (on CLOSE 0 [] (λ t. no_more) ∷ [])
edges inside_end = act_of 0 (λ a t. body (body_of a t)) (flow_of (λ f. body (acts_flow [] f)) (case_of 0 cases []))
edges a_module = on MODULE 0 (a_name ∷ fixed OPEN ∷ inside_end ∷ []) (λ t. module' t.0 t.1.1.0) ∷ []
edges an_alphabet = on ALPHABET 0 (fixed EQUALS ∷ fixed OPEN ∷ a_symbol ∷ commas closing ∷ []) (λ t. symbols t.1.1.0 t.1.1.1.0) ∷ []

-- a word as one that passes a test, by what the test says
abbrev pub such_if : (p : Text → Bool) (w : Text) (b : Bool) → (T b → T (p w)) → Option (Such p)
such_if p w true f = some (record { word = w; fits = f tt })
such_if p w false f = none

-- a word as one that passes a test, if it does
abbrev pub as_such : (p : Text → Bool) (w : Text) → Option (Such p)
as_such p w = such_if p w (p w) (λ t. t)

-- the transition of an edge by a word, if it is taken, or else that of a later edge
abbrev pub pick_on : {i : Item} → Bool → Transition i → Option (Transition i) → Option (Transition i)
pick_on true m r = some m
pick_on false m r = r

-- the transition of an edge by a test, if it is taken, or else that of a later edge
abbrev pub pick_any : {i : Item} {p : Text → Bool} → Option (Such p) → (Such p → Transition i) → Option (Transition i) → Option (Transition i)
pick_any (some s) f r = some (f s)
pick_any none f r = r

-- the transition by the first edge that the word takes
abbrev pub pick : {i : Item} → List (Edge i) → Text → Option (Transition i)
pick [] w = none
pick (on k o is f ∷ es) w = pick_on (same w k) (record { awaits = is; make = f; opens = o }) (pick es w)
pick (any p is f ∷ es) w = pick_any (as_such p w) (λ s. record { awaits = is; make = f s; opens = 0 }) (pick es w)

-- the transition of an item by a word, or none where the word may not come
abbrev pub step : (i : Item) → Text → Option (Transition i)
step i w = pick (edges i) w

-- ---- The stack.

-- module*, or an item above a stack
pub data Stack : Type 0 where
  modules : Stack
  await : Item → Stack → Stack

-- the trees of a stack
abbrev pub Fill : Stack → Type 0
Fill modules = List Module
Fill (await i st) = Tree i × Fill st

-- items on top of a stack
abbrev pub push : List Item → Stack → Stack
push [] st = st
push (i ∷ is) st = await i (push is st)

-- the trees of the items on top
abbrev pub fronts : (is : List Item) (st : Stack) → Fill (push is st) → Trees is
fronts [] st t = tt
fronts (i ∷ is) st t = (t.0, fronts is st t.1)

-- the trees of the stack below them
abbrev pub behind : (is : List Item) (st : Stack) → Fill (push is st) → Fill st
behind [] st t = t
behind (i ∷ is) st t = behind is st t.1

-- the item that the next word decides on: of module*, the first
abbrev pub top : Stack → Item
top modules = a_module
top (await i st) = i

-- the stack below that item
abbrev pub below : Stack → Stack
below modules = modules
below (await i st) = st

-- the trees of the stack, by those of both
abbrev pub join : (st : Stack) → Tree (top st) → Fill (below st) → Fill st
join modules m ms = m ∷ ms
join (await i st) t f = (t, f)

-- the stack after a transition
abbrev pub after : (st : Stack) → Transition (top st) → Stack
after st m = push m.awaits (below st)

-- the trees before a transition, by those after it
abbrev pub made : (st : Stack) (m : Transition (top st)) → Fill (after st m) → Fill st
made st m t = join st (m.make (fronts m.awaits (below st) t)) (behind m.awaits (below st) t)

-- ---- Reading.

-- what reading gives: trees, or the place of the word that may not come, or of the one that begins a case too deep
pub data Reading (A : Type 0) : Type 0 where
  parsed : A → Reading A
  unexpected : ℕ → Reading A
  too_deep : ℕ → Reading A

-- the reading with what is made of the trees
abbrev pub mapped : {A B : Type 0} → (A → B) → Reading A → Reading B
mapped f (parsed a) = parsed (f a)
mapped f (unexpected p) = unexpected p
mapped f (too_deep p) = too_deep p

-- too deep at a place where the test says so, else the reading
abbrev pub too_deep_if : {A : Type 0} → Bool → ℕ → Reading A → Reading A
too_deep_if true p r = too_deep p
too_deep_if false p r = r

-- reading from a word on: by its place, its transition and the reading of what follows
abbrev pub advance : ℕ → (st : Stack) → Option (Transition (top st)) → ((st' : Stack) → Reading (Fill st')) → Reading (Fill st)
advance p st none go = unexpected p
advance p st (some m) go = too_deep_if (nat_lt depth_limit m.opens) p (mapped (made st m) (go (after st m)))

-- reading at the end, by its place
abbrev pub ended : ℕ → (st : Stack) → Reading (Fill st)
ended p modules = parsed []
ended p (await i st) = unexpected p

-- reading of words for a stack; e is the place of their end
abbrev pub read : ℕ → (st : Stack) → List Word → Reading (Fill st)
read e st [] = ended e st
read e st (w ∷ ws) = advance w.place st (step (top st) w.text) (λ st'. read e st' ws)

-- the stack for a program
abbrev pub start : Stack
start = await an_alphabet (await a_module modules)

-- the program of that stack's trees
abbrev pub as_program : Fill start → Program
as_program t = program t.0 t.1.0 t.1.1

-- reading of a program by words with places; e is the place of their end
abbrev pub parse_at : ℕ → List Word → Reading Program
parse_at e ws = mapped as_program (read e start ws)

-- words with places that count words, from n
abbrev pub numbered : ℕ → List Text → List Word
numbered n [] = []
numbered n (w ∷ ws) = record { text = w; place = n } ∷ numbered (suc n) ws

-- reading of a program by words alone: a word's place is its number, from 0, and the end's is the number of words
abbrev pub parse : List Text → Reading Program
parse ws = parse_at (length ws) (numbered 0 ws)
