-- The grammar's automaton, with an event for each word. What is awaited says what the word is there, and the kind of the word decides.
use Rattle.std.specs.Prelude.{ℕ, suc, Bool, true, false, cond, List, [], ◌∷◌, nat_eq, nat_lt}
use Rattle.tape.specs.declared.kinds.Direction.TheVariants.{Left as ToLeft, Right as ToRight}
use Rattle.words.specs.declared.token.Keyword.{Keyword}
use Rattle.words.specs.declared.token.Keyword.TheVariants.{Alphabet, Module, If, While, Changeto, Move, Left, Right, Accept, Reject, Goto}
use Rattle.words.specs.declared.token.Mark.{Mark}
use Rattle.words.specs.declared.token.Mark.TheVariants.{Open, Close, Comma, Equals}
use Rattle.words.specs.Bytes.{Text}
use Rattle.words.specs.Words.{Word}
use Rattle.words.specs.Vocabulary.{is_name_text}
use Rattle.words.specs.Tokens.{Kind, symbol, key, mark, name, none, kind}
use Rattle.meaning.specs.declared.faults.Cause.{Cause}
use Rattle.meaning.specs.declared.faults.Cause.TheVariants.{Word as WordFault, Depth}
use Rattle.meaning.specs.Blocks.{again, accepting, rejecting, end}
use Rattle.events.specs.Event as event
use Rattle.events.specs.Event.{Event, quiet}

-- what may be awaited; a number is how many cases are around
pub data Item : Type 0 where
  the_mark : Mark → Event → Item  -- this mark, with this event
  a_letter : Item  -- a symbol of the alphabet
  letters_end : Item  -- ("," symbol)* "}"
  a_name : Item  -- a module's name
  a_target : Item  -- a goto's name
  a_written : Item  -- a changeto's symbol
  a_direction : Item  -- "left" | "right"
  a_symbol : Item  -- a case's symbol
  symbols_end : Item  -- ("," symbol)* "{"
  once_end : Item  -- once "}"
  move_end : Item  -- [move] "}"
  body_end : ℕ → Item  -- body "}", in a case
  acted_end : ℕ → Item  -- the rest of a body behind an act, and "}"
  cases_end : ℕ → Item  -- case* "}"
  inside_end : Item  -- (case+ | body) "}"
  a_module : Item
  an_alphabet : Item

-- ---- What a word does.

-- what comes after a word: the depth of the case that it begins, or 0; what is awaited in its item's place; its event. Or the word may not come.
pub data Turn : Type 0 where
  onto : ℕ → List Item → Event → Turn
  stop : Turn

-- keywords by numbers, to compare them
abbrev pub keyword_number : Keyword → ℕ
keyword_number k = elim k [ Alphabet ↦ 0 | Module ↦ 1 | If ↦ 2 | While ↦ 3 | Changeto ↦ 4 | Move ↦ 5 | Left ↦ 6 | Right ↦ 7 | Accept ↦ 8 | Reject ↦ 9 | Goto ↦ 10 ]

-- marks by numbers, to compare them
abbrev pub mark_number : Mark → ℕ
mark_number m = elim m [ Open ↦ 0 | Close ↦ 1 | Comma ↦ 2 | Equals ↦ 3 ]

-- the word is this keyword
abbrev pub is_key : Keyword → Kind → Bool
is_key k κ = elim κ [ symbol ↦ false | key j ↦ nat_eq (keyword_number j) (keyword_number k) | mark m ↦ false | name ↦ false | none ↦ false ]

-- the word is this mark
abbrev pub is_mark : Mark → Kind → Bool
is_mark m κ = elim κ [ symbol ↦ false | key j ↦ false | mark n ↦ nat_eq (mark_number n) (mark_number m) | name ↦ false | none ↦ false ]

-- the word is a symbol
abbrev pub is_symbol : Kind → Bool
is_symbol κ = elim κ [ symbol ↦ true | key j ↦ false | mark m ↦ false | name ↦ false | none ↦ false ]

-- the word is a name: keywords and symbols may be names
abbrev pub is_name : Kind → Text → Bool
is_name κ w = elim κ [ symbol ↦ is_name_text w | key j ↦ is_name_text w | mark m ↦ is_name_text w | name ↦ is_name_text w | none ↦ false ]

-- a way on from an item: by a keyword, with the depth of the case that it begins; by a mark; by a symbol; by a name
pub data Edge : Type 0 where
  by_key : Keyword → ℕ → List Item → Event → Edge
  by_mark : Mark → List Item → Event → Edge
  by_symbol : List Item → (Text → Event) → Edge
  by_name : List Item → (Text → Event) → Edge

-- the edges of an act, whose first word has this event, or one by its rank, and of the rest of its body
abbrev pub act_edges : ℕ → (ℕ → Event) → List Edge → List Edge
act_edges d f es = by_key Changeto 0 (a_written ∷ acted_end d ∷ []) (f 1) ∷ by_key Move 0 (a_direction ∷ acted_end d ∷ []) (f 2) ∷ es

-- the edges of a flow behind acts, or at the beginning of a case's body, and of the brace behind it
abbrev pub flow_edges : List Edge → List Edge
flow_edges es =
    by_key Accept 0 (the_mark Close quiet ∷ []) (event.finish accepting)
    ∷ by_key Reject 0 (the_mark Close quiet ∷ []) (event.finish rejecting)
    ∷ by_key Goto 0 (a_target ∷ the_mark Close quiet ∷ []) quiet
    ∷ es

-- the edges of a flow at the beginning of a module
abbrev pub first_flow_edges : List Edge → List Edge
first_flow_edges es =
    by_key Accept 0 (the_mark Close quiet ∷ []) (event.begin_finish accepting)
    ∷ by_key Reject 0 (the_mark Close quiet ∷ []) (event.begin_finish rejecting)
    ∷ by_key Goto 0 (a_target ∷ the_mark Close quiet ∷ []) event.begin
    ∷ es

-- the edges of a case, whose first word has this event, and of those behind it
abbrev pub case_edges : ℕ → Event → List Edge → List Edge
case_edges d e es =
    by_key If (suc d) (a_symbol ∷ symbols_end ∷ body_end (suc d) ∷ cases_end d ∷ []) e
    ∷ by_key While (suc d) (a_symbol ∷ symbols_end ∷ once_end ∷ cases_end d ∷ []) e
    ∷ es

-- the words that may come where an item is awaited
abbrev pub edges : Item → List Edge
edges (the_mark m e) = by_mark m [] e ∷ []
edges a_letter = by_symbol [] event.letter ∷ []
edges letters_end = by_mark Comma (a_letter ∷ letters_end ∷ []) quiet ∷ by_mark Close [] quiet ∷ []
edges a_name = by_name [] event.name ∷ []
edges a_target = by_name [] event.jump ∷ []
edges a_written = by_symbol [] event.write ∷ []
edges a_direction = by_key Left 0 [] (event.turn ToLeft) ∷ by_key Right 0 [] (event.turn ToRight) ∷ []
edges a_symbol = by_symbol [] event.symbol ∷ []
edges symbols_end = by_mark Comma (a_symbol ∷ symbols_end ∷ []) quiet ∷ by_mark Open [] event.enter ∷ []
edges once_end = by_key Changeto 0 (a_written ∷ move_end ∷ []) quiet ∷ by_key Move 0 (a_direction ∷ the_mark Close (event.finish again) ∷ []) quiet ∷ []
edges move_end = by_key Move 0 (a_direction ∷ the_mark Close (event.finish again) ∷ []) quiet ∷ by_mark Close [] (event.finish again) ∷ []
edges (body_end d) = act_edges d (event.first_event event.in_case) (flow_edges [])
edges (acted_end d) = act_edges d event.command (flow_edges (case_edges d event.next_switch (by_mark Close [] (event.finish end) ∷ [])))
edges (cases_end d) = case_edges d event.another (by_mark Close [] event.ended ∷ [])
edges inside_end = act_edges 0 (event.first_event event.in_module) (first_flow_edges (case_edges 0 event.begin_switch []))
edges a_module = by_key Module 0 (a_name ∷ the_mark Open quiet ∷ inside_end ∷ []) quiet ∷ []
edges an_alphabet = by_key Alphabet 0 (the_mark Equals quiet ∷ the_mark Open quiet ∷ a_letter ∷ letters_end ∷ []) quiet ∷ []

-- the first edge that the word takes
abbrev pub pick : List Edge → Kind → Text → Turn
pick [] κ w = stop
pick (by_key k n is e ∷ es) κ w = cond (is_key k κ) (onto n is e) (pick es κ w)
pick (by_mark m is e ∷ es) κ w = cond (is_mark m κ) (onto 0 is e) (pick es κ w)
pick (by_symbol is f ∷ es) κ w = cond (is_symbol κ) (onto 0 is (f w)) (pick es κ w)
pick (by_name is f ∷ es) κ w = cond (is_name κ w) (onto 0 is (f w)) (pick es κ w)

-- what a word of a kind does to an item
abbrev pub turn : Item → Kind → Text → Turn
turn i κ w = pick (edges i) κ w

-- ---- The stack.

-- module*, or an item above a stack
pub data Stack : Type 0 where
  modules : Stack
  await : Item → Stack → Stack

-- items on top of a stack
abbrev pub push : List Item → Stack → Stack
push [] k = k
push (i ∷ is) k = await i (push is k)

-- the item that the next word decides on: of module*, the first
abbrev pub top : Stack → Item
top modules = a_module
top (await i k) = i

-- the stack below that item
abbrev pub below : Stack → Stack
below modules = modules
below (await i k) = k

-- ---- Running.

-- what the words come to: what was noted, or a fault with its cause and place
pub data Outcome (S : Type 0) : Type 0 where
  made : S → Outcome S
  fault : Cause → ℕ → Outcome S

module _ {S : Type 0} (apply : Event → ℕ → S → S) where
  -- on from a word at a place, by what it does
  abbrev pub follow : ℕ → Turn → S → (List Item → S → Outcome S) → Outcome S
  follow p stop s go = fault WordFault p
  follow p (onto n is e) s go = cond (nat_lt 16 n) (fault Depth p) (go is (apply e p s))

  -- at the end, by its place
  abbrev pub ends : ℕ → Stack → S → Outcome S
  ends e modules s = made s
  ends e (await i k) s = fault WordFault e

  -- what words come to, from a stack and a state; e is the place of their end
  abbrev pub run : ℕ → Stack → S → List Word → Outcome S
  run e k s [] = ends e k s
  run e k s (w ∷ ws) = follow w.place (turn (top k) (kind w.text) w.text) s (λ is s'. run e (push is (below k)) s' ws)

-- the stack for a program
abbrev pub start : Stack
start = await an_alphabet (await a_module modules)
