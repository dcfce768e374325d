-- Each tree of an item is made by the transition of some word.
use Rattle.std.proofs.Common.{◌≡◌, Bool, [], ◌∷◌, refl}
use mathlib.Core.Option.{none, some}
use Rattle.words.specs.Bytes.{Text}
use Rattle.words.specs.Vocabulary.{Such, is_name_text, is_symbol_text, OPEN, CLOSE, COMMA, ALPHABET, MODULE, IF, WHILE, CHANGETO, MOVE, LEFT, RIGHT, ACCEPT, REJECT, GOTO}
use Rattle.grammar.specs.Tree.{left, right, change, move, accept, reject, goto, once_change, once_move, symbols, act_cases, acts_flow, if, while, no_more, more, cases, body, module'}
use Rattle.grammar.specs.Automaton.{opening, closing, Item, fixed, a_symbol, a_name, a_direction, commas, once_end, move_end, body_end, acted_end, cases_end, inside_end, a_module, an_alphabet, then_cases, then_flow, Tree, Trees, Transition, as_such, pick_any, step}
use Rattle.grammar.proofs.Tests.{same_refl, as_such_found}

-- a word whose transition makes the tree, and the trees of what is awaited then
pub record Entry (i : Item) (t : Tree i) : Type 0 where
  pub first : Text
  pub by : Transition i
  pub stepped : step i first ≡ some by
  pub inner : Trees by.awaits
  pub makes : by.make inner ≡ t

-- the entry by a word, with the trees of what is awaited then
via : {i : Item} {t : Tree i} {m : Transition i} (w : Text) → step i w ≡ some m → (u : Trees m.awaits) → m.make u ≡ t → Entry i t
via {m} w e u p = record { first = w; by = m; stepped = e; inner = u; makes = p }

-- a word that passes a test takes the edge by that test
only : {i : Item} (p : Text → Bool) (s : Such p) (f : Such p → Transition i) → pick_any (as_such p s.word) f none ≡ some (f s)
only p s f = rw (as_such_found p s)

-- each tree has one
pub entry : (i : Item) (t : Tree i) → Entry i t
entry (fixed w) t = record { first = w; by = record { awaits = []; make = λ u. tt; opens = 0 }; stepped = rw (same_refl w); inner = tt; makes = refl }
entry a_symbol t = via t.word (only is_symbol_text t (λ s. record { awaits = []; make = λ u. s; opens = 0 })) tt refl
entry a_name t = via t.word (only is_name_text t (λ s. record { awaits = []; make = λ u. s; opens = 0 })) tt refl
entry a_direction left = via LEFT refl tt refl
entry a_direction right = via RIGHT refl tt refl
entry (commas opening) [] = via OPEN refl tt refl
entry (commas closing) [] = via CLOSE refl tt refl
entry (commas opening) (s ∷ ss) = via COMMA refl (s, (ss, tt)) refl
entry (commas closing) (s ∷ ss) = via COMMA refl (s, (ss, tt)) refl
entry once_end (once_change s m) = via CHANGETO refl (s, (m, tt)) refl
entry once_end (once_move d) = via MOVE refl (d, (tt, tt)) refl
entry move_end none = via CLOSE refl tt refl
entry move_end (some d) = via MOVE refl (d, (tt, tt)) refl
entry (body_end d) (act_cases (change s) xs cs) = via CHANGETO refl (s, (then_cases xs cs, tt)) refl
entry (body_end d) (act_cases (move m) xs cs) = via MOVE refl (m, (then_cases xs cs, tt)) refl
entry (body_end d) (acts_flow (change s ∷ xs) f) = via CHANGETO refl (s, (then_flow xs f, tt)) refl
entry (body_end d) (acts_flow (move m ∷ xs) f) = via MOVE refl (m, (then_flow xs f, tt)) refl
entry (body_end d) (acts_flow [] accept) = via ACCEPT refl (tt, tt) refl
entry (body_end d) (acts_flow [] reject) = via REJECT refl (tt, tt) refl
entry (body_end d) (acts_flow [] (goto n)) = via GOTO refl (n, (tt, tt)) refl
entry (acted_end d) (then_cases (change s ∷ xs) cs) = via CHANGETO refl (s, (then_cases xs cs, tt)) refl
entry (acted_end d) (then_cases (move m ∷ xs) cs) = via MOVE refl (m, (then_cases xs cs, tt)) refl
entry (acted_end d) (then_cases [] no_more) = via CLOSE refl tt refl
entry (acted_end d) (then_cases [] (more (if (symbols s ss) b) cs)) = via IF refl (s, (ss, (b, (cs, tt)))) refl
entry (acted_end d) (then_cases [] (more (while (symbols s ss) o) cs)) = via WHILE refl (s, (ss, (o, (cs, tt)))) refl
entry (acted_end d) (then_flow (change s ∷ xs) f) = via CHANGETO refl (s, (then_flow xs f, tt)) refl
entry (acted_end d) (then_flow (move m ∷ xs) f) = via MOVE refl (m, (then_flow xs f, tt)) refl
entry (acted_end d) (then_flow [] accept) = via ACCEPT refl (tt, tt) refl
entry (acted_end d) (then_flow [] reject) = via REJECT refl (tt, tt) refl
entry (acted_end d) (then_flow [] (goto n)) = via GOTO refl (n, (tt, tt)) refl
entry (cases_end d) no_more = via CLOSE refl tt refl
entry (cases_end d) (more (if (symbols s ss) b) cs) = via IF refl (s, (ss, (b, (cs, tt)))) refl
entry (cases_end d) (more (while (symbols s ss) o) cs) = via WHILE refl (s, (ss, (o, (cs, tt)))) refl
entry inside_end (cases (if (symbols s ss) b) cs) = via IF refl (s, (ss, (b, (cs, tt)))) refl
entry inside_end (cases (while (symbols s ss) o) cs) = via WHILE refl (s, (ss, (o, (cs, tt)))) refl
entry inside_end (body (act_cases (change s) xs cs)) = via CHANGETO refl (s, (then_cases xs cs, tt)) refl
entry inside_end (body (act_cases (move m) xs cs)) = via MOVE refl (m, (then_cases xs cs, tt)) refl
entry inside_end (body (acts_flow (change s ∷ xs) f)) = via CHANGETO refl (s, (then_flow xs f, tt)) refl
entry inside_end (body (acts_flow (move m ∷ xs) f)) = via MOVE refl (m, (then_flow xs f, tt)) refl
entry inside_end (body (acts_flow [] accept)) = via ACCEPT refl (tt, tt) refl
entry inside_end (body (acts_flow [] reject)) = via REJECT refl (tt, tt) refl
entry inside_end (body (acts_flow [] (goto n))) = via GOTO refl (n, (tt, tt)) refl
entry a_module (module' n i) = via MODULE refl (n, (tt, (i, tt))) refl
entry an_alphabet (symbols s ss) = via ALPHABET refl (tt, (tt, (s, (ss, tt)))) refl
