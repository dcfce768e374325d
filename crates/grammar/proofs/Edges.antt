-- A word that may come begins the words of the tree that its transition makes.
use Rattle.std.proofs.Common.{◌≡◌, ℕ, zero, suc, ◌≤◌, max, Bool, true, false, List, [], ◌∷◌, ◌++◌, sym, refl, ap, ◌∙◌, subst, append_assoc, append-nil, zero-le, arith}
use mathlib.Core.Option.{Option, none, some, none-ne-some, some-injective}
use Rattle.words.specs.Bytes.{Text}
use Rattle.words.specs.Vocabulary.{Such, same, CLOSE, IF, WHILE, CHANGETO, MOVE}
use Rattle.grammar.specs.Tree.{Act, change, move, Flow, accept, reject, goto, symbols, acts_flow, Case, if, while, Cases, no_more, more, cases, body}
use Rattle.grammar.specs.Render.{act_words, flow_words, case_words, cases_words}
use Rattle.grammar.specs.Depth.{body_depth, case_depth, cases_depth, inside_depth}
use Rattle.grammar.specs.Openings.{zeros, case_openings, cases_openings}
use Rattle.grammar.specs.Automaton.{opening, Item, fixed, a_symbol, a_name, a_direction, commas, once_end, move_end, body_end, acted_end, cases_end, inside_end, a_module, an_alphabet, Acted, then_cases, then_flow, Tree, Trees, Transition, Edge, on, any, act_of, flow_of, case_of, after_act, body_of, edges, as_such, pick, pick_on, pick_any, step}
use Rattle.grammar.proofs.Tests.{same_true, as_such_word}
use Rattle.grammar.proofs.Items.{acted_words, item_words, trees_words, in_cases, acted_depth, item_depth, trees_depth, acted_openings, item_openings, trees_openings, item_around, items_around}

-- what a transition by a word makes begins with the word; its depths are that of the case that the word begins and those of what is
-- awaited then; and that case stands right in those around the item, and what is awaited then in no more
pub record Begins {i : Item} (w : Text) (m : Transition i) : Type 0 where
  pub words : (t : Trees m.awaits) → item_words i (m.make t) ≡ w ∷ trees_words m.awaits t
  pub depth : (t : Trees m.awaits) → item_depth i (m.make t) ≡ max m.opens (trees_depth m.awaits t)
  pub openings : (t : Trees m.awaits) → item_openings i (m.make t) ≡ m.opens ∷ trees_openings m.awaits t
  pub next : m.opens ≤ suc (item_around i)
  pub around : items_around m.awaits ≤ max (item_around i) m.opens

-- so it is with an edge
abbrev BeginsEdge : {i : Item} → Edge i → Type 0
BeginsEdge {i} (on w o is f) = Begins {i = i} w (record { awaits = is; make = f; opens = o })
BeginsEdge {i} (any p is f) = (s : Such p) → Begins {i = i} s.word (record { awaits = is; make = f s; opens = 0 })

-- and with all edges of a list
abbrev BeginsAll : {i : Item} → List (Edge i) → Type 0
BeginsAll [] = Unit {0}
BeginsAll (e ∷ es) = BeginsEdge e × BeginsAll es

-- an edge behind which nothing of the item is awaited
last : {i : Item} {w : Text} {t : Tree i} → item_words i t ≡ w ∷ [] → item_depth i t ≡ 0 → item_openings i t ≡ 0 ∷ [] → Begins {i = i} w (record { awaits = []; make = λ u. t; opens = 0 })
last p d o = record { words = λ u. p; depth = λ u. d; openings = λ u. o; next = zero-le; around = zero-le }

-- zeros of two lists of words
zeros_append : (v w : List Text) → zeros (v ++ w) ≡ zeros v ++ zeros w
zeros_append [] w = refl
zeros_append (x ∷ v) w = ap (λ (r : List ℕ). 0 ∷ r) (zeros_append v w)

-- depths counted from outside cases: of two trees, of a case, and where there are none
in_max : (d a b : ℕ) → in_cases d (max a b) ≡ max (in_cases d a) (in_cases d b)
in_max d zero b = let h : max 0 b ≡ b = omega arith in ap (in_cases d) h ∙ omega arith
in_max d (suc a) zero = let h : max (suc a) 0 ≡ suc a = omega arith in ap (in_cases d) h ∙ omega arith
in_max d (suc a) (suc b) = let h : max (suc a) (suc b) ≡ suc (max a b) = omega arith in ap (in_cases d) h ∙ omega arith

in_next : (d n : ℕ) → in_cases d (suc n) ≡ max (suc d) (in_cases (suc d) n)
in_next d zero = omega arith
in_next d (suc n) = omega arith

in_none : (n : ℕ) → in_cases 0 n ≡ n
in_none zero = refl
in_none (suc n) = omega arith

-- t is an act and the rest of its body, in d cases
record IsAct (i : Item) (d : ℕ) (a : Act) (x : Acted) (t : Tree i) : Type 0 where
  words : item_words i t ≡ act_words a ++ (acted_words x ++ CLOSE ∷ [])
  depth : item_depth i t ≡ in_cases d (acted_depth x)
  openings : item_openings i t ≡ zeros (act_words a) ++ (acted_openings d x ++ 0 ∷ [])

-- acts of a body, of what follows an act, and of what stands in a module
body_act : (d : ℕ) (a : Act) (x : Acted) → IsAct (body_end d) d a x (body_of a x)
body_act d a (then_cases xs cs) = record { words = simp append_assoc; depth = refl; openings = simp (zeros_append, append_assoc) }
body_act d a (then_flow xs f) = record { words = simp append_assoc; depth = refl; openings = simp (zeros_append, append_assoc) }

acted_act : (d : ℕ) (a : Act) (x : Acted) → IsAct (acted_end d) d a x (after_act a x)
acted_act d a (then_cases xs cs) = record { words = simp append_assoc; depth = refl; openings = simp (zeros_append, append_assoc) }
acted_act d a (then_flow xs f) = record { words = simp append_assoc; depth = refl; openings = simp (zeros_append, append_assoc) }

inside_act : (a : Act) (x : Acted) → IsAct inside_end 0 a x (body (body_of a x))
inside_act a x = let h = body_act 0 a x in record { words = h.words; depth = h.depth; openings = h.openings }

-- t is a flow
record IsFlow (i : Item) (x : Flow) (t : Tree i) : Type 0 where
  words : item_words i t ≡ flow_words x ++ CLOSE ∷ []
  depth : item_depth i t ≡ 0
  openings : item_openings i t ≡ zeros (flow_words x) ++ 0 ∷ []

-- t is a case and those behind it, in d cases
record IsCase (i : Item) (d : ℕ) (c : Case) (cs : Cases) (t : Tree i) : Type 0 where
  words : item_words i t ≡ case_words c ++ (cases_words cs ++ CLOSE ∷ [])
  depth : item_depth i t ≡ in_cases d (max (case_depth c) (cases_depth cs))
  openings : item_openings i t ≡ case_openings d c ++ (cases_openings d cs ++ 0 ∷ [])

-- the edges of an act, of a flow and of a case, by what is made of them
act_begins : {i : Item} (d : ℕ) (f : Act → Acted → Tree i) (es : List (Edge i)) → item_around i ≡ d → ((a : Act) (x : Acted) → IsAct i d a x (f a x)) → BeginsAll es → BeginsAll (act_of d f es)
act_begins {i} d f es e h rest = (change_begins, (move_begins, rest))
  where
    change_begins : BeginsEdge {i = i} (on CHANGETO 0 (a_symbol ∷ acted_end d ∷ []) (λ t. f (change t.0) t.1.0))
    change_begins = record {
      words = λ t. (h (change t.0) t.1.0).words ∙ simp append-nil;
      depth = λ t. (h (change t.0) t.1.0).depth ∙ omega arith;
      openings = λ t. (h (change t.0) t.1.0).openings ∙ simp append-nil;
      next = omega arith;
      around = omega arith;
    }

    move_begins : BeginsEdge {i = i} (on MOVE 0 (a_direction ∷ acted_end d ∷ []) (λ t. f (move t.0) t.1.0))
    move_begins = record {
      words = λ t. (h (move t.0) t.1.0).words ∙ simp append-nil;
      depth = λ t. (h (move t.0) t.1.0).depth ∙ omega arith;
      openings = λ t. (h (move t.0) t.1.0).openings ∙ simp append-nil;
      next = omega arith;
      around = omega arith;
    }

flow_begins : {i : Item} (f : Flow → Tree i) (es : List (Edge i)) → ((x : Flow) → IsFlow i x (f x)) → BeginsAll es → BeginsAll (flow_of f es)
flow_begins {i} f es h rest = (
  record { words = λ t. (h accept).words; depth = λ t. (h accept).depth; openings = λ t. (h accept).openings; next = omega arith; around = omega arith },
  (
    record { words = λ t. (h reject).words; depth = λ t. (h reject).depth; openings = λ t. (h reject).openings; next = omega arith; around = omega arith },
    (record { words = λ t. (h (goto t.0)).words; depth = λ t. (h (goto t.0)).depth; openings = λ t. (h (goto t.0)).openings; next = omega arith; around = omega arith }, rest),
  ),
)

case_begins : {i : Item} (d : ℕ) (f : Case → Cases → Tree i) (es : List (Edge i)) → item_around i ≡ d → ((c : Case) (cs : Cases) → IsCase i d c cs (f c cs)) → BeginsAll es → BeginsAll (case_of d f es)
case_begins {i} d f es e h rest = (if_begins, (while_begins, rest))
  where
    if_begins : BeginsEdge {i = i} (on IF (suc d) (a_symbol ∷ commas opening ∷ body_end (suc d) ∷ cases_end d ∷ []) (λ t. f (if (symbols t.0 t.1.0) t.1.1.0) t.1.1.1.0))
    if_begins = record {
      words = λ t. (h (if (symbols t.0 t.1.0) t.1.1.0) t.1.1.1.0).words ∙ simp (append_assoc, append-nil);
      depth = λ t. (h (if (symbols t.0 t.1.0) t.1.1.0) t.1.1.1.0).depth ∙ in_max d (suc (body_depth t.1.1.0)) (cases_depth t.1.1.1.0) ∙ omega (arith, in_next d (body_depth t.1.1.0));
      openings = λ t. (h (if (symbols t.0 t.1.0) t.1.1.0) t.1.1.1.0).openings ∙ simp (append_assoc, append-nil);
      next = omega arith;
      around = omega arith;
    }

    while_begins : BeginsEdge {i = i} (on WHILE (suc d) (a_symbol ∷ commas opening ∷ once_end ∷ cases_end d ∷ []) (λ t. f (while (symbols t.0 t.1.0) t.1.1.0) t.1.1.1.0))
    while_begins = record {
      words = λ t. (h (while (symbols t.0 t.1.0) t.1.1.0) t.1.1.1.0).words ∙ simp (append_assoc, append-nil);
      depth = λ t. (h (while (symbols t.0 t.1.0) t.1.1.0) t.1.1.1.0).depth ∙ in_max d 1 (cases_depth t.1.1.1.0) ∙ omega arith;
      openings = λ t. (h (while (symbols t.0 t.1.0) t.1.1.0) t.1.1.1.0).openings ∙ simp (append_assoc, append-nil);
      next = omega arith;
      around = omega arith;
    }

-- so it is with the edges of every item
begins_all : (i : Item) → BeginsAll (edges i)
begins_all (fixed w) = (last refl refl refl, tt)
begins_all a_symbol = ((λ s. last refl refl refl), tt)
begins_all a_name = ((λ s. last refl refl refl), tt)
begins_all a_direction = (last refl refl refl, (last refl refl refl, tt))
begins_all (commas b) = (
  record { words = λ t. simp append-nil; depth = λ t. refl; openings = λ t. simp append-nil; next = zero-le; around = zero-le },
  (last refl refl refl, tt),
)
begins_all once_end = (
  record { words = λ t. simp append-nil; depth = λ t. refl; openings = λ t. simp append-nil; next = zero-le; around = zero-le },
  (record { words = λ t. refl; depth = λ t. refl; openings = λ t. refl; next = zero-le; around = zero-le }, tt),
)
begins_all move_end = (
  record { words = λ t. refl; depth = λ t. refl; openings = λ t. refl; next = zero-le; around = zero-le },
  (last refl refl refl, tt),
)
begins_all (body_end d) =
    let flows : List (Edge (body_end d)) = flow_of (acts_flow []) [] in
    act_begins d body_of flows refl (body_act d) (flow_begins {i = body_end d} (acts_flow []) [] (λ x. record { words = refl; depth = refl; openings = refl }) tt)
begins_all (acted_end d) =
    let close : List (Edge (acted_end d)) = on CLOSE 0 [] (λ t. then_cases [] no_more) ∷ [] in
    let switch : List (Edge (acted_end d)) = case_of d (λ c cs. then_cases [] (more c cs)) close in
    let flows : List (Edge (acted_end d)) = flow_of (then_flow []) switch in
    act_begins d after_act flows refl (acted_act d)
    (flow_begins {i = acted_end d} (then_flow []) switch (λ x. record { words = refl; depth = refl; openings = refl })
    (case_begins {i = acted_end d} d (λ c cs. then_cases [] (more c cs)) close refl (λ c cs. record { words = simp append_assoc; depth = refl; openings = simp append_assoc })
    (last refl refl refl, tt)))
begins_all (cases_end d) =
    let close : List (Edge (cases_end d)) = on CLOSE 0 [] (λ t. no_more) ∷ [] in
    case_begins d more close refl (λ c cs. record { words = simp append_assoc; depth = refl; openings = simp append_assoc })
    (last refl refl refl, tt)
begins_all inside_end =
    let switch : List (Edge inside_end) = case_of 0 cases [] in
    let flows : List (Edge inside_end) = flow_of (λ x. body (acts_flow [] x)) switch in
    act_begins 0 (λ a x. body (body_of a x)) flows refl inside_act
    (flow_begins {i = inside_end} (λ x. body (acts_flow [] x)) switch (λ x. record { words = refl; depth = refl; openings = refl })
    (case_begins {i = inside_end} 0 cases [] refl (λ c cs. record { words = simp append_assoc; depth = refl; openings = simp append_assoc }) tt))
begins_all a_module = (
  record {
    words = λ t. simp (append_assoc, append-nil);
    depth = λ t. omega (arith, in_none (inside_depth t.1.1.0));
    openings = λ t. simp (append_assoc, append-nil);
    next = zero-le;
    around = zero-le;
  },
  tt,
)
begins_all an_alphabet = (
  record {
    words = λ t. simp (append_assoc, append-nil);
    depth = λ t. refl;
    openings = λ t. simp (zeros_append, append_assoc, append-nil);
    next = zero-le;
    around = zero-le;
  },
  tt,
)

-- the transition that is picked begins with the word
picked_begins : {i : Item} (es : List (Edge i)) → BeginsAll es → (w : Text) (m : Transition i) → pick es w ≡ some m → Begins w m
picked_begins [] h w m e = absurd (none-ne-some m e)
picked_begins {i} (on k o is f ∷ es) h w m e = go (same w k) refl e (picked_begins es h.1 w m)
  where
    here : Transition i
    here = record { awaits = is; make = f; opens = o }

    go : (b : Bool) → same w k ≡ b → pick_on b here (pick es w) ≡ some m → (pick es w ≡ some m → Begins w m) → Begins w m
    go true q e' ih = subst (Begins w) (some-injective here m e') (subst (λ (v : Text). Begins v here) (sym (same_true w k q)) h.0)
    go false q e' ih = ih e'
picked_begins {i} (any p is f ∷ es) h w m e = go (as_such p w) refl e (picked_begins es h.1 w m)
  where
    here : Such p → Transition i
    here s = record { awaits = is; make = f s; opens = 0 }

    go : (o : Option (Such p)) → as_such p w ≡ o → pick_any o here (pick es w) ≡ some m → (pick es w ≡ some m → Begins w m) → Begins w m
    go (some s) q e' ih = subst (Begins w) (some-injective (here s) m e') (subst (λ (v : Text). Begins v (here s)) (as_such_word p w s q) (h.0 s))
    go none q e' ih = ih e'

-- each step begins with its word
pub step_begins : (i : Item) (w : Text) (m : Transition i) → step i w ≡ some m → Begins w m
step_begins i w m e = picked_begins (edges i) (begins_all i) w m e
