-- What the reader answers holds of the stack's trees.
use Rattle.std.proofs.Common.{◌≡◌, ℕ, suc, ◌<◌, ◌≤◌, Bool, true, false, ltb, List, [], ◌∷◌, ◌++◌, length, take, sym, refl, ap, ◌∙◌, zero-le, arith}
use mathlib.Core.Option.{Option, none, some}
use Rattle.std.proofs.lemmas.Bool.{ltb-true, ltb-false}
use Rattle.words.specs.Bytes.{Text}
use Rattle.words.specs.Words.{Word}
use Rattle.grammar.specs.Tree.{left, accept, once_move, symbols, acts_flow, no_more, body, module'}
use Rattle.grammar.specs.Depth.{depth_limit}
use Rattle.grammar.specs.Automaton.{Item, fixed, a_symbol, a_name, a_direction, commas, once_end, move_end, body_end, acted_end, cases_end, inside_end, a_module, an_alphabet, then_cases, Tree, Transition, step, Stack, modules, await, Fill, top, after, made, Reading, parsed, unexpected, too_deep, mapped, too_deep_if, advance, ended, read}
use Rattle.grammar.specs.Places.{texts, place_of}
use Rattle.grammar.proofs.Items.{fill_words, item_depth, fill_depth}
use Rattle.grammar.proofs.Stacks.{made_words, made_depth, refused, taken, rest_of, by_step, never_empty}

-- some trees go on after these words
abbrev pub GoesOn : Stack → List Text → Type 0
GoesOn st ps = (t : Fill st) × (rest : List Text) × (fill_words st t ≡ ps ++ rest)

-- some trees with no case too deep go on after these words
abbrev pub GoesOnWithin : Stack → List Text → Type 0
GoesOnWithin st ps = (t : Fill st) × (rest : List Text) × (fill_words st t ≡ ps ++ rest) × (fill_depth st t ≤ depth_limit)

-- the word numbered i is the first after which no trees go on, or the end comes too early
pub record Fault (st : Stack) (ws : List Text) (i : ℕ) : Type 0 where
  pub within : i ≤ length ws
  pub before : GoesOnWithin st (take i ws)
  pub at_word : i < length ws → ¬ GoesOn st (take (suc i) ws)
  pub at_end : i ≡ length ws → (t : Fill st) → ¬ (fill_words st t ≡ ws)

-- the word numbered i begins the first case too deep
pub record TooDeep (st : Stack) (ws : List Text) (i : ℕ) : Type 0 where
  pub within : i < length ws
  pub before : GoesOnWithin st (take i ws)
  pub allowed : GoesOn st (take (suc i) ws)
  pub too_deep : ¬ GoesOnWithin st (take (suc i) ws)

-- what an answer says of words with places
abbrev pub Holds : ℕ → (st : Stack) → List Word → Reading (Fill st) → Type 0
Holds e st ws (parsed t) = (fill_words st t ≡ texts ws) × (fill_depth st t ≤ depth_limit)
Holds e st ws (unexpected p) = (i : ℕ) × Fault st (texts ws) i × (place_of e ws i ≡ p)
Holds e st ws (too_deep p) = (i : ℕ) × TooDeep st (texts ws) i × (place_of e ws i ≡ p)

-- trees with no case, for whatever is awaited
some_tree : (i : Item) → (t : Tree i) × (item_depth i t ≡ 0)
some_tree (fixed w) = (tt, refl)
some_tree a_symbol = (record { word = 97 ∷ []; fits = tt }, refl)
some_tree a_name = (record { word = 97 ∷ []; fits = tt }, refl)
some_tree a_direction = (left, refl)
some_tree (commas b) = ([], refl)
some_tree once_end = (once_move left, refl)
some_tree move_end = (none, refl)
some_tree (body_end d) = (acts_flow [] accept, refl)
some_tree (acted_end d) = (then_cases [] no_more, refl)
some_tree (cases_end d) = (no_more, refl)
some_tree inside_end = (body (acts_flow [] accept), refl)
some_tree a_module = (module' (record { word = 97 ∷ []; fits = tt }) (body (acts_flow [] accept)), refl)
some_tree an_alphabet = (symbols (record { word = 97 ∷ []; fits = tt }) [], refl)

-- such trees for a stack
some_fill : (st : Stack) → (t : Fill st) × (fill_depth st t ≤ depth_limit)
some_fill modules = ([], zero-le)
some_fill (await i st) =
    let t = some_tree i in
    let f = some_fill st in
    ((t.0, f.0), omega (arith, t.1, f.1))

-- so trees go on after no words
pub begun : (st : Stack) → GoesOnWithin st []
begun st = let f = some_fill st in (f.0, fill_words st f.0, refl, f.1)

-- one word further
pub further : (st : Stack) (w : Text) (m : Transition (top st)) → step (top st) w ≡ some m → (ps : List Text) → GoesOn (after st m) ps → GoesOn st (w ∷ ps)
further st w m q ps (u, rest, p) = (made st m u, rest, made_words st w m q u ∙ ap (λ (r : List Text). w ∷ r) p)

pub further_within : (st : Stack) (w : Text) (m : Transition (top st)) → step (top st) w ≡ some m → m.opens ≤ depth_limit → (ps : List Text) → GoesOnWithin (after st m) ps → GoesOnWithin st (w ∷ ps)
further_within st w m q l ps (u, rest, p, h) = (made st m u, rest, made_words st w m q u ∙ ap (λ (r : List Text). w ∷ r) p, omega (arith, made_depth st w m q u))

-- and back
pub back : (st : Stack) (w : Text) (m : Transition (top st)) → step (top st) w ≡ some m → (ps : List Text) → GoesOn st (w ∷ ps) → GoesOn (after st m) ps
back st w m q ps (t, rest, p) = let r = rest_of st w m q t (ps ++ rest) p in (r.fill, rest, r.words)

pub back_within : (st : Stack) (w : Text) (m : Transition (top st)) → step (top st) w ≡ some m → (ps : List Text) → GoesOnWithin st (w ∷ ps) → (m.opens ≤ depth_limit) × GoesOnWithin (after st m) ps
back_within st w m q ps (t, rest, p, l) = let r = rest_of st w m q t (ps ++ rest) p in (omega (arith, r.depth), (r.fill, rest, r.words, omega (arith, r.depth)))

-- what holds after a word that begins no case too deep holds from the word on
fault_later : (st : Stack) (w : Text) (ws : List Text) (m : Transition (top st)) → step (top st) w ≡ some m → m.opens ≤ depth_limit → (i : ℕ) → Fault (after st m) ws i → Fault st (w ∷ ws) (suc i)
fault_later st w ws m q l i f = record {
  within = omega (arith, f.within);
  before = further_within st w m q l (take i ws) f.before;
  at_word = λ k g. f.at_word (omega arith) (back st w m q (take (suc i) ws) g);
  at_end = λ k t g. let r = rest_of st w m q t ws g in f.at_end (omega arith) r.fill r.words;
}

pub too_deep_later : (st : Stack) (w : Text) (ws : List Text) (m : Transition (top st)) → step (top st) w ≡ some m → m.opens ≤ depth_limit → (i : ℕ) → TooDeep (after st m) ws i → TooDeep st (w ∷ ws) (suc i)
too_deep_later st w ws m q l i f = record {
  within = omega (arith, f.within);
  before = further_within st w m q l (take i ws) f.before;
  allowed = further st w m q (take (suc i) ws) f.allowed;
  too_deep = λ g. f.too_deep (back_within st w m q (take (suc i) ws) g).1;
}

-- an answer after a word is one from the word on
later : (e : ℕ) (st : Stack) (w : Word) (ws : List Word) (m : Transition (top st)) → step (top st) w.text ≡ some m → m.opens ≤ depth_limit → (r : Reading (Fill (after st m))) → Holds e (after st m) ws r → Holds e st (w ∷ ws) (mapped (made st m) r)
later e st w ws m q l (parsed u) (p, h) = (made_words st w.text m q u ∙ ap (λ (r : List Text). w.text ∷ r) p, omega (arith, made_depth st w.text m q u))
later e st w ws m q l (unexpected p) (i, f, h) = (suc i, fault_later st w.text (texts ws) m q l i f, h)
later e st w ws m q l (too_deep p) (i, f, h) = (suc i, too_deep_later st w.text (texts ws) m q l i f, h)

-- a word that may not come
unexpected_here : (e : ℕ) (st : Stack) (w : Word) (ws : List Word) → step (top st) w.text ≡ none → Holds e st (w ∷ ws) (unexpected w.place)
unexpected_here e st w ws q = (0, record { within = zero-le; before = begun st; at_word = λ k g. refused st w.text q g.0 g.1 g.2; at_end = λ k. absurd (omega arith) }, refl)

-- some trees go on after a word that may come
pub allowed_here : (st : Stack) (w : Text) (m : Transition (top st)) → step (top st) w ≡ some m → GoesOn st (w ∷ [])
allowed_here st w m q = let u = (some_fill (after st m)).0 in further st w m q [] (u, fill_words (after st m) u, refl)

-- a word that begins a case too deep
pub too_deep_here : (st : Stack) (w : Text) (ws : List Text) (m : Transition (top st)) → step (top st) w ≡ some m → depth_limit < m.opens → TooDeep st (w ∷ ws) 0
too_deep_here st w ws m q l = record { within = omega arith; before = begun st; allowed = allowed_here st w m q; too_deep = λ g. let (l', g') = back_within st w m q [] g in omega arith }

-- the end
holds_ended : (e : ℕ) (st : Stack) → Holds e st [] (ended e st)
holds_ended e modules = (refl, zero-le)
holds_ended e (await i st) = (0, record { within = zero-le; before = begun (await i st); at_word = λ k. absurd (omega arith); at_end = λ k t g. never_empty i st t g }, refl)

-- what is read holds
pub read_holds : (e : ℕ) (ws : List Word) (st : Stack) → Holds e st ws (read e st ws)
read_holds e [] st = holds_ended e st
read_holds e (w ∷ ws) st = go (step (top st) w.text) refl (read_holds e ws)
  where
    too_deep_or : (m : Transition (top st)) → step (top st) w.text ≡ some m → Holds e (after st m) ws (read e (after st m) ws) → (b : Bool) → ltb depth_limit m.opens ≡ b → Holds e st (w ∷ ws) (too_deep_if b w.place (mapped (made st m) (read e (after st m) ws)))
    too_deep_or m q h true c = (0, too_deep_here st w.text (texts ws) m q (ltb-true depth_limit m.opens c), refl)
    too_deep_or m q h false c = later e st w ws m q (ltb-false depth_limit m.opens c) (read e (after st m) ws) h

    go : (o : Option (Transition (top st))) → step (top st) w.text ≡ o → ((st' : Stack) → Holds e st' ws (read e st' ws)) → Holds e st (w ∷ ws) (advance w.place st o (λ st'. read e st' ws))
    go none q ih = unexpected_here e st w ws q
    go (some m) q ih = too_deep_or m q (ih (after st m)) (ltb depth_limit m.opens) refl

-- no two trees of a stack have the same words
pub one_fill : (ws : List Text) (st : Stack) (t u : Fill st) → fill_words st t ≡ ws → fill_words st u ≡ ws → t ≡ u
one_fill [] modules [] [] p q = refl
one_fill [] modules [] (m ∷ ms) p q = absurd (never_empty a_module modules (m, ms) q)
one_fill [] modules (m ∷ ms) u p q = absurd (never_empty a_module modules (m, ms) p)
one_fill [] (await i st) t u p q = absurd (never_empty i st t p)
one_fill (w ∷ ws) st t u p q =
    by_step st w t ws p (λ m s.
    let (a, x) = taken st w m s t ws p in
    let (b, y) = taken st w m s u ws q in
    let xw = ap (fill_words st) x in
    let yw = ap (fill_words st) y in
    let aw = made_words st w m s a in
    let bw = made_words st w m s b in
    sym x ∙ ap (made st m) (one_fill ws (after st m) a b (cc) (cc)) ∙ y)
