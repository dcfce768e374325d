-- The blocks stand in the order of their first words.
use Rattle.std.proofs.Common.{◌≡◌, ℕ, suc, ◌+◌, ◌≤◌, Bool, true, false, cond, ltb, List, [], ◌∷◌, ◌++◌, length, refl, arith, length-append}
use mathlib.Core.Option.{Option as Maybe, none, some}
use Rattle.std.proofs.lemmas.Bool.{false≢true}
use Rattle.words.specs.Bytes.{Text}
use Rattle.words.specs.Vocabulary.{Symbol, CLOSE, IF, WHILE, ALPHABET, EQUALS}
use Rattle.grammar.specs.Tree.{Direction as WrittenDirection, left, right, Act, change, move, Flow, accept, reject, goto, Body, act_cases, acts_flow, Case, if, while, Cases, no_more, more, Inside, cases, body, Module, module', program}
use Rattle.grammar.specs.Render.{render, act_words, acts_words, flow_words, once_words, symbols_words, braced, body_words, case_words, cases_words, inside_words, module_words, modules_words}
use Rattle.meaning.specs.Blocks.{Part, rank, first_rank, before, ending, joined, parts, Block, some_case, part_length, part_blocks, later_part_blocks, rest_blocks, case_blocks, cases_blocks, switch_blocks, inside_blocks, modules_blocks, modules_at, start, settled, drafts, flow_length}
use Rattle.meaning.specs.Tables.{Each}
use Rattle.meaning.specs.Points.{parts_length as total}
use Rattle.meaning.specs.Splits.{Rising, NumbersInOrder}
use Rattle.meaning.proofs.Splits.{part}

abbrev Drafts : Type 0
Drafts = List (Block Text)

lower : (lo lo' : ℕ) (bs : Drafts) (hi : ℕ) → lo' ≤ lo → Rising lo bs hi → Rising lo' bs hi
lower lo lo' [] hi h o = omega arith
lower lo lo' (b ∷ bs) hi h o = (let z = o.0 in omega arith, o.1)

higher : (lo : ℕ) (bs : Drafts) (hi hi' : ℕ) → hi ≤ hi' → Rising lo bs hi → Rising lo bs hi'
higher lo [] hi hi' h o = omega arith
higher lo (b ∷ bs) hi hi' h o = (o.0, higher (suc b.index) bs hi hi' h o.1)

together : (lo mid hi : ℕ) (xs ys : Drafts) → Rising lo xs mid → Rising mid ys hi → Rising lo (xs ++ ys) hi
together lo mid hi [] ys o p = lower mid lo ys hi o p
together lo mid hi (x ∷ xs) ys o p = (o.0, together (suc x.index) mid hi xs ys o.1 p)

-- no part is empty
abbrev Filled : List Part → Type 0
Filled ps = Each (λ p. 1 ≤ part_length p) ps

two_more : (a : Act) (w : Maybe Symbol) (m : Maybe WrittenDirection) (f : Maybe Flow) → ltb (rank a) (first_rank (part w m f)) ≡ true → part_length (before a (part w m f)) ≡ 2 + part_length (part w m f)
two_more (change s) none m f h = omega arith
two_more (change s) (some t) m f h = absurd (false≢true h)
two_more (move d) none none f h = omega arith
two_more (move d) none (some e) f h = absurd (false≢true h)
two_more (move d) (some t) m f h = absurd (false≢true h)

two : (a : Act) → part_length (before a (ending none)) ≡ 2
two (change s) = refl
two (move d) = refl

joined_filled : (a : Act) (ps : List Part) → Filled ps → Filled (joined a ps) × (total (joined a ps) ≡ 2 + total ps)
joined_filled a [] w = let z = two a in ((omega arith, tt), omega arith)
joined_filled a (p ∷ ps) w = at (ltb (rank a) (first_rank p)) refl
  where
    at : (b : Bool) → ltb (rank a) (first_rank p) ≡ b → let js = cond b (before a p ∷ ps) (before a (ending none) ∷ p ∷ ps) in Filled js × (total js ≡ 2 + total (p ∷ ps))
    at true e = let z = two_more a p.write p.move p.flow e in ((omega arith, w.1), omega arith)
    at false e = let z = two a in ((omega arith, w), omega arith)

act_length : (a : Act) → length (act_words a) ≡ 2
act_length (change s) = refl
act_length (move left) = refl
act_length (move right) = refl

flow_some : (f : Flow) → 1 ≤ length (flow_words f)
flow_some accept = omega arith
flow_some reject = omega arith
flow_some (goto n) = omega arith

pub parts_filled : (xs : List Act) (f : Maybe Flow) → Filled (parts xs f) × (total (parts xs f) ≡ length (acts_words xs) + flow_length f)
parts_filled [] none = (tt, omega arith)
parts_filled [] (some f) = let z = flow_some f in ((omega arith, tt), omega arith)
parts_filled (a ∷ xs) f =
    let r = parts_filled xs f in
    let j = joined_filled a (parts xs f) r.0 in
    (j.0, let s = r.1 in let t = j.1 in omega (arith, act_length a, length-append (act_words a) (acts_words xs)))

row_ordered : (ps : List Part) (behind : Bool) (i q : ℕ) → Filled ps → Rising i (part_blocks ps behind i q) (i + total ps)
row_ordered [] behind i q w = omega arith
row_ordered (p ∷ ps) behind i q w =
    let j = i + part_length p in
    (omega arith, higher (suc i) (part_blocks ps behind j (suc q)) (j + total ps) (i + total (p ∷ ps)) (omega arith) (lower j (suc i) (part_blocks ps behind j (suc q)) (j + total ps) (let z = w.0 in omega arith) (row_ordered ps behind j (suc q) w.1)))

rest_ordered : (ps : List Part) (behind : Bool) (i q : ℕ) → Filled ps → 1 ≤ total ps → Rising (suc i) (later_part_blocks ps behind i q) (i + total ps)
rest_ordered [] behind i q w h = omega arith
rest_ordered (p ∷ ps) behind i q w h =
    let j = i + part_length p in
    higher (suc i) (part_blocks ps behind j q) (j + total ps) (i + total (p ∷ ps)) (omega arith) (lower j (suc i) (part_blocks ps behind j q) (j + total ps) (let z = w.0 in omega arith) (row_ordered ps behind j q w.1))

pub braced_length : (ws : List Text) → length (braced ws) ≡ length ws + 2
braced_length ws = omega (arith, length-append ws (CLOSE ∷ []))

mutual
  body_ordered : (b : Body) (i q : ℕ) → Rising (suc i) (rest_blocks b i q) (i + length (body_words b))
  body_ordered (act_cases a xs cs) i q =
      let ps = parts (a ∷ xs) none in
      let f = parts_filled (a ∷ xs) none in
      let t : total ps ≡ length (acts_words (a ∷ xs)) + 0 = f.1 in
      let s : length (acts_words (a ∷ xs)) ≡ 2 + length (acts_words xs) = omega (arith, act_length a, length-append (act_words a) (acts_words xs)) in
      let rest = later_part_blocks ps (some_case cs) i q in
      let j = i + length (acts_words (a ∷ xs)) in
      let l = length-append (acts_words (a ∷ xs)) (cases_words cs) in
      let inner = switch_blocks cs j (q + length rest) in
      higher (suc i) (rest ++ inner) (j + length (cases_words cs)) (i + length (body_words (act_cases a xs cs))) (omega arith)
      (together (suc i) j (j + length (cases_words cs)) rest inner
      (higher (suc i) rest (i + total ps) j (omega arith) (rest_ordered ps (some_case cs) i q f.0 (omega arith)))
      (switch_ordered cs j (q + length rest)))
  body_ordered (acts_flow xs f) i q =
      let ps = parts xs (some f) in
      let g = parts_filled xs (some f) in
      let t : total ps ≡ length (acts_words xs) + length (flow_words f) = g.1 in
      let z = flow_some f in
      let l = length-append (acts_words xs) (flow_words f) in
      higher (suc i) (later_part_blocks ps false i q) (i + total ps) (i + length (body_words (acts_flow xs f))) (omega arith) (rest_ordered ps false i q g.0 (omega arith))

  case_ordered : (c : Case) (i q : ℕ) → Rising (suc i) (case_blocks c i q) (i + length (case_words c))
  case_ordered (if ss b) i q =
      let j = i + length (symbols_words ss) + 2 in
      let l = length-append (IF ∷ symbols_words ss) (braced (body_words b)) in
      let m = braced_length (body_words b) in
      higher (suc i) (rest_blocks b j q) (j + length (body_words b)) (i + length (case_words (if ss b))) (omega arith) (lower (suc j) (suc i) (rest_blocks b j q) (j + length (body_words b)) (omega arith) (body_ordered b j q))
  case_ordered (while ss o) i q = let l = length-append (WHILE ∷ symbols_words ss) (braced (once_words o)) in omega arith

  cases_ordered : (cs : Cases) (i q : ℕ) → Rising i (cases_blocks cs i q) (i + length (cases_words cs))
  cases_ordered no_more i q = omega arith
  cases_ordered (more c cs) i q =
      let inner = case_blocks c i q in
      let j = i + length (case_words c) in
      let rest = cases_blocks cs j (q + length inner) in
      let l = length-append (case_words c) (cases_words cs) in
      higher i (inner ++ rest) (j + length (cases_words cs)) (i + length (cases_words (more c cs))) (omega arith)
      (together i j (j + length (cases_words cs)) inner rest (lower (suc i) i inner j (omega arith) (case_ordered c i q)) (cases_ordered cs j (q + length inner)))

  switch_ordered : (cs : Cases) (i q : ℕ) → Rising i (switch_blocks cs i q) (i + length (cases_words cs))
  switch_ordered no_more i q = omega arith
  switch_ordered (more c cs) i q =
      let inner = case_blocks c i (suc q) in
      let j = i + length (case_words c) in
      let rest = cases_blocks cs j (suc q + length inner) in
      let l = length-append (case_words c) (cases_words cs) in (
        omega arith,
        higher (suc i) (inner ++ rest) (j + length (cases_words cs)) (i + length (cases_words (more c cs))) (omega arith)
            (together (suc i) j (j + length (cases_words cs)) inner rest (case_ordered c i (suc q)) (cases_ordered cs j (suc q + length inner))),
      )

inside_ordered : (x : Inside) (i q : ℕ) → Rising i (inside_blocks x i q) (i + length (inside_words x))
inside_ordered (cases c cs) i q = switch_ordered (more c cs) i q
inside_ordered (body b) i q = (omega arith, body_ordered b i (suc q))

modules_ordered : (ms : List Module) (i q : ℕ) → Rising i (modules_blocks ms i q) (i + length (modules_words ms))
modules_ordered [] i q = omega arith
modules_ordered (module' n x ∷ ms) i q =
    let inner = inside_blocks x (i + 3) q in
    let j = i + length (module_words (module' n x)) in
    let rest = modules_blocks ms j (q + length inner) in
    let l = length-append (module_words (module' n x)) (modules_words ms) in
    let m = braced_length (inside_words x) in
    higher i (inner ++ rest) (j + length (modules_words ms)) (i + length (modules_words (module' n x ∷ ms))) (omega arith)
    (together i j (j + length (modules_words ms)) inner rest
    (higher i inner (i + 3 + length (inside_words x)) j (omega arith) (lower (i + 3) i inner (i + 3 + length (inside_words x)) (omega arith) (inside_ordered x (i + 3) q)))
    (modules_ordered ms j (q + length inner)))

settled_ordered : (at : Text → ℕ) (lo : ℕ) (bs : Drafts) (hi : ℕ) → Rising lo bs hi → Rising lo (settled at bs) hi
settled_ordered at lo [] hi o = o
settled_ordered at lo (b ∷ bs) hi o = (o.0, settled_ordered at (suc b.index) bs hi o.1)

pub numbers_in_order : NumbersInOrder
numbers_in_order (program ss m ms) =
    let t = program ss m ms in
    let i = modules_at t in
    let l = length-append ((ALPHABET ∷ EQUALS ∷ braced (symbols_words ss)) ++ module_words m) (modules_words ms) in
    let k = length-append (ALPHABET ∷ EQUALS ∷ braced (symbols_words ss)) (module_words m) in
    let j = length-append (module_words m) (modules_words ms) in
    let b = braced_length (symbols_words ss) in
    settled_ordered (start t) 0 (drafts t) (length (render t))
    (higher 0 (drafts t) (i + length (modules_words (m ∷ ms))) (length (render t)) (omega arith) (lower i 0 (drafts t) (i + length (modules_words (m ∷ ms))) (omega arith) (modules_ordered (m ∷ ms) i 0)))
