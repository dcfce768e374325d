-- A block's first word is that of its place, so no place has two numbers.
use Rattle.std.proofs.Common.{◌≡◌, ℕ, zero, suc, ◌+◌, ◌<◌, ◌≤◌, Bool, true, false, ltb, List, [], ◌∷◌, ◌++◌, length, Some, sym, refl, ap, ◌∙◌, arith, length-append}
use mathlib.Core.Option.{none, some}
use Rattle.std.proofs.lemmas.Bool.{ltb-true, ltb-false}
use Rattle.words.specs.Bytes.{Text}
use Rattle.words.specs.Vocabulary.{IF, ALPHABET, EQUALS}
use Rattle.grammar.specs.Tree.{Body, act_cases, acts_flow, Case, if, while, Cases, no_more, more, Inside, cases, body, Module, module', Program, program}
use Rattle.grammar.specs.Render.{render, acts_words, flow_words, symbols_words, braced, body_words, case_words, cases_words, inside_words, module_words, modules_words}
use Rattle.meaning.specs.Blocks.{Part, parts, Block, some_case, part_length, part_blocks, later_part_blocks, rest_blocks, case_blocks, cases_blocks, switch_blocks, inside_blocks, modules_blocks, modules_at, start, settled, drafts, blocks}
use Rattle.meaning.specs.Splits.{Rising}
use Rattle.meaning.specs.Language.{Behind, of_case, of_module, Point, body_start}
use Rattle.meaning.specs.Points.{part_points, later_part_points, rest_points, case_points, cases_points, switch_points, inside_points, modules_points, points, nth, Numbered, parts_length, words_behind, words_from, index_at}
use Rattle.meaning.proofs.Order.{parts_filled, braced_length, numbers_in_order}
use Rattle.meaning.proofs.Agree.{settled_length}

pub nth_below : (xs : List Point) (q : ℕ) (s : Point) → nth xs q ≡ Some s → q < length xs
nth_below [] q s e = absurd cc
nth_below (x ∷ xs) zero s e = omega arith
nth_below (x ∷ xs) (suc q) s e = let z = nth_below xs q s e in omega arith

-- blocks in step with places; n is the number of words to the end
abbrev Placed : ℕ → List (Block Text) → List Point → Type 0
Placed n [] [] = Unit {0}
Placed n [] (x ∷ xs) = ⊥
Placed n (b ∷ bs) [] = ⊥
Placed n (b ∷ bs) (x ∷ xs) = (b.index + words_from x ≡ n) × Placed n bs xs

placed-++ : (n : ℕ) (bs cs : List (Block Text)) (xs ys : List Point) → Placed n bs xs → Placed n cs ys → Placed n (bs ++ cs) (xs ++ ys)
placed-++ n [] cs [] ys h k = k
placed-++ n [] cs (x ∷ xs) ys h k = absurd h
placed-++ n (b ∷ bs) cs [] ys h k = absurd h
placed-++ n (b ∷ bs) cs (x ∷ xs) ys h k = (h.0, placed-++ n bs cs xs ys h.1 k)

row_placed : (n : ℕ) (ps : List Part) (behind : Bool) (cs : Cases) (out : Behind) (i q : ℕ) → i + (parts_length ps + length (cases_words cs) + words_behind out) ≡ n → Placed n (part_blocks ps behind i q) (part_points ps cs out)
row_placed n [] behind cs out i q e = tt
row_placed n (p ∷ ps) behind cs out i q e = (e, row_placed n ps behind cs out (i + part_length p) (suc q) (omega arith))

rest_row_placed : (n : ℕ) (ps : List Part) (behind : Bool) (cs : Cases) (out : Behind) (i q : ℕ) → i + (parts_length ps + length (cases_words cs) + words_behind out) ≡ n → Placed n (later_part_blocks ps behind i q) (later_part_points ps cs out)
rest_row_placed n [] behind cs out i q e = tt
rest_row_placed n (p ∷ ps) behind cs out i q e = row_placed n ps behind cs out (i + part_length p) q (omega arith)

mutual
  rest_placed : (b : Body) (out : Behind) (n i q : ℕ) → i + length (body_words b) + words_behind out ≡ n → Placed n (rest_blocks b i q) (rest_points b out)
  rest_placed (act_cases a xs cs) out n i q e =
      let ps = parts (a ∷ xs) none in
      let t : parts_length ps ≡ length (acts_words (a ∷ xs)) + 0 = (parts_filled (a ∷ xs) none).1 in
      let rest = later_part_blocks ps (some_case cs) i q in
      let j = i + length (acts_words (a ∷ xs)) in
      let l = length-append (acts_words (a ∷ xs)) (cases_words cs) in
      placed-++ n rest (switch_blocks cs j (q + length rest)) (later_part_points ps cs out) (switch_points cs out)
      (rest_row_placed n ps (some_case cs) cs out i q (omega arith))
      (switch_placed cs out n j (q + length rest) (omega arith))
  rest_placed (acts_flow xs f) out n i q e =
      let t : parts_length (parts xs (some f)) ≡ length (acts_words xs) + length (flow_words f) = (parts_filled xs (some f)).1 in
      let l = length-append (acts_words xs) (flow_words f) in
      rest_row_placed n (parts xs (some f)) false no_more out i q (omega arith)

  -- the brace that closes the case counts as behind it
  case_placed : (c : Case) (out : Behind) (n i q : ℕ) → i + length (case_words c) + words_behind out ≡ n + 1 → Placed n (case_blocks c i q) (case_points c out)
  case_placed (if ss b) out n i q e =
      let l = length-append (IF ∷ symbols_words ss) (braced (body_words b)) in
      let m = braced_length (body_words b) in
      rest_placed b out n (i + length (symbols_words ss) + 2) q (omega arith)
  case_placed (while ss o) out n i q e = tt

  cases_placed : (cs : Cases) (out : Behind) (n i q : ℕ) → i + length (cases_words cs) + words_behind out ≡ n → Placed n (cases_blocks cs i q) (cases_points cs out)
  cases_placed no_more out n i q e = tt
  cases_placed (more c cs) out n i q e =
      let inner = case_blocks c i q in
      let j = i + length (case_words c) in
      let l = length-append (case_words c) (cases_words cs) in
      placed-++ n inner (cases_blocks cs j (q + length inner)) (case_points c (of_case cs out)) (cases_points cs out)
      (case_placed c (of_case cs out) n i q (omega arith)) (cases_placed cs out n j (q + length inner) (omega arith))

  switch_placed : (cs : Cases) (out : Behind) (n i q : ℕ) → i + length (cases_words cs) + words_behind out ≡ n → Placed n (switch_blocks cs i q) (switch_points cs out)
  switch_placed no_more out n i q e = tt
  switch_placed (more c cs) out n i q e =
      let inner = case_blocks c i (suc q) in
      let j = i + length (case_words c) in
      let l = length-append (case_words c) (cases_words cs) in (
        omega arith,
        placed-++ n inner (cases_blocks cs j (suc q + length inner)) (case_points c (of_case cs out)) (cases_points cs out)
            (case_placed c (of_case cs out) n i (suc q) (omega arith)) (cases_placed cs out n j (suc q + length inner) (omega arith)),
      )

body_placed : (b : Body) (out : Behind) (n i : ℕ) → i + length (body_words b) + words_behind out ≡ n → i + words_from (body_start b out) ≡ n
body_placed (act_cases a xs cs) out n i e =
    let t : parts_length (parts (a ∷ xs) none) ≡ length (acts_words (a ∷ xs)) + 0 = (parts_filled (a ∷ xs) none).1 in
    let l = length-append (acts_words (a ∷ xs)) (cases_words cs) in
    omega arith
body_placed (acts_flow xs f) out n i e =
    let t : parts_length (parts xs (some f)) ≡ length (acts_words xs) + length (flow_words f) = (parts_filled xs (some f)).1 in
    let l = length-append (acts_words xs) (flow_words f) in
    omega arith

inside_placed : (x : Inside) (out : Behind) (n i q : ℕ) → i + length (inside_words x) + words_behind out ≡ n → Placed n (inside_blocks x i q) (inside_points x out)
inside_placed (cases c cs) out n i q e = switch_placed (more c cs) out n i q e
inside_placed (body b) out n i q e = (body_placed b out n i e, rest_placed b out n i (suc q) e)

modules_placed : (ms : List Module) (n i q : ℕ) → i + length (modules_words ms) ≡ n → Placed n (modules_blocks ms i q) (modules_points ms)
modules_placed [] n i q e = tt
modules_placed (module' nm x ∷ ms) n i q e =
    let inner = inside_blocks x (i + 3) q in
    let j = i + length (module_words (module' nm x)) in
    let l = length-append (module_words (module' nm x)) (modules_words ms) in
    let m = braced_length (inside_words x) in
    placed-++ n inner (modules_blocks ms j (q + length inner)) (inside_points x (of_module ms)) (modules_points ms)
    (inside_placed x (of_module ms) n (i + 3) q (omega arith)) (modules_placed ms n j (q + length inner) (omega arith))

settled_place : (at' : Text → ℕ) (bs : List (Block Text)) (q : ℕ) → index_at (settled at' bs) q ≡ index_at bs q
settled_place at' [] q = refl
settled_place at' (b ∷ bs) zero = refl
settled_place at' (b ∷ bs) (suc q) = settled_place at' bs q

placed_at : (n : ℕ) (bs : List (Block Text)) (xs : List Point) (q : ℕ) (s : Point) → Placed n bs xs → nth xs q ≡ Some s → index_at bs q + words_from s ≡ n
placed_at n [] [] q s h e = absurd cc
placed_at n [] (x ∷ xs) q s h e = absurd h
placed_at n (b ∷ bs) [] q s h e = absurd h
placed_at n (b ∷ bs) (x ∷ xs) zero s h e = let g : x ≡ s = cc in ap (λ y. b.index + words_from y) (sym g) ∙ h.0
placed_at n (b ∷ bs) (x ∷ xs) (suc q) s h e = placed_at n bs xs q s h.1 e

placed_length : (n : ℕ) (bs : List (Block Text)) (xs : List Point) → Placed n bs xs → length bs ≡ length xs
placed_length n [] [] h = refl
placed_length n [] (x ∷ xs) h = absurd h
placed_length n (b ∷ bs) [] h = absurd h
placed_length n (b ∷ bs) (x ∷ xs) h = ap suc (placed_length n bs xs h.1)

all_placed : (t : Program) → Placed (length (render t)) (drafts t) (points t)
all_placed (program ss m ms) =
    let t = program ss m ms in
    let l = length-append ((ALPHABET ∷ EQUALS ∷ braced (symbols_words ss)) ++ module_words m) (modules_words ms) in
    let k = length-append (ALPHABET ∷ EQUALS ∷ braced (symbols_words ss)) (module_words m) in
    let j = length-append (module_words m) (modules_words ms) in
    let b = braced_length (symbols_words ss) in
    modules_placed (m ∷ ms) (length (render t)) (modules_at t) 0 (omega arith)

pub index_is : (t : Program) (q : ℕ) (s : Point) → Numbered t q s → index_at (blocks t) q + words_from s ≡ length (render t)
index_is t q s h = ap (λ p. p + words_from s) (settled_place (start t) (drafts t) q) ∙ placed_at (length (render t)) (drafts t) (points t) q s (all_placed t) h

-- places rise
ordered_low : (lo hi : ℕ) (bs : List (Block ℕ)) (q : ℕ) → Rising lo bs hi → q < length bs → lo ≤ index_at bs q
ordered_low lo hi [] q o l = absurd (omega arith)
ordered_low lo hi (b ∷ bs) zero o l = o.0
ordered_low lo hi (b ∷ bs) (suc q) o l = let z = ordered_low (suc b.index) hi bs q o.1 (omega arith) in let y = o.0 in omega arith

pub ordered_less : (lo hi : ℕ) (bs : List (Block ℕ)) (q r : ℕ) → Rising lo bs hi → q < r → r < length bs → index_at bs q < index_at bs r
ordered_less lo hi [] q r o h l = absurd (omega arith)
ordered_less lo hi (b ∷ bs) q zero o h l = absurd (omega arith)
ordered_less lo hi (b ∷ bs) zero (suc r) o h l = let z = ordered_low (suc b.index) hi bs r o.1 (omega arith) in omega arith
ordered_less lo hi (b ∷ bs) (suc q) (suc r) o h l = ordered_less (suc b.index) hi bs q r o.1 (omega arith) (omega arith)

no_less : (t : Program) (q r : ℕ) (s : Point) → Numbered t q s → Numbered t r s → q < r → ⊥
no_less t q r s h k l =
    let n = length (render t) in
    let p = index_is t q s h in
    let p' = index_is t r s k in
    let b = nth_below (points t) r s k in
    let m = placed_length n (drafts t) (points t) (all_placed t) in
    let m' = settled_length (start t) (drafts t) in
    let o = ordered_less 0 n (blocks t) q r (numbers_in_order t) l (omega arith) in
    omega arith

pub only_one : (t : Program) (q r : ℕ) (s : Point) → Numbered t q s → Numbered t r s → q ≡ r
only_one t q r s h k = let a = no_less t q r s h k in let b = no_less t r q s k h in by (ltb q r) (ltb r q) refl refl a b
  where
    by : (v w : Bool) → ltb q r ≡ v → ltb r q ≡ w → (q < r → ⊥) → (r < q → ⊥) → q ≡ r
    by true w e f a b = absurd (a (ltb-true q r e))
    by false true e f a b = absurd (b (ltb-true r q f))
    by false false e f a b = let x = ltb-false q r e in let y = ltb-false r q f in omega arith
