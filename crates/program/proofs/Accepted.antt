-- A program without violations is in range, and its letters are those of an alphabet.
use Rattle.std.proofs.Common.{◌≡◌, ℕ, suc, ◌+◌, ◌<◌, ◌≤◌, Bool, true, false, cond, not, ◌&&◌, ◌||◌, leb, List, [], ◌∷◌, ◌++◌, map, length, Some, None, Option, sym, refl, ap, ◌∙◌, arith, length-append}
use mathlib.Core.Option.{none, some}
use Rattle.std.proofs.lemmas.Bool.{and_from, lt-ltb, le-leb, not-false, false≢true}
use Rattle.tape.specs.Meaning.{all_codes}
use Rattle.words.specs.Bytes.{Text}
use Rattle.words.specs.Vocabulary.{same}
use Rattle.grammar.specs.Tree.{Body, act_cases, acts_flow, Case, if, while, Cases, no_more, more, Inside, cases, body, Module, module', Program, program}
use Rattle.grammar.specs.Render.{acts_words, symbols_words, case_words, module_words}
use Rattle.meaning.specs.declared.faults.Cause.TheVariants.{Letter, Repeated, Missing}
use Rattle.meaning.specs.Codes.{member, different, columns}
use Rattle.meaning.specs.Blocks.{Part, parts, Then, again, accepting, rejecting, jump, next, end, Basic, Kind, basic, switch, Block, some_case, case_basic, case_codes, lead, part_length, part_blocks, later_part_blocks, rest_blocks, case_blocks, cases_blocks, switch_blocks, arms, inside_blocks, modules_blocks, modules_at, alphabet, drafts, start_in, start, settled_then, settled_basic, settled_arms, settled_kind, settled, blocks, kinds, compiled}
use Rattle.meaning.specs.Rules.{block_rows}
use Rattle.meaning.specs.Faults.{flag, Known, named, alphabet_faults, names_faults, acts_faults, indexed, switch_symbols, symbol_faults, codes_of, covered, switch_faults, body_faults, case_faults, cases_faults, inside_faults, modules_faults, too_many, limit_faults, module_names, known, faults}
use Rattle.meaning.specs.Tables.{Each}
use Rattle.meaning.proofs.Agree.{rows_length, settled_length, kinds_length}
use Rattle.meaning.proofs.Clean.{Unseen}
use Rattle.meaning.proofs.Ranges.{nil_parts, no_flag, each-++, fewer, not_there, WriteWithin, ThenWithin, BasicWithin, KindWithin, BlockWithin, modules_within, modules_some, translates_within}
use Rattle.alphabet.specs.Columns.{letters_fit}
use Rattle.program.specs.Store.{all_among, write_fits, then_fits, basic_fits}
use Rattle.program.specs.Arms.{arms_fit, switch_fits}
use Rattle.program.specs.Ranges.{arm_codes}
use Rattle.program.specs.InRange.{kind_fits, blocks_fit, in_range}
use Rattle.program.specs.Laws.{AcceptedFit}
use Rattle.program.proofs.Whole.{fewer_among}

-- the symbols of a switch that is not told
symbols_told : (cols seen : List ℕ) (ss : List (ℕ × ℕ)) → symbol_faults cols seen ss ≡ [] → (all_among (codes_of ss) cols ≡ true) × Unseen seen (codes_of ss) × (different (codes_of ss) ≡ true)
symbols_told cols seen [] e = (refl, tt, refl)
symbols_told cols seen (s ∷ ss) e =
    let p = nil_parts (cond (member s.0 cols) (flag (member s.0 seen) s.1 Repeated) (flag true s.1 Letter)) (symbol_faults cols (s.0 ∷ seen) ss) e in
    let r = symbols_told cols (s.0 ∷ seen) ss p.1 in
    let h = at (member s.0 cols) p.0 in
    (grind arith, (h.1, fewer s.0 seen (codes_of ss) r.1), grind (arith, not_there s.0 seen (codes_of ss) r.1))
  where
    at : (b : Bool) → cond b (flag (member s.0 seen) s.1 Repeated) (flag true s.1 Letter) ≡ [] → (b ≡ true) × (member s.0 seen ≡ false)
    at true f = (refl, no_flag (member s.0 seen) s.1 Repeated f)
    at false f = absurd (grind arith)

-- the codes of a switch, in its faults and in its arms
abbrev heads : List (ℕ × Basic Text) → List ℕ
heads as' = map (λ a. a.0) as'

lead_heads : (cs : List ℕ) (b : Basic Text) (others : List (ℕ × Basic Text)) → heads (lead cs b ++ others) ≡ cs ++ heads others
lead_heads [] b others = refl
lead_heads (c ∷ cs) b others = ap (λ l. c ∷ l) (lead_heads cs b others)

indexed_codes : (cs : List ℕ) (i : ℕ) (others : List (ℕ × ℕ)) → codes_of (indexed cs i ++ others) ≡ cs ++ codes_of others
indexed_codes [] i others = refl
indexed_codes (c ∷ cs) i others = ap (λ l. c ∷ l) (indexed_codes cs (i + 2) others)

arms_heads : (cs : Cases) (i j q : ℕ) → heads (arms cs i q) ≡ codes_of (switch_symbols cs j)
arms_heads no_more i j q = refl
arms_heads (more c cs) i j q =
    lead_heads (case_codes c) (case_basic c q) _ ∙ ap (λ l. case_codes c ++ l) (arms_heads cs (i + length (case_words c)) (j + length (case_words c)) (q + length (case_blocks c i q)))
    ∙ sym (indexed_codes (case_codes c) (j + 1) (switch_symbols cs (j + length (case_words c))))

module _ (cols : List ℕ) (ns : List Text) (differ : different cols ≡ true) where
  abbrev k : Known
  k = record { symbols = cols; names = ns }

  -- a switch has each column exactly once
  abbrev KindWhole : Kind Text → Type 0
  KindWhole (basic b) = Unit {0}
  KindWhole (switch as') = switch_fits cols (heads as') ≡ true

  abbrev Whole : Block Text → Type 0
  Whole b = KindWhole b.kind

  whole_fits : (cs : List ℕ) → all_among cs cols ≡ true → all_among cols cs ≡ true → different cs ≡ true → switch_fits cols cs ≡ true
  whole_fits cs a b d = grind (arith, fewer_among cs cols d a, fewer_among cols cs differ b)

  covered_all : (cs those : List ℕ) → covered cs those ≡ all_among cs those
  covered_all [] those = refl
  covered_all (c ∷ cs) those = ap (λ b. member c those && b) (covered_all cs those)

  switch_told : (c : Case) (cs : Cases) (j : ℕ) → switch_faults k (more c cs) j ≡ [] → switch_fits cols (codes_of (switch_symbols (more c cs) j)) ≡ true
  switch_told c cs j e =
      let ss = switch_symbols (more c cs) j in
      let p = nil_parts (symbol_faults cols [] ss) (flag (not (covered cols (codes_of ss))) j Missing) e in
      let r = symbols_told cols [] ss p.0 in
      whole_fits (codes_of ss) r.0 (sym (covered_all cols (codes_of ss)) ∙ not-false (covered cols (codes_of ss)) (no_flag (not (covered cols (codes_of ss))) j Missing p.1)) r.2

  -- basic blocks are none
  parts_whole : (ps : List Part) (behind : Bool) (i q : ℕ) → Each Whole (part_blocks ps behind i q)
  parts_whole [] behind i q = tt
  parts_whole (p ∷ ps) behind i q = (tt, parts_whole ps behind (i + part_length p) (suc q))

  later_whole : (ps : List Part) (behind : Bool) (i q : ℕ) → Each Whole (later_part_blocks ps behind i q)
  later_whole [] behind i q = tt
  later_whole (p ∷ ps) behind i q = parts_whole ps behind (i + part_length p) q

  mutual
    rest_whole : (b : Body) (i q j : ℕ) → body_faults b k j ≡ [] → Each Whole (rest_blocks b i q)
    rest_whole (act_cases a xs cs) i q j e =
        let rest = later_part_blocks (parts (a ∷ xs) none) (some_case cs) i q in
        let at = i + length (acts_words (a ∷ xs)) in
        let jt = j + length (acts_words (a ∷ xs)) in
        let f = nil_parts (acts_faults k (a ∷ xs) j ++ switch_faults k cs jt) (cases_faults cs k jt) e in
        let g = nil_parts (acts_faults k (a ∷ xs) j) (switch_faults k cs jt) f.0 in
        each-++ Whole rest (switch_blocks cs at (q + length rest)) (later_whole (parts (a ∷ xs) none) (some_case cs) i q) (switch_whole cs at (q + length rest) jt g.1 f.1)
    rest_whole (acts_flow xs f) i q j e = later_whole (parts xs (some f)) false i q

    case_whole : (c : Case) (i q j : ℕ) → case_faults c k j ≡ [] → Each Whole (case_blocks c i q)
    case_whole (if ss b) i q j e = rest_whole b (i + length (symbols_words ss) + 2) q (j + length (symbols_words ss) + 2) e
    case_whole (while ss o) i q j e = tt

    cases_whole : (cs : Cases) (i q j : ℕ) → cases_faults cs k j ≡ [] → Each Whole (cases_blocks cs i q)
    cases_whole no_more i q j e = tt
    cases_whole (more c cs) i q j e =
        let inner = case_blocks c i q in
        let at = i + length (case_words c) in
        let jt = j + length (case_words c) in
        let f = nil_parts (case_faults c k j) (cases_faults cs k jt) e in
        each-++ Whole inner (cases_blocks cs at (q + length inner)) (case_whole c i q j f.0) (cases_whole cs at (q + length inner) jt f.1)

    switch_whole : (cs : Cases) (i q j : ℕ) → switch_faults k cs j ≡ [] → cases_faults cs k j ≡ [] → Each Whole (switch_blocks cs i q)
    switch_whole no_more i q j s e = tt
    switch_whole (more c cs) i q j s e =
        let inner = case_blocks c i (suc q) in
        let at = i + length (case_words c) in
        let jt = j + length (case_words c) in
        let r = suc q + length inner in
        let f = nil_parts (case_faults c k j) (cases_faults cs k jt) e in
        (ap (switch_fits cols) (arms_heads (more c cs) i j (suc q)) ∙ switch_told c cs j s, each-++ Whole inner (cases_blocks cs at r) (case_whole c i (suc q) j f.0) (cases_whole cs at r jt f.1))

  inside_whole : (x : Inside) (i q j : ℕ) → inside_faults k x j ≡ [] → Each Whole (inside_blocks x i q)
  inside_whole (cases c cs) i q j e = let f = nil_parts (switch_faults k (more c cs) j) (cases_faults (more c cs) k j) e in switch_whole (more c cs) i q j f.0 f.1
  inside_whole (body b) i q j e = (tt, rest_whole b i (suc q) j e)

  modules_whole : (ms : List Module) (i q j : ℕ) → modules_faults k ms j ≡ [] → Each Whole (modules_blocks ms i q)
  modules_whole [] i q j e = tt
  modules_whole (module' nm x ∷ ms) i q j e =
      let inner = inside_blocks x (i + 3) q in
      let at = i + length (module_words (module' nm x)) in
      let jt = j + length (module_words (module' nm x)) in
      let f = nil_parts (inside_faults k x (j + 3)) (modules_faults k ms jt) e in
      each-++ Whole inner (modules_blocks ms at (q + length inner)) (inside_whole x (i + 3) q (j + 3) f.0) (modules_whole ms at (q + length inner) jt f.1)

  -- blocks with their gotos settled
  module _ (at : Text → ℕ) (n : ℕ) (leads : (w : Text) → named w ns ≡ true → at w < n) where
    write_settled : (w : Option ℕ) → WriteWithin cols w → write_fits cols w ≡ true
    write_settled None h = refl
    write_settled (Some c) h = h

    then_settled : (x : Then Text) → ThenWithin ns n x → then_fits n (settled_then at x) ≡ true
    then_settled again h = refl
    then_settled accepting h = refl
    then_settled rejecting h = refl
    then_settled (jump w) h = lt-ltb (at w) n (leads w h)
    then_settled (next r) h = lt-ltb r n h
    then_settled end h = refl

    basic_settled : (b : Basic Text) → BasicWithin cols ns n b → basic_fits cols n (settled_basic at b) ≡ true
    basic_settled b h = grind (arith, write_settled b.write h.0, then_settled b.then h.1)

    arms_settled : (as' : List (ℕ × Basic Text)) → Each (λ (a : ℕ × Basic Text). BasicWithin cols ns n a.1) as' → arms_fit cols n (settled_arms at as') ≡ true
    arms_settled [] h = refl
    arms_settled (a ∷ as') h = grind (arith, basic_settled a.1 h.0, arms_settled as' h.1)

    heads_settled : (as' : List (ℕ × Basic Text)) → arm_codes (settled_arms at as') ≡ heads as'
    heads_settled [] = refl
    heads_settled (a ∷ as') = ap (λ l. a.0 ∷ l) (heads_settled as')

    kind_settled : (x : Kind Text) → KindWithin cols ns n x → KindWhole x → kind_fits cols n (settled_kind at x) ≡ true
    kind_settled (basic b) h v = basic_settled b h
    kind_settled (switch as') h v = grind (arith, heads_settled as', arms_settled as' h)

    all_settled : (bs : List (Block Text)) → Each (BlockWithin cols ns n) bs → Each Whole bs → blocks_fit cols n (kinds (settled at bs)) ≡ true
    all_settled [] h v = refl
    all_settled (b ∷ bs) h v = grind (arith, kind_settled b.kind h.0 v.0, all_settled bs h.1 v.1)

-- a module's first block is one of the program's
start_below : (ms : List Module) (i q : ℕ) (w : Text) → named w (module_names ms) ≡ true → start_in ms i q w < q + length (modules_blocks ms i q)
start_below [] i q w h = absurd (false≢true h)
start_below (module' nm x ∷ ms) i q w h = by (same w nm.word) h (start_below ms at (q + length inner) w)
  where
    at : ℕ
    at = i + length (module_words (module' nm x))

    inner : List (Block Text)
    inner = inside_blocks x (i + 3) q

    by : (b : Bool) → b || named w (module_names ms) ≡ true → (named w (module_names ms) ≡ true → start_in ms at (q + length inner) w < q + length inner + length (modules_blocks ms at (q + length inner)))
        → cond b q (start_in ms at (q + length inner) w) < q + length (inner ++ modules_blocks ms at (q + length inner))
    by true m ih = omega (arith, modules_some (module' nm x) ms i q)
    by false m ih = omega (arith, length-append inner (modules_blocks ms at (q + length inner)), ih m)

pub accepted_fit : AcceptedFit
accepted_fit (program ss m ms) e =
    let t = program ss m ms in
    let cols = columns (alphabet t) in
    let ns = module_names (m ∷ ms) in
    let i = modules_at t in
    let bs = drafts t in
    let n = length bs in
    let w = translates_within t e in
    let f₁ = nil_parts (alphabet_faults (0 ∷ []) (alphabet t) 3 ++ names_faults [] (m ∷ ms) i ++ modules_faults (known t) (m ∷ ms) i) (limit_faults (length cols) 0 bs) e in
    let f₂ = nil_parts (alphabet_faults (0 ∷ []) (alphabet t) 3 ++ names_faults [] (m ∷ ms) i) (modules_faults (known t) (m ∷ ms) i) f₁.0 in
    let many : length (kinds (blocks t)) ≡ n = kinds_length (blocks t) ∙ settled_length (start t) bs in
    let rows : length (block_rows cols 0 (kinds (blocks t))) ≡ n = rows_length cols 0 (kinds (blocks t)) ∙ many in
    let few : too_many n (length cols) ≡ false = ap (λ r. too_many r (length cols)) (sym rows) ∙ w.few in
    let fit : blocks_fit cols n (kinds (blocks t)) ≡ true =
    all_settled cols ns w.differ (start t) n (λ x h. let z = start_below (m ∷ ms) i 0 x h in omega arith) bs (modules_within cols ns (m ∷ ms) i 0 n i f₂.1 (omega arith)) (modules_whole cols ns w.differ (m ∷ ms) i 0 i f₂.1) in
    ap (λ c. leb 1 c && (not (too_many c (length cols)) && blocks_fit cols c (kinds (blocks t)))) many
    ∙ and_from (leb 1 n) (not (too_many n (length cols)) && blocks_fit cols n (kinds (blocks t))) (le-leb 1 n (modules_some m ms i 0)) (and_from (not (too_many n (length cols))) (blocks_fit cols n (kinds (blocks t))) (ap not few) fit)

codes_fit : (cs : List ℕ) → Each (λ c. c ≤ 36) cs → all_codes cs ≡ true
codes_fit [] h = refl
codes_fit (c ∷ cs) h = and_from (leb c 36) (all_codes cs) (le-leb c 36 h.0) (codes_fit cs h.1)

-- such a program can be put together: of its letters an alphabet can be made, and it is in range
pub accepted_letters : (t : Program) → faults t ≡ [] → letters_fit (alphabet t) ≡ true
accepted_letters t e =
    let w = translates_within t e in
    let cs = alphabet t in
    and_from (leb 1 (length cs)) (all_codes cs && different (columns cs)) (le-leb 1 (length cs) w.lettered) (and_from (all_codes cs) (different (columns cs)) (codes_fit cs w.codes) w.differ)

pub accepted_whole : (t : Program) → faults t ≡ [] → letters_fit (alphabet t) && in_range (compiled t) ≡ true
accepted_whole t e = and_from (letters_fit (alphabet t)) (in_range (compiled t)) (accepted_letters t e) (accepted_fit t e)
