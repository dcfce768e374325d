-- A switch of a program that keeps the rules has at most 37 arms.
use Rattle.std.proofs.Common.{◌≡◌, ℕ, suc, ◌+◌, ◌≤◌, Bool, true, false, cond, not, ◌||◌, eqb, List, [], ◌∷◌, ◌++◌, map, length, refl, ap, ap₂, arith, length-append}
use mathlib.Core.Option.{none, some}
use Rattle.std.proofs.lemmas.List.{take_all}
use Rattle.std.proofs.lemmas.Bool.{and_from, eq-eqb}
use Rattle.words.specs.Bytes.{Text}
use Rattle.words.specs.Vocabulary.{Symbol}
use Rattle.grammar.specs.Tree.{Symbols, symbols, Body, act_cases, acts_flow, Case, if, while, Cases, no_more, more, Inside, cases, body, Module, module', Program}
use Rattle.grammar.specs.Render.{acts_words, symbols_words, case_words, module_words}
use Rattle.meaning.specs.Codes.{code, member, different, columns}
use Rattle.meaning.specs.Blocks.{Part, parts, Basic, Kind, basic, switch, Block, symbols_codes, case_codes, case_basic, lead, some_case, part_length, part_blocks, later_part_blocks, rest_blocks, case_blocks, cases_blocks, switch_blocks, arms, inside_blocks, modules_blocks, modules_at, all_modules, alphabet, drafts, start, settled, settled_arms, settled_kind, blocks, kinds}
use Rattle.meaning.specs.Faults.{Known, alphabet_faults, names_faults, acts_faults, switch_faults, body_faults, case_faults, cases_faults, inside_faults, modules_faults, limit_faults, known, faults}
use Rattle.meaning.specs.RuleLaws.{cases_codes, count}
use Rattle.meaning.specs.Tables.{Each}
use Rattle.meaning.proofs.Pigeons.{at_most}
use Rattle.meaning.proofs.Ranges.{nil_parts, each-++, code_small, below_37}
use Rattle.meaning.proofs.RulesAre.{rules_are}
use Rattle.events.proofs.Capping.{cut_kind, cut_blocks}

-- a kind of block with at most 37 arms
abbrev pub Few : {G : Type 0} → Kind G → Type 0
Few (basic b) = Unit {0}
Few (switch as') = length as' ≤ 37

-- so of a block
abbrev FewIn : Block Text → Type 0
FewIn b = Few b.kind

-- ---- Codes, each once.

-- codes of symbols are at most 36
codes_small : (ss : List Symbol) → Each (λ c. c ≤ 36) (map code ss)
codes_small [] = tt
codes_small (s ∷ ss) = (code_small s, codes_small ss)

symbols_small : (ss : Symbols) → Each (λ c. c ≤ 36) (symbols_codes ss)
symbols_small (symbols s ss) = (code_small s, codes_small ss)

case_small : (c : Case) → Each (λ c. c ≤ 36) (case_codes c)
case_small (if ss b) = symbols_small ss
case_small (while ss o) = symbols_small ss

cases_small : (cs : Cases) → Each (λ c. c ≤ 36) (cases_codes cs)
cases_small no_more = tt
cases_small (more c cs) = each-++ (λ c. c ≤ 36) (case_codes c) (cases_codes cs) (case_small c) (cases_small cs)

-- what stands nowhere among these is no member
none_member : (x : ℕ) (xs : List ℕ) → count x xs ≤ 0 → member x xs ≡ false
none_member x [] h = refl
none_member x (y ∷ ys) h = at (eqb x y) h (none_member x ys)
  where
    at : (b : Bool) → cond b (suc (count x ys)) (count x ys) ≤ 0 → (count x ys ≤ 0 → member x ys ≡ false) → (b || member x ys) ≡ false
    at true g ih = absurd (omega arith)
    at false g ih = ih g

-- what stands at most once each is different
once_different : (xs : List ℕ) → ((x : ℕ) → count x xs ≤ 1) → different xs ≡ true
once_different [] h = refl
once_different (x ∷ xs) h =
    let e : count x (x ∷ xs) ≡ suc (count x xs) = ap (λ b. cond b (suc (count x xs)) (count x xs)) (eq-eqb x x refl) in
    and_from (not (member x xs)) (different xs) (ap not (none_member x xs (omega (arith, h x, e)))) (once_different xs (λ y. fewer y (eqb y x) (h y)))
  where
    fewer : (y : ℕ) (b : Bool) → cond b (suc (count y xs)) (count y xs) ≤ 1 → count y xs ≤ 1
    fewer y true g = omega arith
    fewer y false g = g

-- as many arms as codes
lead_length : (cs : List ℕ) (b : Basic Text) → length (lead cs b) ≡ length cs
lead_length [] b = refl
lead_length (c ∷ cs) b = ap suc (lead_length cs b)

arms_length : (cs : Cases) (i q : ℕ) → length (arms cs i q) ≡ length (cases_codes cs)
arms_length no_more i q = refl
arms_length (more c cs) i q =
    let j = i + length (case_words c) in
    let r = q + length (case_blocks c i q) in
    omega (
      arith,
      length-append (lead (case_codes c) (case_basic c q)) (arms cs j r),
      lead_length (case_codes c) (case_basic c q),
      arms_length cs j r,
      length-append (case_codes c) (cases_codes cs),
    )

-- ---- Blocks.

-- basic blocks have no arms
parts_few : (ps : List Part) (behind : Bool) (i q : ℕ) → Each FewIn (part_blocks ps behind i q)
parts_few [] behind i q = tt
parts_few (p ∷ ps) behind i q = (tt, parts_few ps behind (i + part_length p) (suc q))

later_few : (ps : List Part) (behind : Bool) (i q : ℕ) → Each FewIn (later_part_blocks ps behind i q)
later_few [] behind i q = tt
later_few (p ∷ ps) behind i q = parts_few ps behind (i + part_length p) q

module _ (k : Known) where
  -- the arms of a switch that breaks no rule
  arms_few : (c : Case) (cs : Cases) (q j r m : ℕ) → switch_faults k (more c cs) m ≡ [] → length (lead (case_codes c) (case_basic c q) ++ arms cs j r) ≤ 37
  arms_few c cs q j r m e =
      let codes = cases_codes (more c cs) in
      let once = (rules_are.switch k c cs m).0 e in
      let d = once_different codes (λ x. most (member x k.symbols) (count x codes) (once x)) in
      omega (
        arith,
        at_most 37 codes d (below_37 codes (cases_small (more c cs))),
        length-append (lead (case_codes c) (case_basic c q)) (arms cs j r),
        lead_length (case_codes c) (case_basic c q),
        arms_length cs j r,
        length-append (case_codes c) (cases_codes cs),
      )
    where
      most : (b : Bool) (n : ℕ) → n ≡ cond b 1 0 → n ≤ 1
      most true n h = omega arith
      most false n h = omega arith

  -- so in each piece of a module that breaks no rule
  mutual
    rest_few : (b : Body) (i q j : ℕ) → body_faults b k j ≡ [] → Each FewIn (rest_blocks b i q)
    rest_few (act_cases a xs cs) i q j e =
        let rest = later_part_blocks (parts (a ∷ xs) none) (some_case cs) i q in
        let at = i + length (acts_words (a ∷ xs)) in
        let jt = j + length (acts_words (a ∷ xs)) in
        let f = nil_parts (acts_faults k (a ∷ xs) j ++ switch_faults k cs jt) (cases_faults cs k jt) e in
        let g = nil_parts (acts_faults k (a ∷ xs) j) (switch_faults k cs jt) f.0 in
        each-++ FewIn rest (switch_blocks cs at (q + length rest)) (later_few (parts (a ∷ xs) none) (some_case cs) i q) (switch_few cs at (q + length rest) jt g.1 f.1)
    rest_few (acts_flow xs f) i q j e = later_few (parts xs (some f)) false i q

    case_few : (c : Case) (i q j : ℕ) → case_faults c k j ≡ [] → Each FewIn (case_blocks c i q)
    case_few (if ss b) i q j e = rest_few b (i + length (symbols_words ss) + 2) q (j + length (symbols_words ss) + 2) e
    case_few (while ss o) i q j e = tt

    cases_few : (cs : Cases) (i q j : ℕ) → cases_faults cs k j ≡ [] → Each FewIn (cases_blocks cs i q)
    cases_few no_more i q j e = tt
    cases_few (more c cs) i q j e =
        let inner = case_blocks c i q in
        let at = i + length (case_words c) in
        let jt = j + length (case_words c) in
        let f = nil_parts (case_faults c k j) (cases_faults cs k jt) e in
        each-++ FewIn inner (cases_blocks cs at (q + length inner)) (case_few c i q j f.0) (cases_few cs at (q + length inner) jt f.1)

    switch_few : (cs : Cases) (i q j : ℕ) → switch_faults k cs j ≡ [] → cases_faults cs k j ≡ [] → Each FewIn (switch_blocks cs i q)
    switch_few no_more i q j d e = tt
    switch_few (more c cs) i q j d e =
        let inner = case_blocks c i (suc q) in
        let at = i + length (case_words c) in
        let jt = j + length (case_words c) in
        let r = suc q + length inner in
        let f = nil_parts (case_faults c k j) (cases_faults cs k jt) e in
        (arms_few c cs (suc q) at r j d, each-++ FewIn inner (cases_blocks cs at r) (case_few c i (suc q) j f.0) (cases_few cs at r jt f.1))

  inside_few : (x : Inside) (i q j : ℕ) → inside_faults k x j ≡ [] → Each FewIn (inside_blocks x i q)
  inside_few (cases c cs) i q j e =
      let f = nil_parts (switch_faults k (more c cs) j) (cases_faults (more c cs) k j) e in
      switch_few (more c cs) i q j f.0 f.1
  inside_few (body b) i q j e = (tt, rest_few b i (suc q) j e)

  modules_few : (ms : List Module) (i q j : ℕ) → modules_faults k ms j ≡ [] → Each FewIn (modules_blocks ms i q)
  modules_few [] i q j e = tt
  modules_few (module' n x ∷ ms) i q j e =
      let inner = inside_blocks x (i + 3) q in
      let at = i + length (module_words (module' n x)) in
      let jt = j + length (module_words (module' n x)) in
      let f = nil_parts (inside_faults k x (j + 3)) (modules_faults k ms jt) e in
      each-++ FewIn inner (modules_blocks ms at (q + length inner)) (inside_few x (i + 3) q (j + 3) f.0) (modules_few ms at (q + length inner) jt f.1)

-- ---- Settled blocks.

settled_length : (at : Text → ℕ) (as' : List (ℕ × Basic Text)) → length (settled_arms at as') ≡ length as'
settled_length at [] = refl
settled_length at (a ∷ others) = ap suc (settled_length at others)

-- settled blocks have as many arms
kind_few : (at : Text → ℕ) (x : Kind Text) → Few x → Few (settled_kind at x)
kind_few at (basic b) h = tt
kind_few at (switch as') h = omega (arith, settled_length at as')

kinds_few : (at : Text → ℕ) (bs : List (Block Text)) → Each FewIn bs → Each Few (kinds (settled at bs))
kinds_few at [] h = tt
kinds_few at (b ∷ bs) h = (kind_few at b.kind h.0, kinds_few at bs h.1)

-- so of all blocks of a program that breaks no rule
pub blocks_few : (t : Program) → faults t ≡ [] → Each Few (kinds (blocks t))
blocks_few t e =
    let i = modules_at t in
    let ms = all_modules t in
    let af = alphabet_faults (0 ∷ []) (alphabet t) 3 in
    let nf = names_faults [] ms i in
    let mf = modules_faults (known t) ms i in
    let f = nil_parts (af ++ nf ++ mf) (limit_faults (length (columns (alphabet t))) 0 (drafts t)) e in
    kinds_few (start t) (drafts t) (modules_few (known t) ms i 0 i (nil_parts (af ++ nf) mf f.0).1)

-- where there are few arms, none is cut off
kind_whole : (at : Text → ℕ) (x : Kind Text) → Few (settled_kind at x) → settled_kind at (cut_kind x) ≡ settled_kind at x
kind_whole at (basic b) h = refl
kind_whole at (switch as') h = ap (λ l. switch (settled_arms at l)) (take_all 37 as' (omega (arith, settled_length at as')))

pub kinds_whole : (at : Text → ℕ) (bs : List (Block Text)) → Each Few (kinds (settled at bs)) → map (settled_kind at) (cut_blocks bs) ≡ kinds (settled at bs)
kinds_whole at [] h = refl
kinds_whole at (b ∷ bs) h = ap₂ (λ (x : Kind ℕ) (xs : List (Kind ℕ)). x ∷ xs) (kind_whole at b.kind h.0) (kinds_whole at bs h.1)
