-- The table of a program that keeps the rules is within the ranges.
use Rattle.std.proofs.Common.{◌≡◌, ℕ, suc, ◌+◌, ◌-◌, ◌<◌, ◌≤◌, Bool, true, false, cond, not, ◌||◌, eqb, ltb, leb, List, [], ◌∷◌, ◌++◌, map, length, Some, None, Option, sym, refl, ap, ◌∙◌, subst, arith, length-append}
use mathlib.Core.Option.{Option as Maybe, none, some}
use Rattle.std.proofs.lemmas.Bool.{eqb-false, ne_eqb, and_parts, and_from, not-true, not-false, or_parts, or_from, leb-true, false≢true}
use Rattle.words.specs.Bytes.{Text}
use Rattle.words.specs.Vocabulary.{Symbol, same}
use Rattle.grammar.specs.Tree.{Direction as WrittenDirection, Act, change, move, Flow, accept, reject, goto, Once, once_change, once_move, Symbols, symbols, Body, act_cases, acts_flow, Case, if, while, Cases, no_more, more, Inside, cases, body, Module, module', program}
use Rattle.grammar.specs.Render.{acts_words, symbols_words, case_words, module_words}
use Rattle.tape.specs.Symbols.{within, letter_code}
use Rattle.meaning.specs.Codes.{or_blank, word_code, code, member, different, columns}
use Rattle.meaning.specs.declared.faults.Cause.{Cause}
use Rattle.meaning.specs.declared.faults.Cause.TheVariants.{Alphabet, Goto, Letter, Limit}
use Rattle.meaning.specs.Blocks.{Part, first_rank, before, ending, joined, parts, Then, again, accepting, rejecting, jump, next, end, Basic, Kind, basic, switch, Block, written_code, then_of, basic_of, some_case, body_parts, first_of, first_basic, once_basic, case_basic, symbols_codes, case_codes, lead, part_length, part_blocks, later_part_blocks, rest_blocks, case_blocks, cases_blocks, switch_blocks, arms, inside_blocks, modules_blocks, modules_at, drafts, start_in, start, settled_then, settled_basic, settled_arms, settled_kind, settled, blocks, kinds}
use Rattle.meaning.specs.Rules.{next_of, arm, current, or_this, block_row, block_rows}
use Rattle.meaning.specs.Faults.{flag, Known, named, alphabet_faults, names_faults, flow_faults, outside, acts_faults, once_faults, switch_faults, body_faults, case_faults, cases_faults, inside_faults, modules_faults, too_many, limit_faults, module_names, known}
use Rattle.meaning.specs.Tables.{Each, NextWithin, EntryWithin, RowWithin}
use Rattle.meaning.specs.Print.{TranslatesWithin}
use Rattle.meaning.proofs.Names.{each_columns}
use Rattle.meaning.proofs.Clean.{Unseen, each_own}
use Rattle.meaning.proofs.Pigeons.{at_most}
use Rattle.meaning.proofs.Agree.{rows_length, settled_length, kinds_length}

-- no faults of a whole: none of its pieces
pub nil_parts : {A : Type 0} (xs ys : List A) → xs ++ ys ≡ [] → (xs ≡ []) × (ys ≡ [])
nil_parts [] ys e = (refl, e)
nil_parts (x ∷ xs) ys e = absurd cc

pub no_flag : (b : Bool) (i : ℕ) (n : Cause) → flag b i n ≡ [] → b ≡ false
no_flag true i n e = absurd cc
no_flag false i n e = refl

pub each-++ : {A : Type 0} (P : A → Type 0) (xs ys : List A) → Each P xs → Each P ys → Each P (xs ++ ys)
each-++ P [] ys a b = b
each-++ P (x ∷ xs) ys a b = (a.0, each-++ P xs ys a.1 b)

-- codes
letter_small : (b : ℕ) → or_blank (letter_code b) ≤ 36
letter_small b = at (within 97 122 b) (within 48 57 b) refl refl
  where
    at : (v w : Bool) → within 97 122 b ≡ v → within 48 57 b ≡ w → or_blank (cond v (Some (b - 96)) (cond w (Some (b - 21)) None)) ≤ 36
    at true w p q = let k = leb-true b 122 (and_parts (leb 97 b) (leb b 122) p).1 in omega arith
    at false true p q = let k = leb-true b 57 (and_parts (leb 48 b) (leb b 57) q).1 in omega arith
    at false false p q = omega arith

word_small : (w : Text) → word_code w ≤ 36
word_small [] = omega arith
word_small (b ∷ []) = letter_small b
word_small (b ∷ c ∷ cs) = omega arith

pub code_small : (s : Symbol) → code s ≤ 36
code_small s = word_small s.word

codes_small : (ss : List Symbol) → Each (λ c. c ≤ 36) (map code ss)
codes_small [] = tt
codes_small (s ∷ ss) = (code_small s, codes_small ss)

alphabet_small : (ss : Symbols) → Each (λ c. c ≤ 36) (symbols_codes ss)
alphabet_small (symbols s ss) = (code_small s, codes_small ss)

-- symbols not seen before
pub fewer : (c : ℕ) (seen cs : List ℕ) → Unseen (c ∷ seen) cs → Unseen seen cs
fewer c seen [] u = tt
fewer c seen (d ∷ ds) u = ((or_parts (eqb d c) (member d seen) u.0).1, fewer c seen ds u.1)

pub not_there : (c : ℕ) (seen cs : List ℕ) → Unseen (c ∷ seen) cs → member c cs ≡ false
not_there c seen [] u = refl
not_there c seen (d ∷ ds) u = or_from (eqb c d) (member c ds) (ne_eqb c d (λ e. eqb-false d c (or_parts (eqb d c) (member d seen) u.0).0 (sym e))) (not_there c seen ds u.1)

-- letters of which none is told
pub unseen_by : (cs seen : List ℕ) (i : ℕ) → alphabet_faults seen cs i ≡ [] → Unseen seen cs × (different cs ≡ true)
unseen_by [] seen i e = (tt, refl)
unseen_by (c ∷ cs) seen i e =
    let p = nil_parts (flag (member c seen) i Alphabet) (alphabet_faults (c ∷ seen) cs (i + 2)) e in
    let r = unseen_by cs (c ∷ seen) (i + 2) p.1 in
    ((no_flag (member c seen) i Alphabet p.0, fewer c seen cs r.0), and_from (not (member c cs)) (different cs) (ap not (not_there c seen cs r.0)) r.1)

member_last : (c : ℕ) (cs : List ℕ) → member c cs ≡ false → eqb c 0 ≡ false → member c (columns cs) ≡ false
member_last c [] m z = or_from (eqb c 0) false z refl
member_last c (d ∷ ds) m z = let p = or_parts (eqb c d) (member c ds) m in or_from (eqb c d) (member c (columns ds)) p.0 (member_last c ds p.1 z)

columns_differ : (cs : List ℕ) → different cs ≡ true → Unseen (0 ∷ []) cs → different (columns cs) ≡ true
columns_differ [] d u = refl
columns_differ (c ∷ cs) d u =
    let p = and_parts (not (member c cs)) (different cs) d in
    and_from (not (member c (columns cs))) (different (columns cs)) (ap not (member_last c cs (not-true (member c cs) p.0) (or_parts (eqb c 0) false u.0).0)) (columns_differ cs p.1 u.1)

-- basic blocks within the ranges
abbrev pub WriteWithin : List ℕ → Option ℕ → Type 0
WriteWithin cols None = Unit {0}
WriteWithin cols (Some c) = member c cols ≡ true

abbrev FlowWithin : List Text → Flow → Type 0
FlowWithin ns accept = Unit {0}
FlowWithin ns reject = Unit {0}
FlowWithin ns (goto n) = named n.word ns ≡ true

abbrev pub ThenWithin : List Text → ℕ → Then Text → Type 0
ThenWithin ns n again = Unit {0}
ThenWithin ns n accepting = Unit {0}
ThenWithin ns n rejecting = Unit {0}
ThenWithin ns n (jump w) = named w ns ≡ true
ThenWithin ns n (next r) = r < n
ThenWithin ns n end = Unit {0}

abbrev EndingWithin : List Text → Maybe Flow → Type 0
EndingWithin ns none = Unit {0}
EndingWithin ns (some f) = FlowWithin ns f

module _ (cols : List ℕ) (ns : List Text) where
  abbrev pub k : Known
  k = record { symbols = cols; names = ns }

  abbrev PartWithin : Part → Type 0
  PartWithin p = WriteWithin cols (written_code p.write) × EndingWithin ns p.flow

  abbrev pub BasicWithin : ℕ → Basic Text → Type 0
  BasicWithin n b = WriteWithin cols b.write × ThenWithin ns n b.then

  abbrev pub KindWithin : ℕ → Kind Text → Type 0
  KindWithin n (basic b) = BasicWithin n b
  KindWithin n (switch as') = Each (λ (a : ℕ × Basic Text). BasicWithin n a.1) as'

  abbrev pub BlockWithin : ℕ → Block Text → Type 0
  BlockWithin n b = KindWithin n b.kind

  inside_letters : (s : Symbol) (i : ℕ) → outside k s i ≡ [] → member (code s) cols ≡ true
  inside_letters s i e = not-false (member (code s) cols) (no_flag (not (member (code s) cols)) i Letter e)

  flow_within : (f : Flow) (i : ℕ) → flow_faults k f i ≡ [] → FlowWithin ns f
  flow_within accept i e = tt
  flow_within reject i e = tt
  flow_within (goto n) i e = not-false (named n.word ns) (no_flag (not (named n.word ns)) (i + 1) Goto e)

  change_joined : (s : Symbol) (ps : List Part) → member (code s) cols ≡ true → Each PartWithin ps → Each PartWithin (joined (change s) ps)
  change_joined s [] m w = ((m, tt), tt)
  change_joined s (p ∷ ps) m w = at (ltb 1 (first_rank p))
    where
      at : (b : Bool) → Each PartWithin (cond b (before (change s) p ∷ ps) (before (change s) (ending none) ∷ p ∷ ps))
      at true = ((m, w.0.1), w.1)
      at false = ((m, tt), w)

  move_joined : (d : WrittenDirection) (ps : List Part) → Each PartWithin ps → Each PartWithin (joined (move d) ps)
  move_joined d [] w = ((tt, tt), tt)
  move_joined d (p ∷ ps) w = at (ltb 2 (first_rank p))
    where
      at : (b : Bool) → Each PartWithin (cond b (before (move d) p ∷ ps) (before (move d) (ending none) ∷ p ∷ ps))
      at true = ((w.0.0, w.0.1), w.1)
      at false = ((tt, tt), w)

  parts_within : (xs : List Act) (f : Maybe Flow) (i : ℕ) → acts_faults k xs i ≡ [] → EndingWithin ns f → Each PartWithin (parts xs f)
  parts_within [] none i e w = tt
  parts_within [] (some f) i e w = ((tt, w), tt)
  parts_within (change s ∷ xs) f i e w =
      let p = nil_parts (outside k s (i + 1)) (acts_faults k xs (i + 2)) e in
      change_joined s (parts xs f) (inside_letters s (i + 1) p.0) (parts_within xs f (i + 2) p.1 w)
  parts_within (move d ∷ xs) f i e w = move_joined d (parts xs f) (parts_within xs f (i + 2) e w)

  -- where something is behind, its number is below n
  basic_within : (p : Part) (behind : Bool) (q n : ℕ) → PartWithin p → (behind ≡ true → q < n) → BasicWithin n (basic_of p behind q)
  basic_within p behind q n w h = (w.0, at p.flow behind w.1 h)
    where
      at : (f : Maybe Flow) (b : Bool) → EndingWithin ns f → (b ≡ true → q < n) → ThenWithin ns n (then_of f b q)
      at (some accept) b v g = tt
      at (some reject) b v g = tt
      at (some (goto x)) b v g = v
      at none true v g = g refl
      at none false v g = tt

  row_within : (ps : List Part) (behind : Bool) (i q n : ℕ) → Each PartWithin ps → q + length ps ≤ n → (behind ≡ true → q + length ps < n) → Each (BlockWithin n) (part_blocks ps behind i q)
  row_within [] behind i q n w l h = tt
  row_within (p ∷ []) behind i q n w l h = (basic_within p behind (suc q) n w.0 (λ e. let z = h e in omega arith), tt)
  row_within (p ∷ p' ∷ ps) behind i q n w l h =
      (basic_within p true (suc q) n w.0 (λ e. omega arith), row_within (p' ∷ ps) behind (i + part_length p) (suc q) n w.1 (omega arith) (λ e. let z = h e in omega arith))

  row_length : (ps : List Part) (behind : Bool) (i q : ℕ) → length (part_blocks ps behind i q) ≡ length ps
  row_length [] behind i q = refl
  row_length (p ∷ ps) behind i q = ap suc (row_length ps behind (i + part_length p) (suc q))

  rest_row_within : (ps : List Part) (behind : Bool) (i q n : ℕ) → Each PartWithin ps → q + length (later_part_blocks ps behind i q) ≤ n → (behind ≡ true → q + length (later_part_blocks ps behind i q) < n) → Each (BlockWithin n) (later_part_blocks ps behind i q)
  rest_row_within [] behind i q n w l h = tt
  rest_row_within (p ∷ ps) behind i q n w l h =
      let e = row_length ps behind (i + part_length p) q in
      row_within ps behind (i + part_length p) q n w.1 (omega arith) (λ b. let z = h b in omega arith)

  first_of_within : (ps : List Part) (behind : Bool) (i q n : ℕ) → Each PartWithin ps → q + length (later_part_blocks ps behind i q) ≤ n → (behind ≡ true → q + length (later_part_blocks ps behind i q) < n) → BasicWithin n (first_of ps behind q)
  first_of_within [] behind i q n w l h = basic_within (ending none) behind q n (tt, tt) (λ e. let z = h e in omega arith)
  first_of_within (p ∷ []) behind i q n w l h = basic_within p behind q n w.0 (λ e. let z = h e in omega arith)
  first_of_within (p ∷ p' ∷ ps) behind i q n w l h = basic_within p true q n w.0 (λ e. omega arith)

  switch_some : (cs : Cases) (i q : ℕ) → some_case cs ≡ true → 1 ≤ length (switch_blocks cs i q)
  switch_some no_more i q e = absurd (false≢true e)
  switch_some (more c cs) i q e = omega arith

  -- what a body's lack of faults tells of its parts
  body_parts_within : (b : Body) (j : ℕ) → body_faults b k j ≡ [] → Each PartWithin (body_parts b)
  body_parts_within (act_cases a xs cs) j e =
      let at = j + length (acts_words (a ∷ xs)) in
      let p = nil_parts (acts_faults k (a ∷ xs) j ++ switch_faults k cs at) (cases_faults cs k at) e in
      parts_within (a ∷ xs) none j (nil_parts (acts_faults k (a ∷ xs) j) (switch_faults k cs at) p.0).0 tt
  body_parts_within (acts_flow xs f) j e =
      let p = nil_parts (acts_faults k xs j) (flow_faults k f (j + length (acts_words xs))) e in
      parts_within xs (some f) j p.0 (flow_within f (j + length (acts_words xs)) p.1)

  first_within : (b : Body) (i q n j : ℕ) → body_faults b k j ≡ [] → q + length (rest_blocks b i q) ≤ n → BasicWithin n (first_basic b q)
  first_within (act_cases a xs cs) i q n j e l =
      let ps = parts (a ∷ xs) none in
      let rest = later_part_blocks ps (some_case cs) i q in
      let at = i + length (acts_words (a ∷ xs)) in
      let m = length-append rest (switch_blocks cs at (q + length rest)) in
      first_of_within ps (some_case cs) i q n (body_parts_within (act_cases a xs cs) j e) (omega arith) (λ b. let z = switch_some cs at (q + length rest) b in omega arith)
  first_within (acts_flow xs f) i q n j e l = first_of_within (parts xs (some f)) false i q n (body_parts_within (acts_flow xs f) j e) l (λ b. absurd (false≢true b))

  abbrev ArmWithin : ℕ → ℕ × Basic Text → Type 0
  ArmWithin n a = BasicWithin n a.1

  lead_within : (cs : List ℕ) (b : Basic Text) (n : ℕ) → BasicWithin n b → Each (ArmWithin n) (lead cs b)
  lead_within [] b n w = tt
  lead_within (c ∷ cs) b n w = (w, lead_within cs b n w)

  once_within : (o : Once) (n j : ℕ) → once_faults k o j ≡ [] → BasicWithin n (once_basic o)
  once_within (once_change s m) n j e = (inside_letters s (j + 1) e, tt)
  once_within (once_move d) n j e = (tt, tt)

  mutual
    rest_within : (b : Body) (i q n j : ℕ) → body_faults b k j ≡ [] → q + length (rest_blocks b i q) ≤ n → Each (BlockWithin n) (rest_blocks b i q)
    rest_within (act_cases a xs cs) i q n j e l =
        let ps = parts (a ∷ xs) none in
        let rest = later_part_blocks ps (some_case cs) i q in
        let at = i + length (acts_words (a ∷ xs)) in
        let jt = j + length (acts_words (a ∷ xs)) in
        let m = length-append rest (switch_blocks cs at (q + length rest)) in
        let f = nil_parts (acts_faults k (a ∷ xs) j ++ switch_faults k cs jt) (cases_faults cs k jt) e in
        each-++ (BlockWithin n) rest (switch_blocks cs at (q + length rest))
        (rest_row_within ps (some_case cs) i q n (body_parts_within (act_cases a xs cs) j e) (omega arith) (λ b. let z = switch_some cs at (q + length rest) b in omega arith))
        (switch_within cs at (q + length rest) n jt f.1 (omega arith))
    rest_within (acts_flow xs f) i q n j e l = rest_row_within (parts xs (some f)) false i q n (body_parts_within (acts_flow xs f) j e) l (λ b. absurd (false≢true b))

    case_within : (c : Case) (i q n j : ℕ) → case_faults c k j ≡ [] → q + length (case_blocks c i q) ≤ n → BasicWithin n (case_basic c q) × Each (BlockWithin n) (case_blocks c i q)
    case_within (if ss b) i q n j e l =
        let at = i + length (symbols_words ss) + 2 in
        let jt = j + length (symbols_words ss) + 2 in
        (first_within b at q n jt e l, rest_within b at q n jt e l)
    case_within (while ss o) i q n j e l = (once_within o n (j + length (symbols_words ss) + 2) e, tt)

    cases_within : (cs : Cases) (i q n j : ℕ) → cases_faults cs k j ≡ [] → q + length (cases_blocks cs i q) ≤ n → Each (ArmWithin n) (arms cs i q) × Each (BlockWithin n) (cases_blocks cs i q)
    cases_within no_more i q n j e l = (tt, tt)
    cases_within (more c cs) i q n j e l =
        let inner = case_blocks c i q in
        let at = i + length (case_words c) in
        let jt = j + length (case_words c) in
        let r = q + length inner in
        let m = length-append inner (cases_blocks cs at r) in
        let f = nil_parts (case_faults c k j) (cases_faults cs k jt) e in
        let here = case_within c i q n j f.0 (omega arith) in
        let later = cases_within cs at r n jt f.1 (omega arith) in (
          each-++ (ArmWithin n) (lead (case_codes c) (case_basic c q)) (arms cs at r) (lead_within (case_codes c) (case_basic c q) n here.0) later.0,
          each-++ (BlockWithin n) inner (cases_blocks cs at r) here.1 later.1,
        )

    switch_within : (cs : Cases) (i q n j : ℕ) → cases_faults cs k j ≡ [] → q + length (switch_blocks cs i q) ≤ n → Each (BlockWithin n) (switch_blocks cs i q)
    switch_within no_more i q n j e l = tt
    switch_within (more c cs) i q n j e l =
        let inner = case_blocks c i (suc q) in
        let at = i + length (case_words c) in
        let jt = j + length (case_words c) in
        let r = suc q + length inner in
        let m = length-append inner (cases_blocks cs at r) in
        let f = nil_parts (case_faults c k j) (cases_faults cs k jt) e in
        let here = case_within c i (suc q) n j f.0 (omega arith) in
        let later = cases_within cs at r n jt f.1 (omega arith) in (
          each-++ (ArmWithin n) (lead (case_codes c) (case_basic c (suc q))) (arms cs at r) (lead_within (case_codes c) (case_basic c (suc q)) n here.0) later.0,
          each-++ (BlockWithin n) inner (cases_blocks cs at r) here.1 later.1,
        )

  inside_within : (x : Inside) (i q n j : ℕ) → inside_faults k x j ≡ [] → q + length (inside_blocks x i q) ≤ n → Each (BlockWithin n) (inside_blocks x i q)
  inside_within (cases c cs) i q n j e l = switch_within (more c cs) i q n j (nil_parts (switch_faults k (more c cs) j) (cases_faults (more c cs) k j) e).1 l
  inside_within (body b) i q n j e l = (first_within b i (suc q) n j e (omega arith), rest_within b i (suc q) n j e (omega arith))

  pub modules_within : (ms : List Module) (i q n j : ℕ) → modules_faults k ms j ≡ [] → q + length (modules_blocks ms i q) ≤ n → Each (BlockWithin n) (modules_blocks ms i q)
  modules_within [] i q n j e l = tt
  modules_within (module' nm x ∷ ms) i q n j e l =
      let inner = inside_blocks x (i + 3) q in
      let at = i + length (module_words (module' nm x)) in
      let jt = j + length (module_words (module' nm x)) in
      let m = length-append inner (modules_blocks ms at (q + length inner)) in
      let f = nil_parts (inside_faults k x (j + 3)) (modules_faults k ms jt) e in
      each-++ (BlockWithin n) inner (modules_blocks ms at (q + length inner))
      (inside_within x (i + 3) q n (j + 3) f.0 (omega arith))
      (modules_within ms at (q + length inner) n jt f.1 (omega arith))

  -- entries
  next_within : (at : Text → ℕ) (n q : ℕ) → q < n → ((w : Text) → named w ns ≡ true → at w < n) → (x : Then Text) → ThenWithin ns n x → NextWithin n (next_of q (settled_then at x))
  next_within at n q l h again w = l
  next_within at n q l h accepting w = tt
  next_within at n q l h rejecting w = tt
  next_within at n q l h (jump nm) w = h nm w
  next_within at n q l h (next r) w = w
  next_within at n q l h end w = tt

  -- a settled basic block at c does what an entry may
  abbrev ActionWithin : ℕ → ℕ → Basic ℕ → Type 0
  ActionWithin n q b = WriteWithin cols b.write × NextWithin n (next_of q b.then)

  module _ (at : Text → ℕ) (n q : ℕ) (l : q < n) (h : (w : Text) → named w ns ≡ true → at w < n) where
    settled_within : (b : Basic Text) → BasicWithin n b → ActionWithin n q (settled_basic at b)
    settled_within b w = (w.0, next_within at n q l h b.then w.1)

    arm_within : (as' : List (ℕ × Basic Text)) (c : ℕ) → Each (ArmWithin n) as' → ActionWithin n q (arm (settled_arms at as') c)
    arm_within [] c w = (tt, tt)
    arm_within (a ∷ others) c w = pick (eqb c a.0) (arm_within others c w.1)
      where
        pick : (b : Bool) → ActionWithin n q (arm (settled_arms at others) c) → ActionWithin n q (cond b (settled_basic at a.1) (arm (settled_arms at others) c))
        pick true v = settled_within a.1 w.0
        pick false v = v

    current_within : (x : Kind Text) (c : ℕ) → KindWithin n x → ActionWithin n q (current (settled_kind at x) c)
    current_within (basic b) c w = settled_within b w
    current_within (switch as') c w = arm_within as' c w

  write_within : (c : ℕ) (o : Option ℕ) → member c cols ≡ true → WriteWithin cols o → member (or_this c o) cols ≡ true
  write_within c None m w = m
  write_within c (Some x) m w = w

  row_entries : (at : Text → ℕ) (n q : ℕ) → q < n → ((w : Text) → named w ns ≡ true → at w < n) → (x : Kind Text) → KindWithin n x → (cs : List ℕ) → Each (λ c. member c cols ≡ true) cs → Each (EntryWithin cols n) (block_row cs q (settled_kind at x))
  row_entries at n q l h x w [] m = tt
  row_entries at n q l h x w (c ∷ cs) m =
      let b = current_within at n q l h x c w in
      (record { writes = write_within c (current (settled_kind at x) c).write m.0 b.0; leads = b.1 }, row_entries at n q l h x w cs m.1)

  row_wide : (q : ℕ) (x : Kind ℕ) (cs : List ℕ) → length (block_row cs q x) ≡ length cs
  row_wide q x [] = refl
  row_wide q x (c ∷ cs) = ap suc (row_wide q x cs)

  rows_within : (at : Text → ℕ) (n q : ℕ) (bs : List (Block Text)) → q + length bs ≤ n → ((w : Text) → named w ns ≡ true → at w < n) → Each (BlockWithin n) bs → Each (RowWithin cols n) (block_rows cols q (kinds (settled at bs)))
  rows_within at n q [] l h w = tt
  rows_within at n q (b ∷ bs) l h w = (
    record { wide = row_wide q (settled_kind at b.kind) cols; each = row_entries at n q (omega arith) h b.kind w.0 cols (each_own cols) },
    rows_within at n (suc q) bs (omega arith) h w.1,
  )

inside_some : (x : Inside) (i q : ℕ) → 1 ≤ length (inside_blocks x i q)
inside_some (cases c cs) i q = omega arith
inside_some (body b) i q = omega arith

start_within : (ms : List Module) (i q : ℕ) (w : Text) → named w (module_names ms) ≡ true → start_in ms i q w < q + length (modules_blocks ms i q)
start_within [] i q w h = absurd (false≢true h)
start_within (module' nm x ∷ ms) i q w h = by (same w nm.word) h (start_within ms (i + length (module_words (module' nm x))) (q + length (inside_blocks x (i + 3) q)) w)
  where
    at : ℕ
    at = i + length (module_words (module' nm x))

    inner : List (Block Text)
    inner = inside_blocks x (i + 3) q

    by : (b : Bool) → b || named w (module_names ms) ≡ true → (named w (module_names ms) ≡ true → start_in ms at (q + length inner) w < q + length inner + length (modules_blocks ms at (q + length inner)))
        → cond b q (start_in ms at (q + length inner) w) < q + length (inner ++ modules_blocks ms at (q + length inner))
    by true m ih = omega (arith, length-append inner (modules_blocks ms at (q + length inner)), inside_some x (i + 3) q)
    by false m ih = omega (arith, length-append inner (modules_blocks ms at (q + length inner)), ih m)

last_limit : (width q : ℕ) (b : Block Text) (bs : List (Block Text)) → limit_faults width q (b ∷ bs) ≡ [] → too_many (suc q + length bs) width ≡ false
last_limit width q b [] e = ap (λ m. too_many m width) (let z : suc q + 0 ≡ suc q = omega arith in z) ∙ no_flag (too_many (suc q) width) b.index Limit (nil_parts (flag (too_many (suc q) width) b.index Limit) [] e).0
last_limit width q b (b' ∷ bs) e =
    ap (λ m. too_many m width) (let z : suc q + suc (length bs) ≡ suc (suc q) + length bs = omega arith in z)
    ∙ last_limit width (suc q) b' bs (nil_parts (flag (too_many (suc q) width) b.index Limit) (limit_faults width (suc q) (b' ∷ bs)) e).1

pub limits_kept : (width : ℕ) (bs : List (Block Text)) → 1 ≤ length bs → limit_faults width 0 bs ≡ [] → too_many (length bs) width ≡ false
limits_kept width [] l e = absurd (omega arith)
limits_kept width (b ∷ bs) l e = ap (λ m. too_many m width) (let z : suc (length bs) ≡ 1 + length bs = omega arith in z) ∙ last_limit width 0 b bs e

pub below_37 : (cs : List ℕ) → Each (λ c. c ≤ 36) cs → Each (λ c. c < 37) cs
below_37 [] h = tt
below_37 (c ∷ cs) h = (let z = h.0 in omega arith, below_37 cs h.1)

codes_some : (ss : Symbols) → 1 ≤ length (symbols_codes ss)
codes_some (symbols s ss) = omega arith

pub modules_some : (m : Module) (ms : List Module) (i q : ℕ) → 1 ≤ length (modules_blocks (m ∷ ms) i q)
modules_some (module' nm x) ms i q =
    let inner = inside_blocks x (i + 3) q in
    omega (arith, inside_some x (i + 3) q, length-append inner (modules_blocks ms (i + length (module_words (module' nm x))) (q + length inner)))

pub translates_within : TranslatesWithin
translates_within (program ss m ms) e =
    let t = program ss m ms in
    let letters = symbols_codes ss in
    let cols = columns letters in
    let i = modules_at t in
    let bs = drafts t in
    let n = length bs in
    let ns = module_names (m ∷ ms) in
    let f₁ = nil_parts (alphabet_faults (0 ∷ []) letters 3 ++ names_faults [] (m ∷ ms) i ++ modules_faults (known t) (m ∷ ms) i) (limit_faults (length cols) 0 bs) e in
    let f₂ = nil_parts (alphabet_faults (0 ∷ []) letters 3 ++ names_faults [] (m ∷ ms) i) (modules_faults (known t) (m ∷ ms) i) f₁.0 in
    let f₃ = nil_parts (alphabet_faults (0 ∷ []) letters 3) (names_faults [] (m ∷ ms) i) f₂.0 in
    let u = unseen_by letters (0 ∷ []) 3 f₃.0 in
    let d : different cols ≡ true = columns_differ letters u.1 u.0 in
    let small = alphabet_small ss in
    let fit : length cols ≤ 37 = at_most 37 cols d (below_37 cols (each_columns letters small)) in
    let few : too_many n (length cols) ≡ false = limits_kept (length cols) bs (modules_some m ms i 0) f₁.1 in
    let rows_are : length (block_rows cols 0 (kinds (blocks t))) ≡ n = rows_length cols 0 (kinds (blocks t)) ∙ kinds_length (blocks t) ∙ settled_length (start t) bs in
    let all : Each (RowWithin cols n) (block_rows cols 0 (kinds (blocks t))) =
    rows_within cols ns (start t) n 0 bs (omega arith) (λ w h. let z = start_within (m ∷ ms) i 0 w h in omega arith) (modules_within cols ns (m ∷ ms) i 0 n i f₂.1 (omega arith)) in
    record {
      lettered = codes_some ss;
      most = omega (arith, length-append letters (0 ∷ []));
      codes = small;
      differ = d;
      stated = omega (arith, modules_some m ms i 0);
      few = ap (λ c. too_many c (length cols)) rows_are ∙ few;
      rows = subst (λ (c : ℕ). Each (RowWithin cols c) (block_rows cols 0 (kinds (blocks t)))) (sym rows_are) all;
    }
