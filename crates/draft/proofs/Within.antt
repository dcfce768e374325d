-- Every violation stands at a word of the program.
use Rattle.std.proofs.Common.{◌≡◌, ℕ, suc, ◌+◌, ◌*◌, ◌<◌, ◌≤◌, Bool, true, false, cond, not, List, [], ◌∷◌, ◌++◌, map, length, refl, arith, length-append}
use Rattle.std.specs.List.{AllByRecursion}
use Rattle.std.proofs.ByRecursion.{All-append, All-weaker}
use Rattle.words.specs.Bytes.{Text}
use Rattle.words.specs.Vocabulary.{Symbol, ALPHABET, EQUALS, IF, WHILE, ACCEPT, REJECT}
use Rattle.grammar.specs.Tree.{Act, change, move, Flow, accept, reject, goto, Once, once_change, once_move, Symbols, symbols, Body, act_cases, acts_flow, Case, if, while, Cases, no_more, more, Inside, cases, body, Module, module', program}
use Rattle.grammar.specs.Render.{render, acts_words, flow_words, once_words, commas_words, symbols_words, braced, body_words, case_words, cases_words, inside_words, module_words, modules_words}
use Rattle.meaning.specs.declared.faults.Cause.{Cause}
use Rattle.meaning.specs.declared.faults.Cause.TheVariants.{Alphabet, ModuleName, Goto, Letter, Repeated, Missing, Limit}
use Rattle.meaning.specs.Codes.{code, member, columns}
use Rattle.meaning.specs.Blocks.{Block, symbols_codes, case_codes, modules_at, settled, start, drafts, alphabet}
use Rattle.meaning.specs.Faults.{Violation, flag, Known, alphabet_faults, names_faults, flow_faults, outside, acts_faults, once_faults, indexed, switch_symbols, symbol_faults, codes_of, covered, switch_faults, body_faults, case_faults, cases_faults, inside_faults, modules_faults, named, too_many, limit_faults, known}
use Rattle.meaning.specs.Splits.{Rising}
use Rattle.meaning.proofs.Order.{numbers_in_order, braced_length}
use Rattle.draft.specs.Outcome.{ViolationsWithin}

-- these violations stand at words below n
abbrev Under : ℕ → List Violation → Type 0
Under n fs = AllByRecursion (λ v. v.index < n) fs

both : (n : ℕ) (xs ys : List Violation) → Under n xs → Under n ys → Under n (xs ++ ys)
both n xs ys h k = All-append (λ v. v.index < n) xs ys h k

up : (m n : ℕ) (fs : List Violation) → m ≤ n → Under m fs → Under n fs
up m n fs h u = All-weaker (λ v. v.index < m) (λ v. v.index < n) (λ v l. omega (arith, l, h)) fs u

one : (n : ℕ) (b : Bool) (i : ℕ) (c : Cause) → i < n → Under n (flag b i c)
one n true i c h = (h, tt)
one n false i c h = tt

commas_length : (ss : List Symbol) → length (commas_words ss) ≡ 2 * length (map code ss)
commas_length [] = refl
commas_length (s ∷ ss) = let z = commas_length ss in omega arith

symbols_length : (ss : Symbols) → length (symbols_words ss) + 1 ≡ 2 * length (symbols_codes ss)
symbols_length (symbols s ss) = let z = commas_length ss in omega arith

alphabet_under : (seen cs : List ℕ) (i n : ℕ) → i + 2 * length cs ≤ n → Under n (alphabet_faults seen cs i)
alphabet_under seen [] i n h = tt
alphabet_under seen (c ∷ cs) i n h =
    both n (flag (member c seen) i Alphabet) (alphabet_faults (c ∷ seen) cs (i + 2)) (one n (member c seen) i Alphabet (omega arith)) (alphabet_under (c ∷ seen) cs (i + 2) n (omega arith))

flow_under : (k : Known) (f : Flow) (i : ℕ) → Under (i + length (flow_words f)) (flow_faults k f i)
flow_under k accept i = tt
flow_under k reject i = tt
flow_under k (goto w) i = one (i + 2) (not (named w.word k.names)) (i + 1) Goto (omega arith)

outside_under : (k : Known) (s : Symbol) (i n : ℕ) → i < n → Under n (outside k s i)
outside_under k s i n h = one n (not (member (code s) k.symbols)) i Letter h

acts_under : (k : Known) (xs : List Act) (i : ℕ) → Under (i + length (acts_words xs)) (acts_faults k xs i)
acts_under k [] i = tt
acts_under k (change s ∷ xs) i =
    let n = i + length (acts_words (change s ∷ xs)) in
    both n (outside k s (i + 1)) (acts_faults k xs (i + 2)) (outside_under k s (i + 1) n (omega arith)) (up (i + 2 + length (acts_words xs)) n (acts_faults k xs (i + 2)) (omega arith) (acts_under k xs (i + 2)))
acts_under k (move d ∷ xs) i = up (i + 2 + length (acts_words xs)) (i + length (acts_words (move d ∷ xs))) (acts_faults k xs (i + 2)) (omega arith) (acts_under k xs (i + 2))

once_under : (k : Known) (o : Once) (i : ℕ) → Under (i + length (once_words o)) (once_faults k o i)
once_under k (once_change s m) i = outside_under k s (i + 1) (i + length (once_words (once_change s m))) (omega arith)
once_under k (once_move d) i = tt

-- these symbols stand at words below n
abbrev SymbolsUnder : ℕ → List (ℕ × ℕ) → Type 0
SymbolsUnder n ps = AllByRecursion (λ p. p.1 < n) ps

indexed_under : (cs : List ℕ) (i n : ℕ) → i + 2 * length cs ≤ n → SymbolsUnder n (indexed cs i)
indexed_under [] i n h = tt
indexed_under (c ∷ cs) i n h = (omega arith, indexed_under cs (i + 2) n (omega arith))

-- a case's words: its symbols and three more, at least
case_length : (c : Case) → 2 * length (case_codes c) + 1 < length (case_words c)
case_length (if ss b) = let s = symbols_length ss in let l = length-append (IF ∷ symbols_words ss) (braced (body_words b)) in let m = braced_length (body_words b) in omega arith
case_length (while ss o) = let s = symbols_length ss in let l = length-append (WHILE ∷ symbols_words ss) (braced (once_words o)) in let m = braced_length (once_words o) in omega arith

switch_symbols_under : (cs : Cases) (i n : ℕ) → i + length (cases_words cs) ≤ n → SymbolsUnder n (switch_symbols cs i)
switch_symbols_under no_more i n h = tt
switch_symbols_under (more c cs) i n h =
    let l = length-append (case_words c) (cases_words cs) in
    let m = case_length c in
    let j = i + length (case_words c) in
    All-append (λ p. p.1 < n) (indexed (case_codes c) (i + 1)) (switch_symbols cs j) (indexed_under (case_codes c) (i + 1) n (omega arith)) (switch_symbols_under cs j n (omega arith))

symbol_under : (cols seen : List ℕ) (ps : List (ℕ × ℕ)) (n : ℕ) → SymbolsUnder n ps → Under n (symbol_faults cols seen ps)
symbol_under cols seen [] n h = tt
symbol_under cols seen (p ∷ ps) n h =
    both n (cond (member p.0 cols) (flag (member p.0 seen) p.1 Repeated) (flag true p.1 Letter)) (symbol_faults cols (p.0 ∷ seen) ps) (by (member p.0 cols)) (symbol_under cols (p.0 ∷ seen) ps n h.1)
  where
    by : (b : Bool) → Under n (cond b (flag (member p.0 seen) p.1 Repeated) (flag true p.1 Letter))
    by true = one n (member p.0 seen) p.1 Repeated h.0
    by false = one n true p.1 Letter h.0

switch_under : (k : Known) (cs : Cases) (i : ℕ) → Under (i + length (cases_words cs)) (switch_faults k cs i)
switch_under k no_more i = tt
switch_under k (more c cs) i =
    let n = i + length (cases_words (more c cs)) in
    let ss = switch_symbols (more c cs) i in
    let l = length-append (case_words c) (cases_words cs) in
    let m = case_length c in
    both n (symbol_faults k.symbols [] ss) (flag (not (covered k.symbols (codes_of ss))) i Missing)
    (symbol_under k.symbols [] ss n (switch_symbols_under (more c cs) i n (omega arith)))
    (one n (not (covered k.symbols (codes_of ss))) i Missing (omega arith))

mutual
  body_under : (b : Body) (k : Known) (i : ℕ) → Under (i + length (body_words b)) (body_faults b k i)
  body_under (act_cases a xs cs) k i =
      let n = i + length (body_words (act_cases a xs cs)) in
      let j = i + length (acts_words (a ∷ xs)) in
      let l = length-append (acts_words (a ∷ xs)) (cases_words cs) in
      let af = acts_faults k (a ∷ xs) i in
      let sf = switch_faults k cs j in
      let cf = cases_faults cs k j in
      both n (af ++ sf) cf (both n af sf (up j n af (omega arith) (acts_under k (a ∷ xs) i)) (up (j + length (cases_words cs)) n sf (omega arith) (switch_under k cs j)))
      (up (j + length (cases_words cs)) n cf (omega arith) (cases_under cs k j))
  body_under (acts_flow xs f) k i =
      let n = i + length (body_words (acts_flow xs f)) in
      let j = i + length (acts_words xs) in
      let l = length-append (acts_words xs) (flow_words f) in
      both n (acts_faults k xs i) (flow_faults k f j) (up j n (acts_faults k xs i) (omega arith) (acts_under k xs i)) (up (j + length (flow_words f)) n (flow_faults k f j) (omega arith) (flow_under k f j))

  case_under : (c : Case) (k : Known) (i : ℕ) → Under (i + length (case_words c)) (case_faults c k i)
  case_under (if ss b) k i =
      let j = i + length (symbols_words ss) + 2 in
      let l = length-append (IF ∷ symbols_words ss) (braced (body_words b)) in
      let m = braced_length (body_words b) in
      up (j + length (body_words b)) (i + length (case_words (if ss b))) (body_faults b k j) (omega arith) (body_under b k j)
  case_under (while ss o) k i =
      let j = i + length (symbols_words ss) + 2 in
      let l = length-append (WHILE ∷ symbols_words ss) (braced (once_words o)) in
      let m = braced_length (once_words o) in
      up (j + length (once_words o)) (i + length (case_words (while ss o))) (once_faults k o j) (omega arith) (once_under k o j)

  cases_under : (cs : Cases) (k : Known) (i : ℕ) → Under (i + length (cases_words cs)) (cases_faults cs k i)
  cases_under no_more k i = tt
  cases_under (more c cs) k i =
      let n = i + length (cases_words (more c cs)) in
      let j = i + length (case_words c) in
      let l = length-append (case_words c) (cases_words cs) in
      both n (case_faults c k i) (cases_faults cs k j) (up j n (case_faults c k i) (omega arith) (case_under c k i)) (up (j + length (cases_words cs)) n (cases_faults cs k j) (omega arith) (cases_under cs k j))

inside_under : (k : Known) (v : Inside) (i : ℕ) → Under (i + length (inside_words v)) (inside_faults k v i)
inside_under k (cases c cs) i =
    both (i + length (cases_words (more c cs))) (switch_faults k (more c cs) i) (cases_faults (more c cs) k i) (switch_under k (more c cs) i) (cases_under (more c cs) k i)
inside_under k (body b) i = body_under b k i

modules_under : (k : Known) (ms : List Module) (i : ℕ) → Under (i + length (modules_words ms)) (modules_faults k ms i)
modules_under k [] i = tt
modules_under k (module' w v ∷ ms) i =
    let n = i + length (modules_words (module' w v ∷ ms)) in
    let j = i + length (module_words (module' w v)) in
    let l = length-append (module_words (module' w v)) (modules_words ms) in
    let m = braced_length (inside_words v) in
    both n (inside_faults k v (i + 3)) (modules_faults k ms j) (up (i + 3 + length (inside_words v)) n (inside_faults k v (i + 3)) (omega arith) (inside_under k v (i + 3)))
    (up (j + length (modules_words ms)) n (modules_faults k ms j) (omega arith) (modules_under k ms j))

names_under : (seen : List Text) (ms : List Module) (i : ℕ) → Under (i + length (modules_words ms)) (names_faults seen ms i)
names_under seen [] i = tt
names_under seen (module' w v ∷ ms) i =
    let n = i + length (modules_words (module' w v ∷ ms)) in
    let j = i + length (module_words (module' w v)) in
    let l = length-append (module_words (module' w v)) (modules_words ms) in
    let m = braced_length (inside_words v) in
    let b = named w.word (ACCEPT ∷ REJECT ∷ seen) in
    both n (flag b (i + 1) ModuleName) (names_faults (w.word ∷ seen) ms j) (one n b (i + 1) ModuleName (omega arith))
    (up (j + length (modules_words ms)) n (names_faults (w.word ∷ seen) ms j) (omega arith) (names_under (w.word ∷ seen) ms j))

rising_below : {G : Type 0} (lo : ℕ) (bs : List (Block G)) (hi : ℕ) → Rising lo bs hi → lo ≤ hi
rising_below lo [] hi r = r
rising_below lo (b ∷ bs) hi r = let z = rising_below (suc b.index) bs hi r.1 in omega (arith, r.0)

limits_under : (at : Text → ℕ) (w q lo : ℕ) (bs : List (Block Text)) (n : ℕ) → Rising lo (settled at bs) n → Under n (limit_faults w q bs)
limits_under at w q lo [] n r = tt
limits_under at w q lo (b ∷ bs) n r =
    both n (flag (too_many (suc q) w) b.index Limit) (limit_faults w (suc q) bs)
    (one n (too_many (suc q) w) b.index Limit (rising_below (suc b.index) (settled at bs) n r.1))
    (limits_under at w (suc q) (suc b.index) bs n r.1)

pub violations_within : ViolationsWithin
violations_within (program ss m ms) =
    let t = program ss m ms in
    let n = length (render t) in
    let i = modules_at t in
    let l = length-append ((ALPHABET ∷ EQUALS ∷ braced (symbols_words ss)) ++ module_words m) (modules_words ms) in
    let k = length-append (ALPHABET ∷ EQUALS ∷ braced (symbols_words ss)) (module_words m) in
    let j = length-append (module_words m) (modules_words ms) in
    let b = braced_length (symbols_words ss) in
    let s = symbols_length ss in
    let af = alphabet_faults (0 ∷ []) (symbols_codes ss) 3 in
    let nf = names_faults [] (m ∷ ms) i in
    let mf = modules_faults (known t) (m ∷ ms) i in
    let lf = limit_faults (length (columns (alphabet t))) 0 (drafts t) in
    let e : i + length (modules_words (m ∷ ms)) ≤ n = omega arith in
    both n (af ++ nf ++ mf) lf
    (both n (af ++ nf) mf
    (both n af nf (alphabet_under (0 ∷ []) (symbols_codes ss) 3 n (omega arith)) (up (i + length (modules_words (m ∷ ms))) n nf e (names_under [] (m ∷ ms) i)))
    (up (i + length (modules_words (m ∷ ms))) n mf e (modules_under (known t) (m ∷ ms) i)))
    (limits_under (start t) (length (columns (alphabet t))) 0 0 (drafts t) n (numbers_in_order t))
