-- Each rule in the words of the subject.
use Rattle.std.proofs.Common.{◌≡◌, ℕ, suc, ◌+◌, ◌*◌, ◌≤◌, Bool, true, false, cond, not, ◌||◌, eqb, ltb, ◌↔◌, List, [], ◌∷◌, ◌++◌, length, sym, refl, ap, ◌∙◌, subst, ap₂, append_assoc, append-nil, arith, length-append}
use Rattle.std.proofs.lemmas.Bool.{eqb-true, eqb-false, eq-eqb, ne_eqb, and_parts, and_from, not-true, not-false, or_parts, or_from, ltb-false, le-ltb, true≢false, false≢true}
use Rattle.words.specs.Bytes.{Text}
use Rattle.words.specs.Vocabulary.{ACCEPT, REJECT, same}
use Rattle.grammar.specs.Tree.{Act, change, move, Flow, accept, reject, goto, Once, once_change, once_move, Symbols, Body, act_cases, acts_flow, Case, if, while, Cases, no_more, more, Inside, cases, body, Module, module', Program, program}
use Rattle.grammar.specs.Render.{acts_words, symbols_words, case_words, module_words}
use Rattle.meaning.specs.declared.faults.Cause.{Cause}
use Rattle.meaning.specs.declared.faults.Cause.TheVariants.{Alphabet, ModuleName, Goto, Letter, Repeated, Missing, Limit}
use Rattle.meaning.specs.declared.faults.Layer.TheVariants.{Rules}
use Rattle.meaning.specs.Numbers.{cause_number, cause_layer}
use Rattle.grammar.proofs.Tests.{same_true, same_refl}
use Rattle.meaning.specs.Codes.{code, member, different, columns}
use Rattle.meaning.specs.Blocks.{Block, case_codes, all_modules, alphabet, modules_at, drafts, start, blocks}
use Rattle.meaning.specs.Faults.{Violation, flag, Known, named, alphabet_faults, names_faults, flow_faults, outside, acts_faults, once_faults, indexed, switch_symbols, symbol_faults, codes_of, covered, switch_faults, body_faults, case_faults, cases_faults, inside_faults, modules_faults, too_many, limit_faults, module_names, known, faults}
use Rattle.meaning.specs.Tables.{Each}
use Rattle.meaning.specs.RuleLaws.{NoneOf, Use, goes_to, changes_to, switches, flow_uses, acts_uses, once_uses, cases_codes, switch_uses, body_uses, case_uses, cases_uses, inside_uses, modules_uses, uses, gotos, symbols_used, all_switches, count, LettersFit, different_names, NamesFit, AllNamed, AllColumns, OnceEach, LimitsFit, KeepsRules, RuleLaws, RulesAre}
use Rattle.meaning.proofs.Names.{each_member}
use Rattle.meaning.proofs.Clean.{Unseen, unseen_more, unseen_none, no_again, no_limits, each_own}
use Rattle.meaning.proofs.Ranges.{nil_parts, no_flag, each-++, fewer, not_there, unseen_by, limits_kept, modules_some}
use Rattle.meaning.proofs.Agree.{settled_length}

each_parts : {A : Type 0} (P : A → Type 0) (xs ys : List A) → Each P (xs ++ ys) → Each P xs × Each P ys
each_parts P [] ys h = (tt, h)
each_parts P (x ∷ xs) ys h = let r = each_parts P xs ys h.1 in ((h.0, r.0), r.1)

each_map : {A : Type 0} (P Q : A → Type 0) (xs : List A) → ((x : A) → P x → Q x) → Each P xs → Each Q xs
each_map P Q [] f h = tt
each_map P Q (x ∷ xs) f h = (f x h.0, each_map P Q xs f h.1)

-- causes by themselves
abbrev Absent : Cause → List Cause → Type 0
Absent n cs = Each (λ c. ¬ (c ≡ n)) cs

abbrev Apart : Cause → Cause → Type 0
Apart m n = eqb (cause_number m) (cause_number n) ≡ false

differ : (m n : Cause) → Apart m n → ¬ (m ≡ n)
differ m n d e = eqb-false (cause_number m) (cause_number n) d (ap cause_number e)

abbrev causes : List Violation → List Cause
causes [] = []
causes (f ∷ fs) = f.cause ∷ causes fs

abbrev flagged : Bool → Cause → List Cause
flagged true n = n ∷ []
flagged false n = []

causes-++ : (xs ys : List Violation) → causes (xs ++ ys) ≡ causes xs ++ causes ys
causes-++ [] ys = refl
causes-++ (x ∷ xs) ys = ap (λ (cs : List Cause). x.cause ∷ cs) (causes-++ xs ys)

causes_flag : (b : Bool) (i : ℕ) (n : Cause) → causes (flag b i n) ≡ flagged b n
causes_flag true i n = refl
causes_flag false i n = refl

causes_nil : (fs : List Violation) → causes fs ≡ [] → fs ≡ []
causes_nil [] e = refl
causes_nil (f ∷ fs) e = absurd cc

to_causes : (n : Cause) (fs : List Violation) → NoneOf n fs → Absent n (causes fs)
to_causes n [] h = tt
to_causes n (f ∷ fs) h = (h.0, to_causes n fs h.1)

of_causes : (n : Cause) (fs : List Violation) → Absent n (causes fs) → NoneOf n fs
of_causes n [] h = tt
of_causes n (f ∷ fs) h = (h.0, of_causes n fs h.1)

flag_off : (b : Bool) (n : Cause) → Absent n (flagged b n) → b ≡ false
flag_off true n h = absurd (h.0 refl)
flag_off false n h = refl

off_flag : (b : Bool) (n m : Cause) → b ≡ false → Absent m (flagged b n)
off_flag true n m e = absurd (true≢false e)
off_flag false n m e = tt

other_flag : (b : Bool) (n m : Cause) → Apart n m → Absent m (flagged b n)
other_flag true n m d = (differ n m d, tt)
other_flag false n m d = tt

-- lists of violations with one cause
abbrev Only : Cause → List Violation → Type 0
Only n fs = Each (λ f. f.cause ≡ n) fs

only_none : (n : Cause) (fs : List Violation) → Only n fs → NoneOf n fs → fs ≡ []
only_none n [] o h = refl
only_none n (f ∷ fs) o h = absurd (h.0 o.0)

only_other : (m n : Cause) (fs : List Violation) → Apart m n → Only m fs → NoneOf n fs
only_other m n [] d o = tt
only_other m n (f ∷ fs) d o = ((λ e. differ m n d (sym o.0 ∙ e)), only_other m n fs d o.1)

only_flag : (b : Bool) (i : ℕ) (n : Cause) → Only n (flag b i n)
only_flag true i n = (refl, tt)
only_flag false i n = tt

only_alphabet : (seen cs : List ℕ) (i : ℕ) → Only Alphabet (alphabet_faults seen cs i)
only_alphabet seen [] i = tt
only_alphabet seen (c ∷ cs) i = each-++ (λ f. f.cause ≡ Alphabet) (flag (member c seen) i Alphabet) (alphabet_faults (c ∷ seen) cs (i + 2)) (only_flag (member c seen) i Alphabet) (only_alphabet (c ∷ seen) cs (i + 2))

only_names : (seen : List Text) (ms : List Module) (i : ℕ) → Only ModuleName (names_faults seen ms i)
only_names seen [] i = tt
only_names seen (module' n x ∷ ms) i =
    let j = i + length (module_words (module' n x)) in
    let b = named n.word (ACCEPT ∷ REJECT ∷ seen) in
    each-++ (λ f. f.cause ≡ ModuleName) (flag b (i + 1) ModuleName) (names_faults (n.word ∷ seen) ms j) (only_flag b (i + 1) ModuleName) (only_names (n.word ∷ seen) ms j)

only_limits : (width q : ℕ) (bs : List (Block Text)) → Only Limit (limit_faults width q bs)
only_limits width q [] = tt
only_limits width q (b ∷ bs) = each-++ (λ f. f.cause ≡ Limit) (flag (too_many (suc q) width) b.index Limit) (limit_faults width (suc q) bs) (only_flag (too_many (suc q) width) b.index Limit) (only_limits width (suc q) bs)

-- the alphabet
letters_none : (letters : List ℕ) (i : ℕ) → alphabet_faults (0 ∷ []) letters i ≡ [] → LettersFit letters
letters_none letters i e = let u = unseen_by letters (0 ∷ []) i e in (u.1, not_there 0 [] letters u.0)

unblank : (cs : List ℕ) → member 0 cs ≡ false → Unseen (0 ∷ []) cs
unblank [] m = tt
unblank (c ∷ cs) m = let p = or_parts (eqb 0 c) (member 0 cs) m in (or_from (eqb c 0) false (ne_eqb c 0 (λ e. eqb-false 0 c p.0 (sym e))) refl, unblank cs p.1)

letters_some : (letters : List ℕ) (i : ℕ) → LettersFit letters → alphabet_faults (0 ∷ []) letters i ≡ []
letters_some letters i h = no_again (0 ∷ []) letters i h.0 (unblank letters h.1)

-- names
same_swap : (v w : Text) → same v w ≡ false → same w v ≡ false
same_swap v w e = by (same w v) refl
  where
    by : (b : Bool) → same w v ≡ b → b ≡ false
    by true f = absurd (true≢false (sym (same_refl v) ∙ ap (λ x. same v x) (sym (same_true w v f)) ∙ e))
    by false f = refl

abbrev Fresh : List Text → List Text → Type 0
Fresh seen ns = Each (λ n. named n seen ≡ false) ns

fewer_names : (m : Text) (seen ns : List Text) → Fresh (m ∷ seen) ns → Fresh seen ns
fewer_names m seen [] u = tt
fewer_names m seen (n ∷ ns) u = ((or_parts (same n m) (named n seen) u.0).1, fewer_names m seen ns u.1)

more_names : (m : Text) (seen ns : List Text) → named m ns ≡ false → Fresh seen ns → Fresh (m ∷ seen) ns
more_names m seen [] e u = tt
more_names m seen (n ∷ ns) e u = let p = or_parts (same m n) (named m ns) e in (or_from (same n m) (named n seen) (same_swap m n p.0) u.0, more_names m seen ns p.1 u.1)

unnamed : (m : Text) (seen ns : List Text) → Fresh (m ∷ seen) ns → named m ns ≡ false
unnamed m seen [] u = refl
unnamed m seen (n ∷ ns) u = or_from (same m n) (named m ns) (same_swap n m (or_parts (same n m) (named n seen) u.0).0) (unnamed m seen ns u.1)

abbrev fixed : List Text → List Text
fixed seen = ACCEPT ∷ REJECT ∷ seen

-- accept, reject and the names seen, in another order
named_later : (w m : Text) (seen : List Text) → named w (fixed (m ∷ seen)) ≡ named w (m ∷ fixed seen)
named_later w m seen = by (same w ACCEPT) (same w REJECT) (same w m) (named w seen)
  where
    by : (a r b s : Bool) → a || (r || (b || s)) ≡ b || (a || (r || s))
    by true true true s = refl
    by true true false s = refl
    by true false true s = refl
    by true false false s = refl
    by false true true s = refl
    by false true false s = refl
    by false false true s = refl
    by false false false s = refl

names_none : (ms : List Module) (seen : List Text) (i : ℕ) → names_faults seen ms i ≡ [] → Fresh (fixed seen) (module_names ms) × (different_names (module_names ms) ≡ true)
names_none [] seen i e = (tt, refl)
names_none (module' n x ∷ ms) seen i e =
    let w = n.word in
    let ns = module_names ms in
    let p = nil_parts (flag (named w (fixed seen)) (i + 1) ModuleName) (names_faults (w ∷ seen) ms (i + length (module_words (module' n x)))) e in
    let r = names_none ms (w ∷ seen) (i + length (module_words (module' n x))) p.1 in
    let u : Fresh (w ∷ fixed seen) ns = each_map (λ v. named v (fixed (w ∷ seen)) ≡ false) (λ v. named v (w ∷ fixed seen) ≡ false) ns (λ v h. sym (named_later v w seen) ∙ h) r.0 in
    ((no_flag (named w (fixed seen)) (i + 1) ModuleName p.0, fewer_names w (fixed seen) ns u), and_from (not (named w ns)) (different_names ns) (ap not (unnamed w (fixed seen) ns u)) r.1)

names_some : (ms : List Module) (seen : List Text) (i : ℕ) → Fresh (fixed seen) (module_names ms) → different_names (module_names ms) ≡ true → names_faults seen ms i ≡ []
names_some [] seen i u d = refl
names_some (module' n x ∷ ms) seen i u d =
    let w = n.word in
    let ns = module_names ms in
    let p = and_parts (not (named w ns)) (different_names ns) d in
    let v : Fresh (w ∷ fixed seen) ns = more_names w (fixed seen) ns (not-true (named w ns) p.0) u.1 in
    ap₂ ◌++◌ (ap (λ b. flag b (i + 1) ModuleName) u.0)
    (names_some ms (w ∷ seen) (i + length (module_words (module' n x))) (each_map (λ y. named y (w ∷ fixed seen) ≡ false) (λ y. named y (fixed (w ∷ seen)) ≡ false) ns (λ y h. named_later y w seen ∙ h) v) p.1)

-- limits
within_limits : (n width : ℕ) → too_many n width ≡ false → (n ≤ 128) × (n * width ≤ 1024)
within_limits n width e = let p = or_parts (ltb 128 n) (ltb 1024 (n * width)) e in (ltb-false 128 n p.0, ltb-false 1024 (n * width) p.1)

limits_within : (n width : ℕ) → n ≤ 128 → n * width ≤ 1024 → too_many n width ≡ false
limits_within n width a b = or_from (ltb 128 n) (ltb 1024 (n * width)) (le-ltb 128 n a) (le-ltb 1024 (n * width) b)

-- what a module uses
abbrev symbol_causes : List ℕ → List ℕ → List ℕ → List Cause
symbol_causes cols seen [] = []
symbol_causes cols seen (c ∷ cs) = cond (member c cols) (flagged (member c seen) Repeated) (Letter ∷ []) ++ symbol_causes cols (c ∷ seen) cs

abbrev use_causes : Known → Use → List Cause
use_causes k (goes_to w) = flagged (not (named w k.names)) Goto
use_causes k (changes_to c) = flagged (not (member c k.symbols)) Letter
use_causes k (switches cs) = symbol_causes k.symbols [] cs ++ flagged (not (covered k.symbols cs)) Missing

abbrev all_causes : Known → List Use → List Cause
all_causes k [] = []
all_causes k (u ∷ us) = use_causes k u ++ all_causes k us

all-++ : (k : Known) (us vs : List Use) → all_causes k (us ++ vs) ≡ all_causes k us ++ all_causes k vs
all-++ k [] vs = refl
all-++ k (u ∷ us) vs = ap (λ cs. use_causes k u ++ cs) (all-++ k us vs) ∙ sym (append_assoc (use_causes k u) (all_causes k us) (all_causes k vs))

joined_causes : (k : Known) (xs ys : List Violation) (us vs : List Use) → causes xs ≡ all_causes k us → causes ys ≡ all_causes k vs → causes (xs ++ ys) ≡ all_causes k (us ++ vs)
joined_causes k xs ys us vs p q = causes-++ xs ys ∙ ap₂ ◌++◌ p q ∙ sym (all-++ k us vs)

symbol_causes_are : (cols seen : List ℕ) (ss : List (ℕ × ℕ)) → causes (symbol_faults cols seen ss) ≡ symbol_causes cols seen (codes_of ss)
symbol_causes_are cols seen [] = refl
symbol_causes_are cols seen (s ∷ ss) =
    causes-++ (cond (member s.0 cols) (flag (member s.0 seen) s.1 Repeated) (flag true s.1 Letter)) (symbol_faults cols (s.0 ∷ seen) ss)
    ∙ ap₂ ◌++◌ (by (member s.0 cols)) (symbol_causes_are cols (s.0 ∷ seen) ss)
  where
    by : (b : Bool) → causes (cond b (flag (member s.0 seen) s.1 Repeated) (flag true s.1 Letter)) ≡ cond b (flagged (member s.0 seen) Repeated) (Letter ∷ [])
    by true = causes_flag (member s.0 seen) s.1 Repeated
    by false = refl

codes_indexed : (cs : List ℕ) (i : ℕ) (rest : List (ℕ × ℕ)) → codes_of (indexed cs i ++ rest) ≡ cs ++ codes_of rest
codes_indexed [] i rest = refl
codes_indexed (c ∷ cs) i rest = ap (λ (ds : List ℕ). c ∷ ds) (codes_indexed cs (i + 2) rest)

codes_switch : (cs : Cases) (i : ℕ) → codes_of (switch_symbols cs i) ≡ cases_codes cs
codes_switch no_more i = refl
codes_switch (more c cs) i =
    codes_indexed (case_codes c) (i + 1) (switch_symbols cs (i + length (case_words c)))
    ∙ ap (λ ds. case_codes c ++ ds) (codes_switch cs (i + length (case_words c)))

switch_causes : (k : Known) (cs : Cases) (i : ℕ) → causes (switch_faults k cs i) ≡ all_causes k (switch_uses cs)
switch_causes k no_more i = refl
switch_causes k (more c cs) i =
    let ss = switch_symbols (more c cs) i in
    causes-++ (symbol_faults k.symbols [] ss) (flag (not (covered k.symbols (codes_of ss))) i Missing)
    ∙ ap₂ ◌++◌ (symbol_causes_are k.symbols [] ss) (causes_flag (not (covered k.symbols (codes_of ss))) i Missing)
    ∙ ap (λ ds. use_causes k (switches ds)) (codes_switch (more c cs) i)
    ∙ sym (append-nil (use_causes k (switches (cases_codes (more c cs)))))

acts_causes : (k : Known) (xs : List Act) (i : ℕ) → causes (acts_faults k xs i) ≡ all_causes k (acts_uses xs)
acts_causes k [] i = refl
acts_causes k (change s ∷ xs) i =
    causes-++ (outside k s (i + 1)) (acts_faults k xs (i + 2))
    ∙ ap₂ ◌++◌ (causes_flag (not (member (code s) k.symbols)) (i + 1) Letter) (acts_causes k xs (i + 2))
acts_causes k (move d ∷ xs) i = acts_causes k xs (i + 2)

flow_causes : (k : Known) (f : Flow) (i : ℕ) → causes (flow_faults k f i) ≡ all_causes k (flow_uses f)
flow_causes k accept i = refl
flow_causes k reject i = refl
flow_causes k (goto n) i = causes_flag (not (named n.word k.names)) (i + 1) Goto ∙ sym (append-nil (flagged (not (named n.word k.names)) Goto))

once_causes : (k : Known) (o : Once) (i : ℕ) → causes (once_faults k o i) ≡ all_causes k (once_uses o)
once_causes k (once_change s m) i = causes_flag (not (member (code s) k.symbols)) (i + 1) Letter ∙ sym (append-nil (flagged (not (member (code s) k.symbols)) Letter))
once_causes k (once_move d) i = refl

mutual
  body_causes : (b : Body) (k : Known) (i : ℕ) → causes (body_faults b k i) ≡ all_causes k (body_uses b)
  body_causes (act_cases a xs cs) k i =
      let j = i + length (acts_words (a ∷ xs)) in
      joined_causes k (acts_faults k (a ∷ xs) i ++ switch_faults k cs j) (cases_faults cs k j) (acts_uses (a ∷ xs) ++ switch_uses cs) (cases_uses cs)
      (joined_causes k (acts_faults k (a ∷ xs) i) (switch_faults k cs j) (acts_uses (a ∷ xs)) (switch_uses cs) (acts_causes k (a ∷ xs) i) (switch_causes k cs j))
      (cases_causes cs k j)
  body_causes (acts_flow xs f) k i =
      let j = i + length (acts_words xs) in
      joined_causes k (acts_faults k xs i) (flow_faults k f j) (acts_uses xs) (flow_uses f) (acts_causes k xs i) (flow_causes k f j)

  case_causes : (c : Case) (k : Known) (i : ℕ) → causes (case_faults c k i) ≡ all_causes k (case_uses c)
  case_causes (if ss b) k i = body_causes b k (i + length (symbols_words ss) + 2)
  case_causes (while ss o) k i = once_causes k o (i + length (symbols_words ss) + 2)

  cases_causes : (cs : Cases) (k : Known) (i : ℕ) → causes (cases_faults cs k i) ≡ all_causes k (cases_uses cs)
  cases_causes no_more k i = refl
  cases_causes (more c cs) k i =
      let j = i + length (case_words c) in
      joined_causes k (case_faults c k i) (cases_faults cs k j) (case_uses c) (cases_uses cs) (case_causes c k i) (cases_causes cs k j)

inside_causes : (k : Known) (x : Inside) (i : ℕ) → causes (inside_faults k x i) ≡ all_causes k (inside_uses x)
inside_causes k (cases c cs) i =
    joined_causes k (switch_faults k (more c cs) i) (cases_faults (more c cs) k i) (switch_uses (more c cs)) (cases_uses (more c cs)) (switch_causes k (more c cs) i) (cases_causes (more c cs) k i)
inside_causes k (body b) i = body_causes b k i

modules_causes : (k : Known) (ms : List Module) (i : ℕ) → causes (modules_faults k ms i) ≡ all_causes k (modules_uses ms)
modules_causes k [] i = refl
modules_causes k (module' n x ∷ ms) i =
    let j = i + length (module_words (module' n x)) in
    joined_causes k (inside_faults k x (i + 3)) (modules_faults k ms j) (inside_uses x) (modules_uses ms) (inside_causes k x (i + 3)) (modules_causes k ms j)

-- how often
count_none : (x : ℕ) (cs : List ℕ) → member x cs ≡ false → count x cs ≡ 0
count_none x [] m = refl
count_none x (c ∷ cs) m = let p = or_parts (eqb x c) (member x cs) m in ap (λ b. cond b (suc (count x cs)) (count x cs)) p.0 ∙ count_none x cs p.1

count_some : (x : ℕ) (cs : List ℕ) → member x cs ≡ true → 1 ≤ count x cs
count_some x [] m = absurd (false≢true m)
count_some x (c ∷ cs) m = by (eqb x c) m (count_some x cs)
  where
    by : (b : Bool) → b || member x cs ≡ true → (member x cs ≡ true → 1 ≤ count x cs) → 1 ≤ cond b (suc (count x cs)) (count x cs)
    by true h ih = omega arith
    by false h ih = ih h

counted : (x : ℕ) (cs : List ℕ) → 1 ≤ count x cs → member x cs ≡ true
counted x cs h = by (member x cs) refl
  where
    by : (b : Bool) → member x cs ≡ b → b ≡ true
    by true e = refl
    by false e = let z = count_none x cs e in absurd (omega arith)

count_different : (x : ℕ) (cs : List ℕ) → different cs ≡ true → count x cs ≡ cond (member x cs) 1 0
count_different x [] d = refl
count_different x (c ∷ cs) d = let p = and_parts (not (member c cs)) (different cs) d in by (not-true (member c cs) p.0) (eqb x c) refl (count_different x cs p.1)
  where
    by : member c cs ≡ false → (b : Bool) → eqb x c ≡ b → count x cs ≡ cond (member x cs) 1 0 → cond b (suc (count x cs)) (count x cs) ≡ cond (b || member x cs) 1 0
    by m true e ih = ap suc (count_none x cs (ap (λ y. member y cs) (eqb-true x c e) ∙ m))
    by m false e ih = ih

one_each : (cs : List ℕ) → ((x : ℕ) → count x cs ≤ 1) → different cs ≡ true
one_each [] h = refl
one_each (c ∷ cs) h = and_from (not (member c cs)) (different cs) (ap not (by (member c cs) refl)) (one_each cs (λ x. let z = h x in less x (eqb x c) z))
  where
    less : (x : ℕ) (b : Bool) → cond b (suc (count x cs)) (count x cs) ≤ 1 → count x cs ≤ 1
    less x true z = omega arith
    less x false z = z

    twice : cond (eqb c c) (suc (count c cs)) (count c cs) ≡ suc (count c cs)
    twice = ap (λ b. cond b (suc (count c cs)) (count c cs)) (eq-eqb c c refl)

    by : (b : Bool) → member c cs ≡ b → b ≡ false
    by true e = let z = h c in let y = count_some c cs e in let t = twice in absurd (omega arith)
    by false e = refl

-- a switch
each_covered : (cols cs : List ℕ) → covered cols cs ≡ true → Each (λ c. member c cs ≡ true) cols
each_covered [] cs h = tt
each_covered (c ∷ cols) cs h = let p = and_parts (member c cs) (covered cols cs) h in (p.0, each_covered cols cs p.1)

covered_each : (cols cs : List ℕ) → Each (λ c. member c cs ≡ true) cols → covered cols cs ≡ true
covered_each [] cs h = refl
covered_each (c ∷ cols) cs h = and_from (member c cs) (covered cols cs) h.0 (covered_each cols cs h.1)

make_once : (cols cs : List ℕ) → AllColumns cols cs → different cs ≡ true → covered cols cs ≡ true → OnceEach cols cs
make_once cols cs a d v x = count_different x cs d ∙ ap (λ b. cond b 1 0) (by (member x cs) (member x cols) refl refl)
  where
    by : (b e : Bool) → member x cs ≡ b → member x cols ≡ e → b ≡ e
    by true true p q = refl
    by true false p q = sym (each_member (λ c. member c cols ≡ true) x cs a p) ∙ q
    by false true p q = sym p ∙ each_member (λ c. member c cs ≡ true) x cols (each_covered cols cs v) q
    by false false p q = refl

once_columns : (cols cs : List ℕ) → OnceEach cols cs → AllColumns cols cs
once_columns cols cs o = each_map (λ c. member c cs ≡ true) (λ c. member c cols ≡ true) cs (λ c m. by c (member c cols) refl (count_some c cs m)) (each_own cs)
  where
    by : (c : ℕ) (b : Bool) → member c cols ≡ b → 1 ≤ count c cs → b ≡ true
    by c true e h = refl
    by c false e h = let z : count c cs ≡ 0 = o c ∙ ap (λ b. cond b 1 0) e in absurd (omega arith)

once_different : (cols cs : List ℕ) → OnceEach cols cs → different cs ≡ true
once_different cols cs o = one_each cs (λ x. by x (member x cols) refl)
  where
    by : (x : ℕ) (b : Bool) → member x cols ≡ b → count x cs ≤ 1
    by x true e = let z : count x cs ≡ 1 = o x ∙ ap (λ b. cond b 1 0) e in omega arith
    by x false e = let z : count x cs ≡ 0 = o x ∙ ap (λ b. cond b 1 0) e in omega arith

once_covered : (cols cs : List ℕ) → OnceEach cols cs → covered cols cs ≡ true
once_covered cols cs o =
    covered_each cols cs (each_map (λ c. member c cols ≡ true) (λ c. member c cs ≡ true) cols (λ c m. counted c cs (let z : count c cs ≡ 1 = o c ∙ ap (λ b. cond b 1 0) m in omega arith)) (each_own cols))

-- its symbols
letters_known : (cols seen cs : List ℕ) → Absent Letter (symbol_causes cols seen cs) → AllColumns cols cs
letters_known cols seen [] h = tt
letters_known cols seen (c ∷ cs) h =
    let p = each_parts (λ n. ¬ (n ≡ Letter)) (cond (member c cols) (flagged (member c seen) Repeated) (Letter ∷ [])) (symbol_causes cols (c ∷ seen) cs) h in
    (by (member c cols) p.0, letters_known cols (c ∷ seen) cs p.1)
  where
    by : (b : Bool) → Absent Letter (cond b (flagged (member c seen) Repeated) (Letter ∷ [])) → b ≡ true
    by true g = refl
    by false g = absurd (g.0 refl)

known_letters : (cols seen cs : List ℕ) → AllColumns cols cs → Absent Letter (symbol_causes cols seen cs)
known_letters cols seen [] a = tt
known_letters cols seen (c ∷ cs) a =
    each-++ (λ n. ¬ (n ≡ Letter)) (cond (member c cols) (flagged (member c seen) Repeated) (Letter ∷ [])) (symbol_causes cols (c ∷ seen) cs)
    (subst (λ (b : Bool). Absent Letter (cond b (flagged (member c seen) Repeated) (Letter ∷ []))) (sym a.0) (other_flag (member c seen) Repeated Letter refl)) (known_letters cols (c ∷ seen) cs a.1)

symbols_unseen : (cols cs seen : List ℕ) → AllColumns cols cs → Absent Repeated (symbol_causes cols seen cs) → Unseen seen cs × (different cs ≡ true)
symbols_unseen cols [] seen a h = (tt, refl)
symbols_unseen cols (c ∷ cs) seen a h =
    let p = each_parts (λ n. ¬ (n ≡ Repeated)) (cond (member c cols) (flagged (member c seen) Repeated) (Letter ∷ [])) (symbol_causes cols (c ∷ seen) cs) h in
    let g : Absent Repeated (flagged (member c seen) Repeated) = subst (λ (b : Bool). Absent Repeated (cond b (flagged (member c seen) Repeated) (Letter ∷ []))) a.0 p.0 in
    let r = symbols_unseen cols cs (c ∷ seen) a.1 p.1 in
    ((flag_off (member c seen) Repeated g, fewer c seen cs r.0), and_from (not (member c cs)) (different cs) (ap not (not_there c seen cs r.0)) r.1)

symbols_clean : (cols cs seen : List ℕ) → AllColumns cols cs → Unseen seen cs → different cs ≡ true → symbol_causes cols seen cs ≡ []
symbols_clean cols [] seen a u d = refl
symbols_clean cols (c ∷ cs) seen a u d =
    let p = and_parts (not (member c cs)) (different cs) d in
    ap₂ ◌++◌ (ap (λ b. cond b (flagged (member c seen) Repeated) (Letter ∷ [])) a.0 ∙ ap (λ b. flagged b Repeated) u.0)
    (symbols_clean cols cs (c ∷ seen) a.1 (unseen_more c seen cs (not-true (member c cs) p.0) u.1) p.1)

symbols_other : (n : Cause) (cols seen cs : List ℕ) → Apart Repeated n → Apart Letter n → Absent n (symbol_causes cols seen cs)
symbols_other n cols seen [] d e = tt
symbols_other n cols seen (c ∷ cs) d e =
    each-++ (λ m. ¬ (m ≡ n)) (cond (member c cols) (flagged (member c seen) Repeated) (Letter ∷ [])) (symbol_causes cols (c ∷ seen) cs) (by (member c cols)) (symbols_other n cols (c ∷ seen) cs d e)
  where
    by : (b : Bool) → Absent n (cond b (flagged (member c seen) Repeated) (Letter ∷ []))
    by true = other_flag (member c seen) Repeated n d
    by false = (differ Letter n e, tt)

module _ (k : Known) where
  abbrev cols : List ℕ
  cols = k.symbols

  switch_parts : (n : Cause) (cs : List ℕ) → Absent n (use_causes k (switches cs)) → Absent n (symbol_causes cols [] cs) × Absent n (flagged (not (covered cols cs)) Missing)
  switch_parts n cs h = each_parts (λ m. ¬ (m ≡ n)) (symbol_causes cols [] cs) (flagged (not (covered cols cs)) Missing) h

  switch_once : (cs : List ℕ) → Absent Letter (use_causes k (switches cs)) → Absent Repeated (use_causes k (switches cs)) → Absent Missing (use_causes k (switches cs)) → OnceEach cols cs
  switch_once cs l r m =
      let a = letters_known cols [] cs (switch_parts Letter cs l).0 in
      make_once cols cs a (symbols_unseen cols cs [] a (switch_parts Repeated cs r).0).1 (not-false (covered cols cs) (flag_off (not (covered cols cs)) Missing (switch_parts Missing cs m).1))

  once_switch : (cs : List ℕ) → OnceEach cols cs → use_causes k (switches cs) ≡ []
  once_switch cs o =
      ap₂ ◌++◌ (symbols_clean cols cs [] (once_columns cols cs o) (unseen_none cs) (once_different cols cs o)) (ap (λ b. flagged (not b) Missing) (once_covered cols cs o))

  -- over all uses
  head_rest : (n : Cause) (u : Use) (us : List Use) → Absent n (all_causes k (u ∷ us)) → Absent n (use_causes k u) × Absent n (all_causes k us)
  head_rest n u us h = each_parts (λ m. ¬ (m ≡ n)) (use_causes k u) (all_causes k us) h

  with_rest : (n : Cause) (u : Use) (us : List Use) → Absent n (use_causes k u) → Absent n (all_causes k us) → Absent n (all_causes k (u ∷ us))
  with_rest n u us h r = each-++ (λ m. ¬ (m ≡ n)) (use_causes k u) (all_causes k us) h r

  on_flag : (b : Bool) (n m : Cause) → b ≡ true → Absent m (flagged (not b) n)
  on_flag b n m e = off_flag (not b) n m (ap not e)

  gotos_named : (us : List Use) → Absent Goto (all_causes k us) → AllNamed k.names (gotos us)
  gotos_named [] h = tt
  gotos_named (goes_to w ∷ us) h = let p = head_rest Goto (goes_to w) us h in (not-false (named w k.names) (flag_off (not (named w k.names)) Goto p.0), gotos_named us p.1)
  gotos_named (changes_to c ∷ us) h = gotos_named us (head_rest Goto (changes_to c) us h).1
  gotos_named (switches cs ∷ us) h = gotos_named us (head_rest Goto (switches cs) us h).1

  named_gotos : (us : List Use) → AllNamed k.names (gotos us) → Absent Goto (all_causes k us)
  named_gotos [] h = tt
  named_gotos (goes_to w ∷ us) h = with_rest Goto (goes_to w) us (on_flag (named w k.names) Goto Goto h.0) (named_gotos us h.1)
  named_gotos (changes_to c ∷ us) h = with_rest Goto (changes_to c) us (other_flag (not (member c cols)) Letter Goto refl) (named_gotos us h)
  named_gotos (switches cs ∷ us) h =
      with_rest Goto (switches cs) us (each-++ (λ m. ¬ (m ≡ Goto)) (symbol_causes cols [] cs) (flagged (not (covered cols cs)) Missing) (symbols_other Goto cols [] cs refl refl) (other_flag (not (covered cols cs)) Missing Goto refl)) (named_gotos us h)

  used_known : (us : List Use) → Absent Letter (all_causes k us) → AllColumns cols (symbols_used us)
  used_known [] h = tt
  used_known (goes_to w ∷ us) h = used_known us (head_rest Letter (goes_to w) us h).1
  used_known (changes_to c ∷ us) h = let p = head_rest Letter (changes_to c) us h in (not-false (member c cols) (flag_off (not (member c cols)) Letter p.0), used_known us p.1)
  used_known (switches cs ∷ us) h =
      let p = head_rest Letter (switches cs) us h in
      each-++ (λ c. member c cols ≡ true) cs (symbols_used us) (letters_known cols [] cs (switch_parts Letter cs p.0).0) (used_known us p.1)

  known_used : (us : List Use) → AllColumns cols (symbols_used us) → Absent Letter (all_causes k us)
  known_used [] h = tt
  known_used (goes_to w ∷ us) h = with_rest Letter (goes_to w) us (other_flag (not (named w k.names)) Goto Letter refl) (known_used us h)
  known_used (changes_to c ∷ us) h = with_rest Letter (changes_to c) us (on_flag (member c cols) Letter Letter h.0) (known_used us h.1)
  known_used (switches cs ∷ us) h =
      let p = each_parts (λ c. member c cols ≡ true) cs (symbols_used us) h in
      with_rest Letter (switches cs) us (each-++ (λ m. ¬ (m ≡ Letter)) (symbol_causes cols [] cs) (flagged (not (covered cols cs)) Missing) (known_letters cols [] cs p.0) (other_flag (not (covered cols cs)) Missing Letter refl)) (known_used us p.1)

  switches_once : (us : List Use) → Absent Letter (all_causes k us) → Absent Repeated (all_causes k us) → Absent Missing (all_causes k us) → Each (OnceEach cols) (all_switches us)
  switches_once [] l r m = tt
  switches_once (goes_to w ∷ us) l r m = switches_once us (head_rest Letter (goes_to w) us l).1 (head_rest Repeated (goes_to w) us r).1 (head_rest Missing (goes_to w) us m).1
  switches_once (changes_to c ∷ us) l r m = switches_once us (head_rest Letter (changes_to c) us l).1 (head_rest Repeated (changes_to c) us r).1 (head_rest Missing (changes_to c) us m).1
  switches_once (switches cs ∷ us) l r m =
      let a = head_rest Letter (switches cs) us l in
      let b = head_rest Repeated (switches cs) us r in
      let c = head_rest Missing (switches cs) us m in
      (switch_once cs a.0 b.0 c.0, switches_once us a.1 b.1 c.1)

  once_switches : (n : Cause) (us : List Use) → Apart Goto n → Apart Letter n → Each (OnceEach cols) (all_switches us) → Absent n (all_causes k us)
  once_switches n [] d e h = tt
  once_switches n (goes_to w ∷ us) d e h = with_rest n (goes_to w) us (other_flag (not (named w k.names)) Goto n d) (once_switches n us d e h)
  once_switches n (changes_to c ∷ us) d e h = with_rest n (changes_to c) us (other_flag (not (member c cols)) Letter n e) (once_switches n us d e h)
  once_switches n (switches cs ∷ us) d e h = with_rest n (switches cs) us (subst (Absent n) (sym (once_switch cs h.0)) tt) (once_switches n us d e h.1)

  all_clean : (us : List Use) → AllNamed k.names (gotos us) → AllColumns cols (symbols_used us) → Each (OnceEach cols) (all_switches us) → all_causes k us ≡ []
  all_clean [] g a o = refl
  all_clean (goes_to w ∷ us) g a o = ap₂ ◌++◌ (ap (λ b. flagged (not b) Goto) g.0) (all_clean us g.1 a o)
  all_clean (changes_to c ∷ us) g a o = ap₂ ◌++◌ (ap (λ b. flagged (not b) Letter) a.0) (all_clean us g a.1 o)
  all_clean (switches cs ∷ us) g a o = ap₂ ◌++◌ (once_switch cs o.0) (all_clean us g (each_parts (λ c. member c cols ≡ true) cs (symbols_used us) a).1 o.1)

switch_law : (k : Known) (c : Case) (cs : Cases) (i : ℕ) → (switch_faults k (more c cs) i ≡ []) ↔ OnceEach k.symbols (cases_codes (more c cs))
switch_law k c cs i =
    let ds = cases_codes (more c cs) in
    let is = switch_causes k (more c cs) i in
    let there : switch_faults k (more c cs) i ≡ [] → OnceEach k.symbols ds = λ e.
    let z : use_causes k (switches ds) ≡ [] = sym (append-nil (use_causes k (switches ds))) ∙ sym is ∙ ap causes e in
    switch_once k ds (subst (Absent Letter) (sym z) tt) (subst (Absent Repeated) (sym z) tt) (subst (Absent Missing) (sym z) tt) in
    (there, λ o. causes_nil (switch_faults k (more c cs) i) (is ∙ append-nil (use_causes k (switches ds)) ∙ once_switch k ds o))

-- every cause is a rule's
abbrev Ruled : Cause → Type 0
Ruled n = cause_layer n ≡ Rules

abbrev RuledAt : Violation → Type 0
RuledAt f = Ruled f.cause

only_ruled : (n : Cause) (fs : List Violation) → Ruled n → Only n fs → Each RuledAt fs
only_ruled n fs r o = each_map (λ f. f.cause ≡ n) RuledAt fs (λ f e. ap cause_layer e ∙ r) o

flag_ruled : (b : Bool) (n : Cause) → Ruled n → Each Ruled (flagged b n)
flag_ruled true n r = (r, tt)
flag_ruled false n r = tt

symbols_ruled : (known seen cs : List ℕ) → Each Ruled (symbol_causes known seen cs)
symbols_ruled known seen [] = tt
symbols_ruled known seen (c ∷ cs) = each-++ Ruled (cond (member c known) (flagged (member c seen) Repeated) (Letter ∷ [])) (symbol_causes known (c ∷ seen) cs) (by (member c known)) (symbols_ruled known (c ∷ seen) cs)
  where
    by : (b : Bool) → Each Ruled (cond b (flagged (member c seen) Repeated) (Letter ∷ []))
    by true = flag_ruled (member c seen) Repeated refl
    by false = (refl, tt)

use_ruled : (k : Known) (u : Use) → Each Ruled (use_causes k u)
use_ruled k (goes_to w) = flag_ruled (not (named w k.names)) Goto refl
use_ruled k (changes_to c) = flag_ruled (not (member c k.symbols)) Letter refl
use_ruled k (switches cs) = each-++ Ruled (symbol_causes k.symbols [] cs) (flagged (not (covered k.symbols cs)) Missing) (symbols_ruled k.symbols [] cs) (flag_ruled (not (covered k.symbols cs)) Missing refl)

all_ruled : (k : Known) (us : List Use) → Each Ruled (all_causes k us)
all_ruled k [] = tt
all_ruled k (u ∷ us) = each-++ Ruled (use_causes k u) (all_causes k us) (use_ruled k u) (all_ruled k us)

causes_ruled : (fs : List Violation) → Each Ruled (causes fs) → Each RuledAt fs
causes_ruled [] h = tt
causes_ruled (f ∷ fs) h = (h.0, causes_ruled fs h.1)

-- the four lists of a program's violations
module _ (ss : Symbols) (m : Module) (ms : List Module) where
  abbrev t : Program
  t = program ss m ms

  abbrev k : Known
  k = known t

  abbrev us : List Use
  us = uses t

  abbrev A : List Violation
  A = alphabet_faults (0 ∷ []) (alphabet t) 3

  abbrev N : List Violation
  N = names_faults [] (all_modules t) (modules_at t)

  abbrev M : List Violation
  M = modules_faults k (all_modules t) (modules_at t)

  abbrev L : List Violation
  L = limit_faults (length (columns (alphabet t))) 0 (drafts t)

  pub record Four (n : Cause) : Type 0 where
    a : NoneOf n A
    b : NoneOf n N
    c : NoneOf n M
    d : NoneOf n L

  parts_of : (n : Cause) → NoneOf n (faults t) → Four n
  parts_of n h =
      let P : Violation → Type 0 = λ f. ¬ (f.cause ≡ n) in
      let p = each_parts P (A ++ N ++ M) L h in
      let q = each_parts P (A ++ N) M p.0 in
      let r = each_parts P A N q.0 in
      record { a = r.0; b = r.1; c = q.1; d = p.1 }

  whole_of : (n : Cause) → Four n → NoneOf n (faults t)
  whole_of n f =
      let P : Violation → Type 0 = λ f. ¬ (f.cause ≡ n) in
      each-++ P (A ++ N ++ M) L (each-++ P (A ++ N) M (each-++ P A N f.a f.b) f.c) f.d

  oa : Only Alphabet A
  oa = only_alphabet (0 ∷ []) (alphabet t) 3

  on : Only ModuleName N
  on = only_names [] (all_modules t) (modules_at t)

  ol : Only Limit L
  ol = only_limits (length (columns (alphabet t))) 0 (drafts t)

  uses_of : (n : Cause) → NoneOf n (faults t) → Absent n (all_causes k us)
  uses_of n h = subst (Absent n) (modules_causes k (all_modules t) (modules_at t)) (to_causes n M (parts_of n h).c)

  -- a cause of the modules' insides alone
  of_uses : (n : Cause) → Apart Alphabet n → Apart ModuleName n → Apart Limit n → Absent n (all_causes k us) → NoneOf n (faults t)
  of_uses n p q r h =
      whole_of n (record {
        a = only_other Alphabet n A p oa;
        b = only_other ModuleName n N q on;
        c = of_causes n M (subst (Absent n) (sym (modules_causes k (all_modules t) (modules_at t))) h);
        d = only_other Limit n L r ol;
      })

  four_causes : (n : Cause) → Apart Goto n → Apart Letter n → Apart Repeated n → Apart Missing n → (vs : List Use) → Absent n (all_causes k vs)
  four_causes n p q r s [] = tt
  four_causes n p q r s (goes_to w ∷ vs) = with_rest k n (goes_to w) vs (other_flag (not (named w k.names)) Goto n p) (four_causes n p q r s vs)
  four_causes n p q r s (changes_to c ∷ vs) = with_rest k n (changes_to c) vs (other_flag (not (member c k.symbols)) Letter n q) (four_causes n p q r s vs)
  four_causes n p q r s (switches cs ∷ vs) =
      with_rest k n (switches cs) vs
      (each-++ (λ m. ¬ (m ≡ n)) (symbol_causes k.symbols [] cs) (flagged (not (covered k.symbols cs)) Missing) (symbols_other n k.symbols [] cs r q) (other_flag (not (covered k.symbols cs)) Missing n s))
      (four_causes n p q r s vs)

  insides : (n : Cause) → Apart Goto n → Apart Letter n → Apart Repeated n → Apart Missing n → NoneOf n M
  insides n p q r s = of_causes n M (subst (Absent n) (sym (modules_causes k (all_modules t) (modules_at t))) (four_causes n p q r s us))

  width : length (columns (alphabet t)) ≡ length (alphabet t) + 1
  width = length-append (alphabet t) (0 ∷ [])

  many : length (blocks t) ≡ length (drafts t)
  many = settled_length (start t) (drafts t)

  limits_there : L ≡ [] → LimitsFit (length (blocks t)) (length (alphabet t))
  limits_there e =
      let w = within_limits (length (drafts t)) (length (columns (alphabet t))) (limits_kept (length (columns (alphabet t))) (drafts t) (modules_some m ms (modules_at t) 0) e) in
      (let z = many in let y = w.0 in omega arith, subst (λ (x : ℕ). x ≤ 1024) (ap₂ (λ a b. a * b) (sym many) width) w.1)

  limits_back : LimitsFit (length (blocks t)) (length (alphabet t)) → L ≡ []
  limits_back h =
      no_limits (length (columns (alphabet t))) 0 (drafts t)
      (limits_within (0 + length (drafts t)) (length (columns (alphabet t))) (let z = many in let y = h.0 in omega arith)
      (subst (λ (x : ℕ). x ≤ 1024) (ap₂ (λ a b. a * b) (let z = many in let y : length (blocks t) ≡ 0 + length (drafts t) = omega arith in y) (sym width)) h.1))

  names_there : N ≡ [] → NamesFit (module_names (all_modules t))
  names_there e = let r = names_none (all_modules t) [] (modules_at t) e in (r.1, r.0)

  names_back : NamesFit (module_names (all_modules t)) → N ≡ []
  names_back h = names_some (all_modules t) [] (modules_at t) h.1 h.0

  keeps : faults t ≡ [] → KeepsRules t
  keeps e =
      let none : (n : Cause) → NoneOf n (faults t) = λ n. subst (NoneOf n) (sym e) tt in
      let p = nil_parts (A ++ N ++ M) L e in
      let q = nil_parts (A ++ N) M p.0 in
      let r = nil_parts A N q.0 in
      record {
        letters = letters_none (alphabet t) 3 r.0;
        names = names_there r.1;
        gotos_lead = gotos_named k us (uses_of Goto (none Goto));
        symbols_known = used_known k us (uses_of Letter (none Letter));
        switches_whole = switches_once k us (uses_of Letter (none Letter)) (uses_of Repeated (none Repeated)) (uses_of Missing (none Missing));
        few_blocks = limits_there p.1;
      }

  kept : KeepsRules t → faults t ≡ []
  kept h =
      let a : A ≡ [] = letters_some (alphabet t) 3 h.letters in
      let b : N ≡ [] = names_back h.names in
      let c : M ≡ [] = causes_nil M (modules_causes k (all_modules t) (modules_at t) ∙ all_clean k us h.gotos_lead h.symbols_known h.switches_whole) in
      let d : L ≡ [] = limits_back h.few_blocks in
      ap₂ ◌++◌ (ap₂ ◌++◌ (ap₂ ◌++◌ a b) c) d

  all_of_rules : Each RuledAt (faults t)
  all_of_rules =
      each-++ RuledAt (A ++ N ++ M) L
      (each-++ RuledAt (A ++ N) M (each-++ RuledAt A N (only_ruled Alphabet A refl oa) (only_ruled ModuleName N refl on))
      (causes_ruled M (subst (Each Ruled) (sym (modules_causes k (all_modules t) (modules_at t))) (all_ruled k us))))
      (only_ruled Limit L refl ol)

  laws : RuleLaws t
  laws = record {
    layer = all_of_rules;
    by_alphabet = (
      λ h. letters_none (alphabet t) 3 (only_none Alphabet A oa (parts_of Alphabet h).a),
      λ h. whole_of Alphabet (record { a = subst (NoneOf Alphabet) (sym (letters_some (alphabet t) 3 h)) tt; b = only_other ModuleName Alphabet N refl on; c = insides Alphabet refl refl refl refl; d = only_other Limit Alphabet L refl ol }),
    );
    by_module_name = (
      λ h. names_there (only_none ModuleName N on (parts_of ModuleName h).b),
      λ h. whole_of ModuleName (record { a = only_other Alphabet ModuleName A refl oa; b = subst (NoneOf ModuleName) (sym (names_back h)) tt; c = insides ModuleName refl refl refl refl; d = only_other Limit ModuleName L refl ol }),
    );
    by_goto = (λ h. gotos_named k us (uses_of Goto h), λ h. of_uses Goto refl refl refl (named_gotos k us h));
    by_letter = (λ h. used_known k us (uses_of Letter h), λ h. of_uses Letter refl refl refl (known_used k us h));
    by_switch = λ l. (
      λ h. switches_once k us (uses_of Letter l) (uses_of Repeated h.0) (uses_of Missing h.1),
      λ h. (of_uses Repeated refl refl refl (once_switches k Repeated us refl refl h), of_uses Missing refl refl refl (once_switches k Missing us refl refl h)),
    );
    by_limit = (
      λ h. limits_there (only_none Limit L ol (parts_of Limit h).d),
      λ h. whole_of Limit (record { a = only_other Alphabet Limit A refl oa; b = only_other ModuleName Limit N refl on; c = insides Limit refl refl refl refl; d = subst (NoneOf Limit) (sym (limits_back h)) tt }),
    );
    clean = (keeps, kept);
  }

every : (t : Program) → RuleLaws t
every (program ss m ms) = laws ss m ms

pub rules_are : RulesAre
rules_are = record { program = every; switch = switch_law }
