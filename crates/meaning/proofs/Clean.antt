-- A printed table keeps every rule.
use Rattle.std.proofs.Common.{◌≡◌, ℕ, suc, ◌+◌, ◌*◌, ◌<◌, ◌≤◌, Bool, true, false, cond, not, ◌||◌, eqb, ltb, List, [], ◌∷◌, ◌++◌, map, length, sym, refl, ap, ◌∙◌, subst, ap₂, mul-le-mul_right, arith}
use Rattle.std.proofs.lemmas.Bool.{eqb-false, eq-eqb, ne_eqb, and_parts, and_from, not-true, or_parts, or_from, or_left, or_right, ltb-false, le-ltb}
use Rattle.words.specs.Bytes.{Text}
use Rattle.words.specs.Vocabulary.{ACCEPT, REJECT, same}
use Rattle.grammar.specs.Tree.{Flow, accept, reject, goto, Module}
use Rattle.grammar.specs.Render.{case_words, module_words, symbols_words}
use Rattle.meaning.specs.Codes.{code, symbol, member, different, columns}
use Rattle.meaning.specs.declared.faults.Cause.TheVariants.{Alphabet, ModuleName, Goto, Letter, Repeated, Missing, Limit}
use Rattle.meaning.specs.Blocks.{Block, start_in, settled, symbols_codes, kinds, modules_blocks, compiled}
use Rattle.meaning.specs.declared.machines.Next.{Next}
use Rattle.meaning.specs.declared.machines.Next.TheVariants.{To, Accept, Reject}
use Rattle.meaning.specs.declared.machines.Entry.{Entry}
use Rattle.meaning.specs.Rules.{Table, block_rows, translation}
use Rattle.meaning.specs.Faults.{Violation, flag, Known, named, alphabet_faults, names_faults, flow_faults, outside, indexed, switch_symbols, symbol_faults, codes_of, covered, case_faults, cases_faults, inside_faults, modules_faults, too_many, limit_faults, module_names, faults}
use Rattle.meaning.specs.Print.{state_name, if_case, while_case, next_case, case_of, row_cases, inside_of, row_module, row_modules, letter_symbols, printed, PrintsBack}
use Rattle.meaning.specs.Tables.{Each, NextWithin, EntryWithin, RowWithin, Within}
use Rattle.meaning.proofs.Names.{code_symbol, name_word, same_names, each_columns, each_member}
use Rattle.meaning.proofs.Back.{Small, codes_case, Leads, rows_back, found}
use Rattle.meaning.proofs.Agree.{rows_length, settled_length, kinds_length}

abbrev pub Unseen : List ℕ → List ℕ → Type 0
Unseen seen cs = Each (λ c. member c seen ≡ false) cs

pub unseen_more : (x : ℕ) (seen cs : List ℕ) → member x cs ≡ false → Unseen seen cs → Unseen (x ∷ seen) cs
unseen_more x seen [] m u = tt
unseen_more x seen (c ∷ cs) m u =
    let p = or_parts (eqb x c) (member x cs) m in
    (or_from (eqb c x) (member c seen) (ne_eqb c x (λ e. eqb-false x c p.0 (sym e))) u.0, unseen_more x seen cs p.1 u.1)

pub unseen_none : (cs : List ℕ) → Unseen [] cs
unseen_none [] = tt
unseen_none (c ∷ cs) = (refl, unseen_none cs)

pub no_again : (seen cs : List ℕ) (i : ℕ) → different cs ≡ true → Unseen seen cs → alphabet_faults seen cs i ≡ []
no_again seen [] i d u = refl
no_again seen (c ∷ cs) i d u =
    let p = and_parts (not (member c cs)) (different cs) d in
    ap₂ ◌++◌ (ap (λ b. flag b i Alphabet) u.0) (no_again (c ∷ seen) cs (i + 2) p.1 (unseen_more c seen cs (not-true (member c cs) p.0) u.1))

-- letters that differ from one another and from blank
not_last : (x : ℕ) (xs : List ℕ) → member x (columns xs) ≡ false → (member x xs ≡ false) × (member x (0 ∷ []) ≡ false)
not_last x [] m = (refl, m)
not_last x (y ∷ ys) m = let p = or_parts (eqb x y) (member x (columns ys)) m in let r = not_last x ys p.1 in (or_from (eqb x y) (member x ys) p.0 r.0, r.1)

pub letters_differ : (xs : List ℕ) → different (columns xs) ≡ true → (different xs ≡ true) × Unseen (0 ∷ []) xs
letters_differ [] d = (refl, tt)
letters_differ (x ∷ xs) d =
    let p = and_parts (not (member x (columns xs))) (different (columns xs)) d in
    let m = not_last x xs (not-true (member x (columns xs)) p.0) in
    let r = letters_differ xs p.1 in
    (and_from (not (member x xs)) (different xs) (ap not m.0) r.0, (m.1, r.1))

no_names : (cols : List ℕ) (q : ℕ) (rows : List (List Entry)) (i : ℕ) (seen : List Text) → q + length rows ≤ 128 → ((r : ℕ) → q ≤ r → r < 128 → named (state_name r).word seen ≡ false)
    → names_faults seen (row_modules cols q rows) i ≡ []
no_names cols q [] i seen k u = refl
no_names cols q (es ∷ rest) i seen k u =
    let w = (state_name q).word in
    ap₂ ◌++◌
    (ap (λ b. flag b (i + 1) ModuleName) (ap (λ v. same v ACCEPT || (same v REJECT || named w seen)) (name_word q (omega arith)) ∙ u q (omega arith) (omega arith)))
    (no_names cols (suc q) rest (i + length (module_words (row_module cols q es))) (w ∷ seen) (omega arith)
    (λ r l h. or_from (same (state_name r).word w) (named (state_name r).word seen) (same_names r q h (omega arith) ∙ ne_eqb r q (λ e. omega arith)) (u r (omega arith) h)))

-- every state's name is a module's
named_row : (cols : List ℕ) (q r : ℕ) (rows : List (List Entry)) → q + length rows ≤ 128 → q ≤ r → r < q + length rows → named (state_name r).word (module_names (row_modules cols q rows)) ≡ true
named_row cols q r [] k l u = absurd (omega arith)
named_row cols q r (es ∷ rest) k l u = by (eqb r q) refl (λ e. named_row cols (suc q) r rest (omega arith) (let d : r ≡ q → ⊥ = eqb-false r q e in omega arith) (omega arith))
  where
    by : (b : Bool) → eqb r q ≡ b → (eqb r q ≡ false → named (state_name r).word (module_names (row_modules cols (suc q) rest)) ≡ true) → named (state_name r).word (module_names (row_modules cols q (es ∷ rest))) ≡ true
    by true e ih = or_left (same (state_name r).word (state_name q).word) _ (same_names r q (omega arith) (omega arith) ∙ e)
    by false e ih = or_right (same (state_name r).word (state_name q).word) _ (ih e)

abbrev Named : List Text → ℕ → Type 0
Named ns n = (r : ℕ) → r < n → named (state_name r).word ns ≡ true

module _ (cols : List ℕ) (ns : List Text) (n : ℕ) (small : Small cols) (has : Named ns n) where
  abbrev k : Known
  k = record { symbols = cols; names = ns }

  inside_alphabet : (w i : ℕ) → member w cols ≡ true → outside k (symbol w) i ≡ []
  inside_alphabet w i m = ap (λ b. flag (not b) i Letter) (ap (λ c. member c cols) (code_symbol w (each_member (λ c. c ≤ 36) w cols small m)) ∙ m)

  no_if : (q c : ℕ) (e : Entry) (f : Flow) (i : ℕ) → member e.write cols ≡ true → ((j : ℕ) → flow_faults k f j ≡ []) → case_faults (if_case c e f) k i ≡ []
  no_if q c e f i m h = ap₂ (λ (x y : List Violation). (x ++ []) ++ y) (inside_alphabet e.write _ m) (h _)

  no_case : (q c : ℕ) (e : Entry) (x : Next) (i : ℕ) → member e.write cols ≡ true → NextWithin n x → case_faults (next_case q c e x) k i ≡ []
  no_case q c e (To r) i m l = by (eqb r q)
    where
      by : (b : Bool) → case_faults (cond b (while_case c e) (if_case c e (goto (state_name r)))) k i ≡ []
      by true = inside_alphabet e.write _ m
      by false = no_if q c e (goto (state_name r)) i m (λ j. ap (λ b. flag (not b) (j + 1) Goto) (has r l))
  no_case q c e Accept i m l = no_if q c e accept i m (λ j. refl)
  no_case q c e Reject i m l = no_if q c e reject i m (λ j. refl)

  no_cases : (q : ℕ) (cs : List ℕ) (es : List Entry) (i : ℕ) → Each (EntryWithin cols n) es → cases_faults (row_cases q cs es) k i ≡ []
  no_cases q [] es i w = refl
  no_cases q (c ∷ cs) [] i w = refl
  no_cases q (c ∷ cs) (e ∷ es) i w = ap₂ ◌++◌ (no_case q c e e.next i w.0.writes w.0.leads) (no_cases q cs es (i + length (case_words (case_of q c e))) w.1)

  row_codes : (q : ℕ) (cs : List ℕ) (es : List Entry) (i : ℕ) → Small cs → length es ≡ length cs → codes_of (switch_symbols (row_cases q cs es) i) ≡ cs
  row_codes q [] es i s l = refl
  row_codes q (c ∷ cs) [] i s l = absurd (omega arith)
  row_codes q (c ∷ cs) (e ∷ es) i s l =
      let j = i + length (case_words (case_of q c e)) in
      ap (λ d. codes_of (indexed d (i + 1) ++ switch_symbols (row_cases q cs es) j)) (codes_case q c e e.next s.0)
      ∙ ap (λ (ds : List ℕ). c ∷ ds) (row_codes q cs es j s.1 (omega arith))

  no_symbols : (seen : List ℕ) (ss : List (ℕ × ℕ)) → Each (λ c. member c cols ≡ true) (codes_of ss) → Unseen seen (codes_of ss) → different (codes_of ss) ≡ true → symbol_faults cols seen ss ≡ []
  no_symbols seen [] a u d = refl
  no_symbols seen (s ∷ ss) a u d =
      let p = and_parts (not (member s.0 (codes_of ss))) (different (codes_of ss)) d in
      ap₂ ◌++◌
      (ap (λ b. cond b (flag (member s.0 seen) s.1 Repeated) (flag true s.1 Letter)) a.0 ∙ ap (λ b. flag b s.1 Repeated) u.0)
      (no_symbols (s.0 ∷ seen) ss a.1 (unseen_more s.0 seen (codes_of ss) (not-true (member s.0 (codes_of ss)) p.0) u.1) p.1)

  all_covered : (cs : List ℕ) → Each (λ c. member c cols ≡ true) cs → covered cs cols ≡ true
  all_covered [] a = refl
  all_covered (c ∷ cs) a = and_from (member c cols) (covered cs cols) a.0 (all_covered cs a.1)

  switched : (ss : List (ℕ × ℕ)) (i : ℕ) → codes_of ss ≡ cols → Each (λ c. member c cols ≡ true) cols → different cols ≡ true
      → symbol_faults cols [] ss ++ flag (not (covered cols (codes_of ss))) i Missing ≡ []
  switched ss i e a d =
      ap₂ ◌++◌ (no_symbols [] ss (subst (Each (λ c. member c cols ≡ true)) (sym e) a) (unseen_none (codes_of ss)) (ap different e ∙ d))
      (ap (λ b. flag (not b) i Missing) (ap (covered cols) e ∙ all_covered cols a))

  no_inside : (q : ℕ) (cs : List ℕ) (es : List Entry) (i : ℕ) → cs ≡ cols → 1 ≤ length cs → Each (λ c. member c cols ≡ true) cols → different cols ≡ true → Small cs → length es ≡ length cs → Each (EntryWithin cols n) es
      → inside_faults k (inside_of (row_cases q cs es)) i ≡ []
  no_inside q [] es i p o a d s l w = absurd (omega arith)
  no_inside q (c ∷ cs) [] i p o a d s l w = absurd (omega arith)
  no_inside q (c ∷ cs) (e ∷ es) i p o a d s l w =
      ap₂ ◌++◌ (switched (switch_symbols (row_cases q (c ∷ cs) (e ∷ es)) i) i (row_codes q (c ∷ cs) (e ∷ es) i s l ∙ p) a d) (no_cases q (c ∷ cs) (e ∷ es) i w)

  no_modules : (q : ℕ) (rows : List (List Entry)) (i : ℕ) → 1 ≤ length cols → Each (λ c. member c cols ≡ true) cols → different cols ≡ true → Each (RowWithin cols n) rows
      → modules_faults k (row_modules cols q rows) i ≡ []
  no_modules q [] i o a d w = refl
  no_modules q (es ∷ rest) i o a d w =
      ap₂ ◌++◌ (no_inside q cols es (i + 3) refl o a d small w.0.wide w.0.each) (no_modules (suc q) rest (i + length (module_words (row_module cols q es))) o a d w.1)

-- each member is one
each_longer : (x : ℕ) (all cs : List ℕ) → Each (λ c. member c all ≡ true) cs → Each (λ c. member c (x ∷ all) ≡ true) cs
each_longer x all [] a = tt
each_longer x all (c ∷ cs) a = (or_right (eqb c x) (member c all) a.0, each_longer x all cs a.1)

pub each_own : (cs : List ℕ) → Each (λ c. member c cs ≡ true) cs
each_own [] = tt
each_own (c ∷ cs) = (or_left (eqb c c) (member c cs) (eq-eqb c c refl), each_longer c cs cs (each_own cs))

pub no_limits : (width q : ℕ) (bs : List (Block Text)) → too_many (q + length bs) width ≡ false → limit_faults width q bs ≡ []
no_limits width q [] h = refl
no_limits width q (b ∷ bs) h =
    let p = or_parts (ltb 128 (q + suc (length bs))) (ltb 1024 ((q + suc (length bs)) * width)) h in
    let a : q + suc (length bs) ≤ 128 = ltb-false 128 (q + suc (length bs)) p.0 in
    let c : (q + suc (length bs)) * width ≤ 1024 = ltb-false 1024 ((q + suc (length bs)) * width) p.1 in
    let l : suc q ≤ q + suc (length bs) = omega arith in
    let m : suc q * width ≤ (q + suc (length bs)) * width = mul-le-mul_right width l in
    let s : suc q + length bs ≡ q + suc (length bs) = omega arith in
    ap₂ ◌++◌ (ap (λ v. flag v b.index Limit) (or_from (ltb 128 (suc q)) (ltb 1024 (suc q * width)) (le-ltb 128 (suc q) (omega arith)) (le-ltb 1024 (suc q * width) (omega arith))))
    (no_limits width (suc q) bs (ap (λ v. too_many v width) s ∙ h))

alphabet_rest : (cs : List ℕ) → Small cs → map code (map symbol cs) ≡ cs
alphabet_rest [] s = refl
alphabet_rest (c ∷ cs) s = ap₂ (λ (x : ℕ) (xs : List ℕ). x ∷ xs) (code_symbol c s.0) (alphabet_rest cs s.1)

alphabet_back : (letters : List ℕ) → 1 ≤ length letters → Small letters → symbols_codes (letter_symbols letters) ≡ letters
alphabet_back [] l s = absurd (omega arith)
alphabet_back (c ∷ cs) l s = alphabet_rest (c ∷ cs) s

columns_some : (letters : List ℕ) → 1 ≤ length (columns letters)
columns_some [] = omega arith
columns_some (x ∷ xs) = omega arith

abbrev faults_of : List ℕ → List Module → ℕ → List Violation
faults_of letters ms i =
    alphabet_faults (0 ∷ []) letters 3
    ++ names_faults [] ms i
    ++ modules_faults (record { symbols = columns letters; names = module_names ms }) ms i
    ++ limit_faults (length (columns letters)) 0 (modules_blocks ms i 0)

no_faults : {A : Type 0} (a b c d : List A) → a ≡ [] → b ≡ [] → c ≡ [] → d ≡ [] → a ++ b ++ c ++ d ≡ []
no_faults a b c d p q r s = ap₂ ◌++◌ (ap₂ ◌++◌ (ap₂ ◌++◌ p q) r) s

-- with the letters and rows of a table
both : (letters : List ℕ) (rows : List (List Entry)) → Within (record { letters = letters; rows = rows }) → let t : Table = record { letters = letters; rows = rows } in (faults (printed t) ≡ []) × (translation (compiled (printed t)) ≡ t)
both letters [] w = let s : 1 ≤ 0 = w.stated in absurd (omega arith)
both letters (es ∷ rest) w = (ap (λ ls. faults_of ls ms i) letters_back ∙ clean, λ j. record { letters = letters_back j; rows = rows_are j })
  where
    rows : List (List Entry)
    rows = es ∷ rest

    cols : List ℕ
    cols = columns letters

    n : ℕ
    n = length rows

    ms : List Module
    ms = row_modules cols 0 rows

    i : ℕ
    i = length (symbols_words (letter_symbols letters)) + 4

    small : Small cols
    small = each_columns letters w.codes

    letters_back : symbols_codes (letter_symbols letters) ≡ letters
    letters_back = alphabet_back letters w.lettered w.codes

    limits : (ltb 128 n ≡ false) × (ltb 1024 (n * length cols) ≡ false)
    limits = or_parts (ltb 128 n) (ltb 1024 (n * length cols)) w.few

    n_small : n ≤ 128
    n_small = ltb-false 128 n limits.0

    leads : Leads (start_in ms i 0) n
    leads r h = found cols n 0 r rows i (columns_some letters) small w.rows (omega (arith, n_small)) (omega arith) (omega arith)

    rows_from : block_rows cols 0 (kinds (settled (start_in ms i 0) (modules_blocks ms i 0))) ≡ rows
    rows_from = rows_back (start_in ms i 0) cols n 0 rows i (columns_some letters) small w.differ leads w.rows

    rows_are : block_rows (columns (symbols_codes (letter_symbols letters))) 0 (kinds (settled (start_in ms i 0) (modules_blocks ms i 0))) ≡ rows
    rows_are = ap (λ ls. block_rows (columns ls) 0 (kinds (settled (start_in ms i 0) (modules_blocks ms i 0)))) letters_back ∙ rows_from

    many : length (modules_blocks ms i 0) ≡ n
    many = sym (rows_length cols 0 (kinds (settled (start_in ms i 0) (modules_blocks ms i 0))) ∙ kinds_length (settled (start_in ms i 0) (modules_blocks ms i 0)) ∙ settled_length (start_in ms i 0) (modules_blocks ms i 0)) ∙ ap length rows_from

    clean : faults_of letters ms i ≡ []
    clean =
        let d = letters_differ letters w.differ in
        no_faults (alphabet_faults (0 ∷ []) letters 3) (names_faults [] ms i) (modules_faults (record { symbols = cols; names = module_names ms }) ms i) (limit_faults (length cols) 0 (modules_blocks ms i 0))
        (no_again (0 ∷ []) letters 3 d.0 d.1)
        (no_names cols 0 rows i [] (omega (arith, n_small)) (λ r l h. refl))
        (no_modules cols (module_names ms) n small (λ r h. named_row cols 0 r rows (omega (arith, n_small)) (omega arith) (omega arith)) 0 rows i (columns_some letters) (each_own cols) w.differ w.rows)
        (no_limits (length cols) 0 (modules_blocks ms i 0) (ap (λ v. too_many v (length cols)) (let z : 0 + length (modules_blocks ms i 0) ≡ n = omega (arith, many) in z) ∙ w.few))

pub prints_back : PrintsBack
prints_back t w = both t.letters t.rows w
