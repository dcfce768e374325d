-- A printed table translates back.
use Rattle.std.proofs.Common.{◌≡◌, ℕ, suc, ◌+◌, ◌<◌, ◌≤◌, Bool, true, false, cond, not, eqb, List, [], ◌∷◌, ◌++◌, map, length, Some, sym, refl, ap, ◌∙◌, ap₂, add-one, arith}
use Rattle.std.proofs.lemmas.Bool.{eqb-true, eqb-false, eq-eqb, ne_eqb, and_parts, not-true, or_parts}
use Rattle.words.specs.Bytes.{Text}
use Rattle.grammar.specs.Tree.{goto, Module}
use Rattle.grammar.specs.Render.{case_words, module_words}
use Rattle.tape.specs.declared.kinds.Direction.{Direction}
use Rattle.tape.specs.declared.kinds.Direction.TheVariants.{Left, Right}
use Rattle.meaning.specs.Codes.{code, symbol, meant, spelled, member, different}
use Rattle.meaning.specs.Blocks.{Then, again, accepting, rejecting, jump, Basic, switch, Block, case_basic, case_codes, case_blocks, cases_blocks, lead, arms, module_blocks, modules_blocks, start_in, settled_then, settled_basic, settled_arms, settled, kinds}
use Rattle.meaning.specs.declared.machines.Next.{Next}
use Rattle.meaning.specs.declared.machines.Next.TheVariants.{To, Accept, Reject}
use Rattle.meaning.specs.Rules.{next_of, basic_action, arm, action_entry, block_rows}
use Rattle.meaning.specs.declared.machines.Entry.{Entry}
use Rattle.meaning.specs.Print.{state_name, if_case, while_case, next_case, case_of, row_cases, row_module, row_modules}
use Rattle.meaning.specs.Tables.{Each, NextWithin, EntryWithin, RowWithin}
use Rattle.meaning.proofs.Names.{code_symbol, same_names, each_member}

-- what a printed case makes of an entry
abbrev pub then_next : ℕ → Next → Then Text
then_next q (To r) = cond (eqb r q) again (jump (state_name r).word)
then_next q Accept = accepting
then_next q Reject = rejecting

abbrev pub entry_basic : ℕ → Entry → Basic Text
entry_basic q e = record { write = Some e.write; move = Some e.direction; then = then_next q e.next }

-- a direction's word means it
direction_back : (d : Direction) → meant (spelled d) ≡ d
direction_back Left = refl
direction_back Right = refl

abbrev based : Then Text → ℕ → Direction → Basic Text
based t w d = record { write = Some w; move = Some d; then = t }

based_back : (e : Entry) (t : Then Text) → e.write ≤ 36 → based t (code (symbol e.write)) (meant (spelled e.direction)) ≡ based t e.write e.direction
based_back e t h = ap₂ (based t) (code_symbol e.write h) (direction_back e.direction)

basic_case : (q c : ℕ) (e : Entry) (x : Next) (n : ℕ) → e.write ≤ 36 → case_basic (next_case q c e x) n ≡ record { write = Some e.write; move = Some e.direction; then = then_next q x }
basic_case q c e (To r) n h = at (eqb r q)
  where
    at : (b : Bool) → case_basic (cond b (while_case c e) (if_case c e (goto (state_name r)))) n ≡ record { write = Some e.write; move = Some e.direction; then = cond b again (jump (state_name r).word) }
    at true = based_back e again h
    at false = based_back e (jump (state_name r).word) h
basic_case q c e Accept n h = based_back e accepting h
basic_case q c e Reject n h = based_back e rejecting h

pub codes_case : (q c : ℕ) (e : Entry) (x : Next) → c ≤ 36 → case_codes (next_case q c e x) ≡ c ∷ []
codes_case q c e (To r) h = at (eqb r q)
  where
    at : (b : Bool) → case_codes (cond b (while_case c e) (if_case c e (goto (state_name r)))) ≡ c ∷ []
    at true = ap (λ d. d ∷ []) (code_symbol c h)
    at false = ap (λ d. d ∷ []) (code_symbol c h)
codes_case q c e Accept h = ap (λ d. d ∷ []) (code_symbol c h)
codes_case q c e Reject h = ap (λ d. d ∷ []) (code_symbol c h)

blocks_case : (q c : ℕ) (e : Entry) (x : Next) (i n : ℕ) → case_blocks (next_case q c e x) i n ≡ []
blocks_case q c e (To r) i n = at (eqb r q)
  where
    at : (b : Bool) → case_blocks (cond b (while_case c e) (if_case c e (goto (state_name r)))) i n ≡ []
    at true = refl
    at false = refl
blocks_case q c e Accept i n = refl
blocks_case q c e Reject i n = refl

abbrev pub zipped : ℕ → List ℕ → List Entry → List (ℕ × Basic Text)
zipped q [] es = []
zipped q (c ∷ cs) [] = []
zipped q (c ∷ cs) (e ∷ es) = (c, entry_basic q e) ∷ zipped q cs es

-- of some columns, and of a row's entries
abbrev pub Small : List ℕ → Type 0
Small cols = Each (λ c. c ≤ 36) cols

abbrev pub WritesSmall : List Entry → Type 0
WritesSmall es = Each (λ e. e.write ≤ 36) es

lead_case : (q c : ℕ) (e : Entry) (n : ℕ) → c ≤ 36 → e.write ≤ 36 → lead (case_codes (case_of q c e)) (case_basic (case_of q c e) n) ≡ (c, entry_basic q e) ∷ []
lead_case q c e n h w = ap₂ lead (codes_case q c e e.next h) (basic_case q c e e.next n w)

arms_row : (q : ℕ) (cols : List ℕ) (es : List Entry) (i n : ℕ) → Small cols → WritesSmall es → arms (row_cases q cols es) i n ≡ zipped q cols es
arms_row q [] es i n h w = refl
arms_row q (c ∷ cs) [] i n h w = refl
arms_row q (c ∷ cs) (e ∷ es) i n h w =
    ap₂ ◌++◌ (lead_case q c e n h.0 w.0) (arms_row q cs es (i + length (case_words (case_of q c e))) (n + length (case_blocks (case_of q c e) i n)) h.1 w.1)

inner_row : (q : ℕ) (cols : List ℕ) (es : List Entry) (i n : ℕ) → cases_blocks (row_cases q cols es) i n ≡ []
inner_row q [] es i n = refl
inner_row q (c ∷ cs) [] i n = refl
inner_row q (c ∷ cs) (e ∷ es) i n =
    ap₂ ◌++◌ (blocks_case q c e e.next i n) (inner_row q cs es (i + length (case_words (case_of q c e))) (n + length (case_blocks (case_of q c e) i n)))

abbrev switch_at : ℕ → List (ℕ × Basic Text) → Block Text
switch_at i as' = record { index = i; kind = switch as' }

pub module_row : (cols : List ℕ) (q : ℕ) (es : List Entry) (i n : ℕ) → 1 ≤ length cols → length es ≡ length cols → Small cols → WritesSmall es
    → module_blocks (row_module cols q es) i n ≡ switch_at (i + 3) (zipped q cols es) ∷ []
module_row [] q es i n s l h w = absurd (omega arith)
module_row (c ∷ cs) q [] i n s l h w = absurd (omega arith)
module_row (c ∷ cs) q (e ∷ es) i n s l h w =
    let j = i + 3 in
    let k = case_of q c e in
    let r = suc n + length (case_blocks k j (suc n)) in
    ap₂ (λ (a : List (ℕ × Basic Text)) (bs : List (Block Text)). switch_at j a ∷ bs)
    (ap₂ ◌++◌ (lead_case q c e (suc n) h.0 w.0) (arms_row q cs es (j + length (case_words k)) r h.1 w.1))
    (ap₂ ◌++◌ (blocks_case q c e e.next j (suc n)) (inner_row q cs es (j + length (case_words k)) r))

-- a name leads to its state
abbrev pub Leads : (Text → ℕ) → ℕ → Type 0
Leads at n = (r : ℕ) → r < n → at (state_name r).word ≡ r

next_back : (at : Text → ℕ) (n q : ℕ) → Leads at n → (x : Next) → NextWithin n x → next_of q (settled_then at (then_next q x)) ≡ x
next_back at n q leads (To r) h = by (eqb r q) refl
  where
    by : (b : Bool) → eqb r q ≡ b → next_of q (settled_then at (cond b again (jump (state_name r).word))) ≡ To r
    by true e = ap To (sym (eqb-true r q e))
    by false e = ap To (leads r h)
next_back at n q leads Accept h = refl
next_back at n q leads Reject h = refl

-- the entry at c, by a list of arms
abbrev entry_by : ℕ → List (ℕ × Basic ℕ) → ℕ → Entry
entry_by q as' c = action_entry c (basic_action q (arm as' c))

skip : (q x : ℕ) (b : Basic ℕ) (as' : List (ℕ × Basic ℕ)) (cs : List ℕ) → member x cs ≡ false → map (entry_by q ((x, b) ∷ as')) cs ≡ map (entry_by q as') cs
skip q x b as' [] m = refl
skip q x b as' (c ∷ cs) m =
    let p = or_parts (eqb x c) (member x cs) m in
    let d : eqb c x ≡ false = ne_eqb c x (λ e. eqb-false x c p.0 (sym e)) in
    ap₂ (λ (e : Entry) (es : List Entry). e ∷ es) (ap (λ v. action_entry c (basic_action q (cond v b (arm as' c)))) d) (skip q x b as' cs p.1)

pub row_back : (at : Text → ℕ) (n q : ℕ) (all cols : List ℕ) (es : List Entry) → Leads at n → different cols ≡ true → length es ≡ length cols → Each (EntryWithin all n) es
    → map (entry_by q (settled_arms at (zipped q cols es))) cols ≡ es
row_back at n q all [] [] leads d l w = refl
row_back at n q all [] (e ∷ es) leads d l w = absurd (omega arith)
row_back at n q all (c ∷ cs) [] leads d l w = absurd (omega arith)
row_back at n q all (c ∷ cs) (e ∷ es) leads d l w =
    let p = and_parts (not (member c cs)) (different cs) d in
    let b = settled_basic at (entry_basic q e) in
    ap₂ (λ (x : Entry) (xs : List Entry). x ∷ xs)
    (ap (λ v. action_entry c (basic_action q (cond v b (arm (settled_arms at (zipped q cs es)) c)))) (eq-eqb c c refl)
    ∙ ap (λ x. let r : Entry = record { write = e.write; direction = e.direction; next = x } in r) (next_back at n q leads e.next w.0.leads))
    (skip q c b (settled_arms at (zipped q cs es)) cs (not-true (member c cs) p.0)
    ∙ row_back at n q all cs es leads p.1 (omega arith) w.1)

writes_small : (cols : List ℕ) (n : ℕ) → Small cols → (es : List Entry) → Each (EntryWithin cols n) es → WritesSmall es
writes_small cols n h [] w = tt
writes_small cols n h (e ∷ es) w = (each_member (λ c. c ≤ 36) e.write cols h w.0.writes, writes_small cols n h es w.1)

pub row_module_blocks : (cols : List ℕ) (n q : ℕ) (es : List Entry) (i m : ℕ) → 1 ≤ length cols → Small cols → RowWithin cols n es
    → module_blocks (row_module cols q es) i m ≡ switch_at (i + 3) (zipped q cols es) ∷ []
row_module_blocks cols n q es i m s h w = module_row cols q es i m s w.wide h (writes_small cols n h es w.each)

pub rows_back : (at : Text → ℕ) (cols : List ℕ) (n q : ℕ) (rows : List (List Entry)) (i : ℕ) → 1 ≤ length cols → Small cols → different cols ≡ true → Leads at n → Each (RowWithin cols n) rows
    → block_rows cols q (kinds (settled at (modules_blocks (row_modules cols q rows) i q))) ≡ rows
rows_back at cols n q [] i s h d leads w = refl
rows_back at cols n q (es ∷ rest) i s h d leads w =
    let m = row_module cols q es in
    let j = i + length (module_words m) in
    let ms = row_modules cols (suc q) rest in
    ap (λ inner. block_rows cols q (kinds (settled at (inner ++ modules_blocks ms j (q + length inner))))) (row_module_blocks cols n q es i q s h w.0)
    ∙ ap₂ (λ (x : List Entry) (xs : List (List Entry)). x ∷ xs)
    (row_back at n q cols cols es leads d w.0.wide w.0.each)
    (ap (λ p. block_rows cols (suc q) (kinds (settled at (modules_blocks ms j p)))) (add-one q) ∙ rows_back at cols n (suc q) rest j s h d leads w.1)

pub found : (cols : List ℕ) (n q r : ℕ) (rows : List (List Entry)) (i : ℕ) → 1 ≤ length cols → Small cols → Each (RowWithin cols n) rows → q + length rows ≤ 128 → q ≤ r → r < q + length rows
    → start_in (row_modules cols q rows) i q (state_name r).word ≡ r
found cols n q r [] i s h w k l u = absurd (omega arith)
found cols n q r (es ∷ rest) i s h w k l u =
    ap (λ b. cond b q (start_in ms j (q + length (module_blocks m i q)) (state_name r).word)) (same_names r q (omega arith) (omega arith))
    ∙ by (eqb r q) refl (λ e. found cols n (suc q) r rest j s h w.1 (omega arith) (let d : r ≡ q → ⊥ = eqb-false r q e in omega arith) (omega arith))
  where
    m : Module
    m = row_module cols q es

    ms : List Module
    ms = row_modules cols (suc q) rest

    j : ℕ
    j = i + length (module_words m)

    by : (b : Bool) → eqb r q ≡ b → (eqb r q ≡ false → start_in ms j (suc q) (state_name r).word ≡ r) → cond b q (start_in ms j (q + length (module_blocks m i q)) (state_name r).word) ≡ r
    by true e ih = sym (eqb-true r q e)
    by false e ih = ap (λ p. start_in ms j p (state_name r).word) (ap (λ bs. q + length bs) (row_module_blocks cols n q es i q s h w.0) ∙ add-one q) ∙ ih e
