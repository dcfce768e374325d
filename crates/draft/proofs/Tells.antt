-- The lowest fault of a finished draft is the program's first.
use Rattle.std.proofs.Common.{◌≡◌, ℕ, suc, ◌+◌, Bool, true, false, cond, not, ◌&&◌, ◌||◌, eqb, ltb, List, [], ◌∷◌, ◌++◌, length, None, Option, sym, refl, ap, ◌∙◌, subst, ap₂, append_assoc, append-nil, add_assoc, arith, length-append}
use mathlib.Core.Option.{Option as Maybe, none, some}
use Rattle.std.proofs.lemmas.Bool.{eqb-true, eq-eqb, and_parts, and_from, or_left, or_right, false≢true}
use Rattle.words.specs.Bytes.{Text}
use Rattle.words.specs.Vocabulary.{Symbol, ACCEPT, REJECT, same}
use Rattle.grammar.specs.Tree.{Direction, Act, change, move, Flow, accept, reject, goto, Once, once_change, once_move, Body, act_cases, acts_flow, Case, if, while, Cases, no_more, more, Inside, cases, body, Module, module', Program, program}
use Rattle.grammar.specs.Render.{acts_words, symbols_words, case_words, module_words}
use Rattle.meaning.specs.declared.faults.Cause.{Cause}
use Rattle.meaning.specs.declared.faults.Cause.TheVariants.{Alphabet, ModuleName, Goto, Letter, Repeated, Missing, Limit}
use Rattle.meaning.specs.Codes.{code, member, columns}
use Rattle.meaning.specs.Blocks.{rank, Kind, first_basic, Part, before, parts, Block, basic, switch, first_of, part_length, part_blocks, later_part_blocks, rest_blocks, case_blocks, cases_blocks, switch_blocks, inside_blocks, modules_blocks, case_codes, symbols_codes, some_case, next, modules_at, drafts}
use Rattle.meaning.specs.Faults.{Violation, flag, Known, named, alphabet_faults, names_faults, flow_faults, outside, acts_faults, once_faults, indexed, switch_symbols, symbol_faults, codes_of, covered, switch_faults, body_faults, case_faults, cases_faults, inside_faults, modules_faults, too_many, limit_faults, module_names, known, first_fault}
use Rattle.draft.specs.Draft.{Entry, Pending, Letters, Draft, met, flagged, no_letters, letter_noted, empty_draft, is_column, names_of, name_noted, symbol_noted, Seen, none_seen, seen_too, code_noted, all_seen, begun, resolved}
use Rattle.draft.specs.Building.{Owner, Current, fresh, with_act, closed, unfilled, Progress, next_begun, numbered, arm_of}
use Rattle.draft.specs.Noted.{letters_noted, act_noted, acts_noted, flow_noted, once_noted, codes_noted, seen_with, behind, body_noted, case_noted, cases_noted, switch_noted, inside_noted, modules_noted, draft_of, told}
use Rattle.draft.specs.Laws.{TellsFirst}
use Rattle.draft.proofs.Minimum.{plus, plus_none, plus-++, plus_swap, met_plus}
use Rattle.draft.proofs.Parts.{part, current, last, onto, only, wrote, moved, before_part, current_part, fresh_rank, onto_joined, onto_fresh, fresh_flow, onto_flow, part_blocks_head, two_more}

-- more faults met, then resolved
resolved_plus : (ns : List Text) (gs : List Pending) (fs : List Violation) (w : Option Violation) → resolved ns gs (plus fs w) ≡ plus fs (resolved ns gs w)
resolved_plus ns [] fs w = refl
resolved_plus ns (g ∷ gs) fs w =
    let b = not (named g.name ns) in
    let fl = flag b g.index Goto in
    ap (resolved ns gs) (met_plus b g.index Goto (plus fs w) ∙ plus_swap fl fs w ∙ ap (plus fs) (sym (met_plus b g.index Goto w)))
    ∙ resolved_plus ns gs fs (met b g.index Goto w)

-- one more goto
resolved_last : (ns : List Text) (gs : List Pending) (g : Pending) (w : Option Violation) → resolved ns (gs ++ (g ∷ [])) w ≡ met (not (named g.name ns)) g.index Goto (resolved ns gs w)
resolved_last ns [] g w = refl
resolved_last ns (h ∷ gs) g w = resolved_last ns gs g (met (not (named h.name ns)) h.index Goto w)

-- one more violation met, then resolved
resolved_met : (ns : List Text) (gs : List Pending) (b : Bool) (i : ℕ) (n : Cause) (w : Option Violation) → resolved ns gs (met b i n w) ≡ plus (flag b i n) (resolved ns gs w)
resolved_met ns gs b i n w = ap (resolved ns gs) (met_plus b i n w) ∙ resolved_plus ns gs (flag b i n) w

-- of blocks, one after another
pub limits-++ : {G : Type 0} (w q : ℕ) (xs ys : List (Block G)) → limit_faults w q (xs ++ ys) ≡ limit_faults w q xs ++ limit_faults w (q + length xs) ys
limits-++ w q [] ys = ap (λ n. limit_faults w n ys) (let z : q ≡ q + 0 = omega arith in z)
limits-++ w q (x ∷ xs) ys =
    ap (λ fs. flag (too_many (suc q) w) x.index Limit ++ fs) (limits-++ w (suc q) xs ys ∙ ap (λ n. limit_faults w (suc q) xs ++ limit_faults w n ys) (let z : suc q + length xs ≡ q + suc (length xs) = omega arith in z))
    ∙ sym (append_assoc (flag (too_many (suc q) w) x.index Limit) (limit_faults w (suc q) xs) (limit_faults w (q + suc (length xs)) ys))

-- the codes seen, as a test
abbrev pub mem : List ℕ → Seen
mem seen d = member d seen

-- codes seen, the last in front
abbrev pub pushed : List ℕ → List ℕ → List ℕ
pushed [] seen = seen
pushed (c ∷ cs) seen = pushed cs (c ∷ seen)

-- the draft sees what the rules see
pub seen_pushed : (cs seen : List ℕ) → seen_with cs (mem seen) ≡ mem (pushed cs seen)
seen_pushed [] seen = refl
seen_pushed (c ∷ cs) seen = seen_pushed cs (c ∷ seen)

-- of symbols, one after another
symbol_faults-++ : (cols seen : List ℕ) (xs ys : List (ℕ × ℕ)) → symbol_faults cols seen (xs ++ ys) ≡ symbol_faults cols seen xs ++ symbol_faults cols (pushed (codes_of xs) seen) ys
symbol_faults-++ cols seen [] ys = refl
symbol_faults-++ cols seen (x ∷ xs) ys =
    let f = cond (member x.0 cols) (flag (member x.0 seen) x.1 Repeated) (flag true x.1 Letter) in
    ap (λ fs. f ++ fs) (symbol_faults-++ cols (x.0 ∷ seen) xs ys) ∙ sym (append_assoc f (symbol_faults cols (x.0 ∷ seen) xs) (symbol_faults cols (pushed (codes_of xs) (x.0 ∷ seen)) ys))

codes_indexed : (cs : List ℕ) (i : ℕ) → codes_of (indexed cs i) ≡ cs
codes_indexed [] i = refl
codes_indexed (c ∷ cs) i = ap (λ ds. c ∷ ds) (codes_indexed cs (i + 2))

codes-++ : (xs ys : List (ℕ × ℕ)) → codes_of (xs ++ ys) ≡ codes_of xs ++ codes_of ys
codes-++ [] ys = refl
codes-++ (x ∷ xs) ys = ap (λ ds. x.0 ∷ ds) (codes-++ xs ys)

pushed-++ : (xs ys seen : List ℕ) → pushed (xs ++ ys) seen ≡ pushed ys (pushed xs seen)
pushed-++ [] ys seen = refl
pushed-++ (x ∷ xs) ys seen = pushed-++ xs ys (x ∷ seen)

pub or_swap : (a b c : Bool) → a || (b || c) ≡ b || (a || c)
or_swap true true c = refl
or_swap true false c = refl
or_swap false b c = refl

-- a code in the middle is as well in front
pub member_mid : (d c : ℕ) (xs seen : List ℕ) → member d (xs ++ c ∷ seen) ≡ eqb d c || member d (xs ++ seen)
member_mid d c [] seen = refl
member_mid d c (x ∷ xs) seen = ap (λ b. eqb d x || b) (member_mid d c xs seen) ∙ or_swap (eqb d x) (eqb d c) (member d (xs ++ seen))

-- in whatever order codes are seen, the same are seen
pushed_member : (d : ℕ) (cs seen : List ℕ) → member d (pushed cs seen) ≡ member d (cs ++ seen)
pushed_member d [] seen = refl
pushed_member d (c ∷ cs) seen = pushed_member d cs (c ∷ seen) ∙ member_mid d c cs seen

-- one more name
names_last : (es : List Entry) (e : Entry) → names_of (es ++ (e ∷ [])) ≡ names_of es ++ (e.name ∷ [])
names_last [] e = refl
names_last (x ∷ es) e = ap (λ ns. x.name ∷ ns) (names_last es e)

-- a name at the end is as well in front
named_last : (v : Text) (ns : List Text) (w : Text) → named v (ns ++ (w ∷ [])) ≡ same v w || named v ns
named_last v [] w = refl
named_last v (n ∷ ns) w = ap (λ b. same v n || b) (named_last v ns w) ∙ or_swap (same v n) (same v w) (named v ns)

-- the same codes seen, the same answer
all_seen_same : (cols : List ℕ) (s t : Seen) → ((d : ℕ) → s d ≡ t d) → all_seen cols s ≡ all_seen cols t
all_seen_same [] s t h = refl
all_seen_same (c ∷ cols) s t h = ap₂ ◌&&◌ (h c) (all_seen_same cols s t h)

-- each column is among these, as a test on the codes seen
covered_seen : (cols cs : List ℕ) → covered cols cs ≡ all_seen cols (mem cs)
covered_seen [] cs = refl
covered_seen (c ∷ cols) cs = ap (λ b. member c cs && b) (covered_seen cols cs)

-- orders of faults
one_out : (o a l : List Violation) (d : Option Violation) → plus a (plus l (plus o d)) ≡ plus (o ++ a) (plus l d)
one_out o a l d = ap (plus a) (plus_swap l o d) ∙ plus_swap a o (plus l d) ∙ sym (plus-++ o a (plus l d))

one_in : (g l f : List Violation) (d : Option Violation) → plus g (plus l (plus f d)) ≡ plus g (plus (f ++ l) d)
one_in g l f d = ap (plus g) (plus_swap l f d ∙ sym (plus-++ f l d))

-- first p, l, then q, m
two_steps : (p l q m : List Violation) (d : Option Violation) → plus q (plus m (plus p (plus l d))) ≡ plus (p ++ q) (plus (l ++ m) d)
two_steps p l q m d = one_out p q m (plus l d) ∙ ap (plus (p ++ q)) (plus_swap m l d ∙ sym (plus-++ l m d))

-- the same with symbols
three_steps : (s c l t e m : List Violation) (d : Option Violation) → plus t (plus e (plus m (plus s (plus c (plus l d))))) ≡ plus (s ++ t) (plus (c ++ e) (plus (l ++ m) d))
three_steps s c l t e m d =
    ap (plus t) (ap (plus e) (plus_swap m s (plus c (plus l d))) ∙ plus_swap e s (plus m (plus c (plus l d))))
    ∙ plus_swap t s (plus e (plus m (plus c (plus l d))))
    ∙ sym (plus-++ s t (plus e (plus m (plus c (plus l d)))))
    ∙ ap (plus (s ++ t)) (two_steps c l e m d)

module _ (k : Known) (a : Letters) (cols : (c : ℕ) → is_column a c ≡ member c k.symbols) (covers : (s : Seen) → all_seen (columns a.letters) s ≡ all_seen k.symbols s) where
  -- the lowest violation that a draft comes to, where these are the names of all modules
  abbrev due : Draft → Option Violation
  due x = resolved k.names x.gotos x.violation

  -- the blocks that break the limits
  abbrev limits : ℕ → List (Block Text) → List Violation
  limits q bs = limit_faults a.width q bs

  -- from x to y: these faults, and these blocks from the number q on
  abbrev Stepped : ℕ → Draft → Draft → List Violation → List (Block Text) → Type 0
  Stepped q x y fs bs = (y.count ≡ q + length bs) × (due y ≡ plus fs (plus (limits q bs) (due x))) × (y.names ≡ x.names)

  -- a block begins
  begun_due : (q i : ℕ) (x : Draft) (kd : Kind Text) → x.count ≡ q → due (begun a i kd x) ≡ plus (flag (too_many (suc q) a.width) i Limit) (due x)
  begun_due q i x kd e = resolved_met k.names x.gotos (too_many (suc x.count) a.width) i Limit x.violation ∙ ap (λ n. plus (flag (too_many (suc n) a.width) i Limit) (due x)) e

  -- a symbol is written
  symbol_due : (s : Symbol) (i : ℕ) (x : Draft) → due (symbol_noted a s i x) ≡ plus (outside k s i) (due x)
  symbol_due s i x = resolved_met k.names x.gotos (not (is_column a (code s))) i Letter x.violation ∙ ap (λ b. plus (flag (not b) i Letter) (due x)) (cols (code s))

  -- what an act breaks
  abbrev act_faults : Act → ℕ → List Violation
  act_faults (change s) i = outside k s (i + 1)
  act_faults (move d) i = []

  act_due : (act : Act) (i : ℕ) (x : Draft) → due (act_noted a act i x) ≡ plus (act_faults act i) (due x)
  act_due (change s) i x = symbol_due s (i + 1) x
  act_due (move d) i x = refl

  act_count : (act : Act) (i : ℕ) (x : Draft) → (act_noted a act i x).count ≡ x.count
  act_count (change s) i x = refl
  act_count (move d) i x = refl

  act_names : (act : Act) (i : ℕ) (x : Draft) → (act_noted a act i x).names ≡ x.names
  act_names (change s) i x = refl
  act_names (move d) i x = refl

  acts_more : (act : Act) (xs : List Act) (i : ℕ) → act_faults act i ++ acts_faults k xs (i + 2) ≡ acts_faults k (act ∷ xs) i
  acts_more (change s) xs i = refl
  acts_more (move d) xs i = refl

  -- a command that stands in the part under construction
  joins : (act : Act) (xs : List Act) (q i : ℕ) (x y : Draft) (bs : List (Block Text)) → Stepped q (act_noted a act i x) y (acts_faults k xs (i + 2)) bs → Stepped q x y (acts_faults k (act ∷ xs) i) bs
  joins act xs q i x y bs r =
      (r.0, r.1 ∙ ap (λ d. plus (acts_faults k xs (i + 2)) (plus (limits q bs) d)) (act_due act i x) ∙ one_out (act_faults act i) (acts_faults k xs (i + 2)) (limits q bs) (due x) ∙ ap (λ fs. plus fs (plus (limits q bs) (due x))) (acts_more act xs i), r.2 ∙ act_names act i x)

  -- a block that begins at i
  begins : (q i : ℕ) (x y z : Draft) (fs : List Violation) (b : Block Text) (bs : List (Block Text)) → due z ≡ plus (flag (too_many (suc q) a.width) i Limit) (due x) → b.index ≡ i → z.names ≡ x.names → Stepped (suc q) z y fs bs → Stepped q x y fs (b ∷ bs)
  begins q i x y z fs b bs h e n r = (
    r.0 ∙ (let g : suc q + length bs ≡ q + suc (length bs) = omega arith in g),
    r.1 ∙ ap (λ d. plus fs (plus (limits (suc q) bs) d)) h ∙ one_in fs (limits (suc q) bs) (flag (too_many (suc q) a.width) i Limit) (due x)
        ∙ ap (λ j. plus fs (plus (flag (too_many (suc q) a.width) j Limit ++ limits (suc q) bs) (due x))) (sym e),
    r.2 ∙ n,
  )

  -- acts, after the part under construction
  pub acts_step : (xs : List Act) (w : Maybe Symbol) (m : Maybe Direction) (o : Owner) (j i q : ℕ) (x : Draft) (f : Maybe Flow) (b : Bool) → i ≡ j + part_length (part w m) → x.count ≡ q
      → Stepped q x (acts_noted a xs (current o (part w m)) i x).draft (acts_faults k xs i) (later_part_blocks (onto (part w m) (parts xs f)) b j q)
  acts_step [] w m o j i q x none b l e = (omega arith, refl, refl)
  acts_step [] w m o j i q x (some f) b l e =
      subst (λ (ps : List Part). Stepped q x x [] (later_part_blocks ps b j q)) (sym (onto_flow w m f)) (omega arith, refl, refl)
  acts_step (act ∷ xs) w m o j i q x f b l e =
      subst (λ (ps : List Part). Stepped q x (acts_noted a (act ∷ xs) c i x).draft fs (later_part_blocks ps b j q)) (sym (onto_joined w m act rest))
      (at (ltb (last (part w m)) (rank act)) refl
      (λ h. acts_step xs (wrote act w) (moved act m) o j (i + 2) q y f b (let v = two_more w m act h in let u = ap part_length (before_part act w m) in omega arith) (act_count act i x ∙ e))
      (acts_step xs (wrote act none) (moved act none) (numbered x.count) i (i + 2) (suc q) z f b (let v = two_more none none act (fresh_rank act) in let u = ap part_length (before_part act none none) in omega arith) (act_count act i begun' ∙ ap suc e)))
    where
      c : Current
      c = current o (part w m)

      rest : List Part
      rest = parts xs f

      fs : List Violation
      fs = acts_faults k (act ∷ xs) i

      y : Draft
      y = act_noted a act i x

      begun' : Draft
      begun' = (next_begun a c i x).draft

      z : Draft
      z = act_noted a act i begun'

      new_part : Part
      new_part = part (wrote act none) (moved act none)

      at : (d : Bool) → ltb (last (part w m)) (rank act) ≡ d
          → (ltb (last (part w m)) (rank act) ≡ true → Stepped q y (acts_noted a xs (current o (part (wrote act w) (moved act m))) (i + 2) y).draft (acts_faults k xs (i + 2)) (later_part_blocks (onto (part (wrote act w) (moved act m)) rest) b j q))
          → Stepped (suc q) z (acts_noted a xs (current (numbered x.count) new_part) (i + 2) z).draft (acts_faults k xs (i + 2)) (later_part_blocks (onto new_part rest) b i (suc q))
          → let v : Progress = cond d (record { current = c; draft = x }) (next_begun a c i x) in
          Stepped q x (acts_noted a xs (with_act act v.current) (i + 2) (act_noted a act i v.draft)).draft fs (later_part_blocks (cond d (onto (before act (part w m)) rest) (part w m ∷ onto (only act) rest)) b j q)
      at true h ih new =
          joins act xs q i x (acts_noted a xs (with_act act c) (i + 2) y).draft (later_part_blocks (onto (before act (part w m)) rest) b j q)
          (subst (λ (u : Current). Stepped q y (acts_noted a xs u (i + 2) y).draft (acts_faults k xs (i + 2)) (later_part_blocks (onto (before act (part w m)) rest) b j q)) (sym (current_part act o w m))
          (subst (λ (u : Part). Stepped q y (acts_noted a xs (current o (part (wrote act w) (moved act m))) (i + 2) y).draft (acts_faults k xs (i + 2)) (later_part_blocks (onto u rest) b j q)) (sym (before_part act w m)) (ih h)))
      at false h ih new =
          let n = numbered x.count in
          let later = later_part_blocks (onto (only act) rest) b i (suc q) in
          let last-draft = (acts_noted a xs (with_act act (fresh n)) (i + 2) z).draft in
          let new' : Stepped (suc q) z last-draft (acts_faults k xs (i + 2)) later =
          subst (λ (u : Current). Stepped (suc q) z (acts_noted a xs u (i + 2) z).draft (acts_faults k xs (i + 2)) later) (sym (current_part act n none none))
          (subst (λ (u : Part). Stepped (suc q) z (acts_noted a xs (current n new_part) (i + 2) z).draft (acts_faults k xs (i + 2)) (later_part_blocks (onto u rest) b i (suc q))) (sym (before_part act none none)) new) in
          subst (λ (bs : List (Block Text)). Stepped q x last-draft fs bs)
          (sym (ap (λ n'. part_blocks (onto (only act) rest) b n' q) (sym l) ∙ part_blocks_head (only act) rest b i q))
          (begins q i x last-draft begun' fs (record { index = i; kind = basic (first_of (onto (only act) rest) b (suc q)) }) later (begun_due q i (closed c (next x.count) x) unfilled e) refl refl
          (joins act xs (suc q) i begun' last-draft later new'))

  -- what a flow breaks
  flow_due : (f : Flow) (c : Current) (i : ℕ) (x : Draft) → due (flow_noted f c i x) ≡ plus (flow_faults k f i) (due x)
  flow_due accept c i x = refl
  flow_due reject c i x = refl
  flow_due (goto n) c i x = resolved_last k.names x.gotos (record { name = n.word; index = i + 1 }) x.violation ∙ met_plus (not (named n.word k.names)) (i + 1) Goto (due x)

  flow_kept : (f : Flow) (c : Current) (i : ℕ) (x : Draft) → ((flow_noted f c i x).count ≡ x.count) × ((flow_noted f c i x).names ≡ x.names)
  flow_kept accept c i x = (refl, refl)
  flow_kept reject c i x = (refl, refl)
  flow_kept (goto n) c i x = (refl, refl)

  -- what a while case's commands break
  once_due : (o : Once) (w : Owner) (i : ℕ) (x : Draft) → due (once_noted a o w i x) ≡ plus (once_faults k o i) (due x)
  once_due (once_change s m) w i x = symbol_due s (i + 1) x
  once_due (once_move d) w i x = refl

  pub once_kept : (o : Once) (w : Owner) (i : ℕ) (x : Draft) → ((once_noted a o w i x).count ≡ x.count) × ((once_noted a o w i x).names ≡ x.names)
  once_kept (once_change s m) w i x = (refl, refl)
  once_kept (once_move d) w i x = (refl, refl)

  abbrev coded : Bool → ℕ → ℕ → Seen → Draft → Draft
  coded b c i s x = cond b (flagged (s c) i Repeated x) (flagged true i Letter x)

  coded_due : (b : Bool) (c i : ℕ) (s : Seen) (x : Draft) → due (coded b c i s x) ≡ plus (cond b (flag (s c) i Repeated) (flag true i Letter)) (due x)
  coded_due true c i s x = resolved_met k.names x.gotos (s c) i Repeated x.violation
  coded_due false c i s x = resolved_met k.names x.gotos true i Letter x.violation

  coded_kept : (b : Bool) (c i : ℕ) (s : Seen) (x : Draft) → ((coded b c i s x).count ≡ x.count) × ((coded b c i s x).names ≡ x.names)
  coded_kept true c i s x = (refl, refl)
  coded_kept false c i s x = (refl, refl)

  pub codes_kept : (cs : List ℕ) (i : ℕ) (s : Seen) (x : Draft) → ((codes_noted a cs i s x).count ≡ x.count) × ((codes_noted a cs i s x).names ≡ x.names)
  codes_kept [] i s x = (refl, refl)
  codes_kept (c ∷ cs) i s x =
      let r = codes_kept cs (i + 2) (seen_too c s) (code_noted a c i s x) in
      let l = coded_kept (is_column a c) c i s x in
      (r.0 ∙ l.0, r.1 ∙ l.1)

  -- what a case's symbols break
  codes_due : (cs : List ℕ) (i : ℕ) (seen : List ℕ) (x : Draft) → due (codes_noted a cs i (mem seen) x) ≡ plus (symbol_faults k.symbols seen (indexed cs i)) (due x)
  codes_due [] i seen x = refl
  codes_due (c ∷ cs) i seen x =
      let f = cond (member c k.symbols) (flag (member c seen) i Repeated) (flag true i Letter) in
      let g = symbol_faults k.symbols (c ∷ seen) (indexed cs (i + 2)) in
      codes_due cs (i + 2) (c ∷ seen) (code_noted a c i (mem seen) x)
      ∙ ap (plus g) (coded_due (is_column a c) c i (mem seen) x ∙ ap (λ b. plus (cond b (flag (member c seen) i Repeated) (flag true i Letter)) (due x)) (cols c))
      ∙ plus_swap g f (due x) ∙ sym (plus-++ f g (due x))

  -- 10, by what was seen
  abbrev unseen : ℕ → List ℕ → List Violation
  unseen p seen = flag (not (all_seen (columns a.letters) (mem seen))) p Missing

  -- what the symbols of a switch break, after those seen
  abbrev shown : List ℕ → List (ℕ × ℕ) → ℕ → List Violation
  shown seen ss p = symbol_faults k.symbols seen ss ++ unseen p (pushed (codes_of ss) seen)

  shown_more : (seen cc : List ℕ) (i : ℕ) (ss : List (ℕ × ℕ)) (p : ℕ) → symbol_faults k.symbols seen (indexed cc i) ++ shown (pushed cc seen) ss p ≡ shown seen (indexed cc i ++ ss) p
  shown_more seen cc i ss p =
      sym (append_assoc (symbol_faults k.symbols seen (indexed cc i)) (symbol_faults k.symbols (pushed cc seen) ss) (unseen p (pushed (codes_of ss) (pushed cc seen))))
      ∙ ap₂ ◌++◌
      (ap (λ ds. symbol_faults k.symbols seen (indexed cc i) ++ symbol_faults k.symbols (pushed ds seen) ss) (sym (codes_indexed cc i)) ∙ sym (symbol_faults-++ k.symbols seen (indexed cc i) ss))
      (ap (unseen p) (sym (pushed-++ cc (codes_of ss) seen) ∙ ap (λ ds. pushed (ds ++ codes_of ss) seen) (sym (codes_indexed cc i)) ∙ ap (λ ds. pushed ds seen) (sym (codes-++ (indexed cc i) ss))))

  -- a case, and the others
  paired : (seen cc : List ℕ) (i : ℕ) (ss : List (ℕ × ℕ)) (p : ℕ) (c e l m : List Violation) (x y z : Option Violation)
      → y ≡ plus (symbol_faults k.symbols seen (indexed cc i)) (plus c (plus l x)) → z ≡ plus (shown (pushed cc seen) ss p) (plus e (plus m y))
      → z ≡ plus (shown seen (indexed cc i ++ ss) p) (plus (c ++ e) (plus (l ++ m) x))
  paired seen cc i ss p c e l m x y z h g =
      g ∙ ap (λ d. plus (shown (pushed cc seen) ss p) (plus e (plus m d))) h
      ∙ three_steps (symbol_faults k.symbols seen (indexed cc i)) c l (shown (pushed cc seen) ss p) e m x
      ∙ ap (λ fs. plus fs (plus (c ++ e) (plus (l ++ m) x))) (shown_more seen cc i ss p)

  unseen_covered : (cs : List ℕ) (p : ℕ) → unseen p (pushed cs []) ≡ flag (not (covered k.symbols cs)) p Missing
  unseen_covered cs p =
      ap (λ b. flag (not b) p Missing)
      (covers (mem (pushed cs []))
      ∙ all_seen_same k.symbols (mem (pushed cs [])) (mem cs) (λ d. pushed_member d cs [] ∙ ap (member d) (append-nil cs))
      ∙ sym (covered_seen k.symbols cs))

  -- from x to y: what symbols break, and besides these violations and these blocks
  abbrev Cased : List Violation → ℕ → Draft → Draft → List Violation → List (Block Text) → Type 0
  Cased ss q x y fs bs = (y.count ≡ q + length bs) × (due y ≡ plus ss (plus fs (plus (limits q bs) (due x)))) × (y.names ≡ x.names)

  mutual
    -- a body
    pub body_step : (b : Body) (o : Owner) (i q : ℕ) (x : Draft) → x.count ≡ q → Stepped q x (body_noted b a o i x) (body_faults b k i) (rest_blocks b i q)
    body_step (act_cases act xs cs) o i q x e =
        let w = acts_noted a (act ∷ xs) (fresh o) i x in
        let j = i + length (acts_words (act ∷ xs)) in
        let rest = later_part_blocks (parts (act ∷ xs) none) (some_case cs) i q in
        let r : Stepped q x w.draft (acts_faults k (act ∷ xs) i) rest =
        subst (λ (ps : List Part). Stepped q x w.draft (acts_faults k (act ∷ xs) i) (later_part_blocks ps (some_case cs) i q)) (onto_fresh act (parts xs none))
        (acts_step (act ∷ xs) none none o i i q x none (some_case cs) (let z : i ≡ i + 0 = omega arith in z) e) in
        let z = closed w.current (behind cs w.draft.count) w.draft in
        let s = switch_step cs j (q + length rest) z r.0 in
        let sb = switch_blocks cs j (q + length rest) in
        let sf = switch_faults k cs j ++ cases_faults cs k j in (
          s.0 ∙ (add_assoc q (length rest) (length sb) ∙ ap (λ n. q + n) (sym (length-append rest sb))),
          s.1 ∙ ap (λ d. plus sf (plus (limits (q + length rest) sb) d)) r.1
              ∙ two_steps (acts_faults k (act ∷ xs) i) (limits q rest) sf (limits (q + length rest) sb) (due x)
              ∙ ap₂ (λ (fs ls : List Violation). plus fs (plus ls (due x))) (sym (append_assoc (acts_faults k (act ∷ xs) i) (switch_faults k cs j) (cases_faults cs k j))) (sym (limits-++ a.width q rest sb)),
          s.2 ∙ r.2,
        )
    body_step (acts_flow xs f) o i q x e =
        let w = acts_noted a xs (fresh o) i x in
        let j = i + length (acts_words xs) in
        let rest = later_part_blocks (parts xs (some f)) false i q in
        let r : Stepped q x w.draft (acts_faults k xs i) rest =
        subst (λ (ps : List Part). Stepped q x w.draft (acts_faults k xs i) (later_part_blocks ps false i q)) (fresh_flow xs f)
        (acts_step xs none none o i i q x (some f) false (let z : i ≡ i + 0 = omega arith in z) e) in
        let n = flow_kept f w.current j w.draft in (
          n.0 ∙ r.0,
          flow_due f w.current j w.draft ∙ ap (plus (flow_faults k f j)) r.1 ∙ plus_swap (flow_faults k f j) (acts_faults k xs i) (plus (limits q rest) (due x)) ∙ sym (plus-++ (acts_faults k xs i) (flow_faults k f j) (plus (limits q rest) (due x))),
          n.1 ∙ r.2,
        )

    -- a case, after the codes seen
    pub case_step : (c : Case) (n : ℕ) (seen : List ℕ) (i q : ℕ) (x : Draft) → x.count ≡ q
        → Cased (symbol_faults k.symbols seen (indexed (case_codes c) (i + 1))) q x (case_noted c a n (mem seen) i x) (case_faults c k i) (case_blocks c i q)
    case_step (if ss b) n seen i q x e =
        let cc = symbols_codes ss in
        let j = i + length (symbols_words ss) + 2 in
        let y = codes_noted a cc (i + 1) (mem seen) x in
        let l = codes_kept cc (i + 1) (mem seen) x in
        let r = body_step b (arm_of n cc) j q y (l.0 ∙ e) in
        let sf = symbol_faults k.symbols seen (indexed cc (i + 1)) in
        let bl = limits q (rest_blocks b j q) in (
          r.0,
          r.1 ∙ ap (λ d. plus (body_faults b k j) (plus bl d)) (codes_due cc (i + 1) seen x) ∙ one_out sf (body_faults b k j) bl (due x) ∙ plus-++ sf (body_faults b k j) (plus bl (due x)),
          r.2 ∙ l.1,
        )
    case_step (while ss o) n seen i q x e =
        let cc = symbols_codes ss in
        let j = i + length (symbols_words ss) + 2 in
        let y = codes_noted a cc (i + 1) (mem seen) x in
        let l = codes_kept cc (i + 1) (mem seen) x in
        let h = once_kept o (arm_of n cc) j y in
        let sf = symbol_faults k.symbols seen (indexed cc (i + 1)) in (
          h.0 ∙ l.0 ∙ e ∙ (let z : q ≡ q + 0 = omega arith in z),
          once_due o (arm_of n cc) j y ∙ ap (plus (once_faults k o j)) (codes_due cc (i + 1) seen x) ∙ plus_swap (once_faults k o j) sf (due x),
          h.1 ∙ l.1,
        )

    -- the other cases, after the codes seen
    pub cases_step : (cs : Cases) (n p : ℕ) (seen : List ℕ) (i q : ℕ) (x : Draft) → x.count ≡ q
        → Cased (shown seen (switch_symbols cs i) p) q x (cases_noted cs a n p (mem seen) i x) (cases_faults cs k i) (cases_blocks cs i q)
    cases_step no_more n p seen i q x e = (omega arith, resolved_met k.names x.gotos (not (all_seen (columns a.letters) (mem seen))) p Missing x.violation, refl)
    cases_step (more c cs) n p seen i q x e =
        let cc = case_codes c in
        let j = i + length (case_words c) in
        let y = case_noted c a n (mem seen) i x in
        let inner = case_blocks c i q in
        let r = case_step c n seen i q x e in
        let q' = q + length inner in
        let t = cases_step cs n p (pushed cc seen) j q' y r.0 in
        let others = cases_blocks cs j q' in
        subst (λ (s : Seen). Cased (shown seen (switch_symbols (more c cs) i) p) q x (cases_noted cs a n p s j y) (cases_faults (more c cs) k i) (cases_blocks (more c cs) i q)) (sym (seen_pushed cc seen)) (
          t.0 ∙ (add_assoc q (length inner) (length others) ∙ ap (λ v. q + v) (sym (length-append inner others))),
          paired seen cc (i + 1) (switch_symbols cs j) p (case_faults c k i) (cases_faults cs k j) (limits q inner) (limits q' others) (due x) (due y) (due (cases_noted cs a n p (mem (pushed cc seen)) j y)) r.1 t.1
              ∙ ap (λ ls. plus (shown seen (switch_symbols (more c cs) i) p) (plus (cases_faults (more c cs) k i) (plus ls (due x)))) (sym (limits-++ a.width q inner others)),
          t.2 ∙ r.2,
        )

    -- a switch
    pub switch_step : (cs : Cases) (i q : ℕ) (x : Draft) → x.count ≡ q → Stepped q x (switch_noted cs a i x) (switch_faults k cs i ++ cases_faults cs k i) (switch_blocks cs i q)
    switch_step no_more i q x e = (omega arith, refl, refl)
    switch_step (more c cs) i q x e =
        let cc = case_codes c in
        let j = i + length (case_words c) in
        let n = x.count in
        let x' = begun a i (switch []) x in
        let y = case_noted c a n none_seen i x' in
        let inner = case_blocks c i (suc q) in
        let r = case_step c n [] i (suc q) x' (ap suc e) in
        let q' = suc q + length inner in
        let t = cases_step cs n i (pushed cc []) j q' y r.0 in
        let others = cases_blocks cs j q' in
        let z = cases_noted cs a n i (mem (pushed cc [])) j y in
        let ss = switch_symbols (more c cs) i in
        let over = flag (too_many (suc q) a.width) i Limit in
        let lim = limits (suc q) (inner ++ others) in
        let fs = cases_faults (more c cs) k i in
        subst (λ (s : Seen). Stepped q x (cases_noted cs a n i s j y) (switch_faults k (more c cs) i ++ fs) (switch_blocks (more c cs) i q)) (sym (seen_pushed cc [])) (
          t.0 ∙ (let g : suc q + length inner + length others ≡ q + suc (length inner + length others) = omega arith in g) ∙ ap (λ v. q + suc v) (sym (length-append inner others)),
          paired [] cc (i + 1) (switch_symbols cs j) i (case_faults c k i) (cases_faults cs k j) (limits (suc q) inner) (limits q' others) (due x') (due y) (due z) r.1 t.1
              ∙ ap₂ (λ (ls : List Violation) (d : Option Violation). plus (shown [] ss i) (plus fs (plus ls d))) (sym (limits-++ a.width (suc q) inner others)) (begun_due q i x (switch []) e)
              ∙ ap (plus (shown [] ss i)) (one_in fs lim over (due x))
              ∙ ap (λ us. plus (symbol_faults k.symbols [] ss ++ us) (plus fs (plus (over ++ lim) (due x)))) (unseen_covered (codes_of ss) i)
              ∙ sym (plus-++ (switch_faults k (more c cs) i) fs (plus (over ++ lim) (due x))),
          t.2 ∙ r.2,
        )

  -- what stands in a module
  pub inside_step : (v : Inside) (i q : ℕ) (x : Draft) → x.count ≡ q → Stepped q x (inside_noted a v i x) (inside_faults k v i) (inside_blocks v i q)
  inside_step (cases c cs) i q x e = switch_step (more c cs) i q x e
  inside_step (body b) i q x e =
      begins q i x (body_noted b a (numbered x.count) i (begun a i unfilled x)) (begun a i unfilled x) (body_faults b k i) (record { index = i; kind = basic (first_basic b (suc q)) }) (rest_blocks b i (suc q))
      (begun_due q i x unfilled e) refl refl (body_step b (numbered x.count) i (suc q) (begun a i unfilled x) (ap suc e))

  -- modules, after the names seen
  modules_step : (ms : List Module) (seen : List Text) (i q : ℕ) (x : Draft) → x.count ≡ q → ((v : Text) → named v (names_of x.names) ≡ named v seen)
      → (due (modules_noted a ms i x) ≡ plus (names_faults seen ms i ++ modules_faults k ms i) (plus (limits q (modules_blocks ms i q)) (due x))) × (names_of (modules_noted a ms i x).names ≡ names_of x.names ++ module_names ms)
  modules_step [] seen i q x e h = (refl, sym (append-nil (names_of x.names)))
  modules_step (module' n v ∷ ms) seen i q x e h =
      let w = n.word in
      let j = i + length (module_words (module' n v)) in
      let x' = name_noted w (i + 1) x in
      let y = inside_noted a v (i + 3) x' in
      let z = modules_noted a ms j y in
      let own = flag (named w (ACCEPT ∷ REJECT ∷ seen)) (i + 1) ModuleName in
      let r = inside_step v (i + 3) q x' e in
      let inner = inside_blocks v (i + 3) q in
      let q' = q + length inner in
      let others = modules_blocks ms j q' in
      let ns = names_of x.names in
      let names : names_of y.names ≡ ns ++ (w ∷ []) = ap names_of r.2 ∙ names_last x.names (record { name = w; first = x.count }) in
      let t = modules_step ms (w ∷ seen) j q' y r.0 (λ u. ap (named u) names ∙ named_last u ns w ∙ ap (λ b. same u w || b) (h u)) in
      let f = inside_faults k v (i + 3) in
      let nf = names_faults (w ∷ seen) ms j in
      let mf = modules_faults k ms j in
      let l = limits q inner in
      let m = limits q' others in
      let d = due x in
      let named-due : due x' ≡ plus own d = resolved_met k.names x.gotos (named w (ACCEPT ∷ REJECT ∷ ns)) (i + 1) ModuleName x.violation ∙ ap (λ b. plus (flag (same w ACCEPT || (same w REJECT || b)) (i + 1) ModuleName) d) (h w) in (
        t.0 ∙ plus-++ nf mf (plus m (due y))
            ∙ ap (λ o. plus nf (plus mf (plus m o))) (r.1 ∙ ap (λ o. plus f (plus l o)) named-due ∙ one_out own f l d ∙ plus-++ own f (plus l d))
            ∙ three_steps own f l nf mf m d
            ∙ sym (plus-++ (own ++ nf) (f ++ mf) (plus (l ++ m) d))
            ∙ ap (λ ls. plus ((own ++ nf) ++ (f ++ mf)) (plus ls d)) (sym (limits-++ a.width q inner others)),
        t.1 ∙ ap (λ (vs : List Text). vs ++ module_names ms) names ∙ append_assoc ns (w ∷ []) (module_names ms),
      )

-- the letters: each once, all counted
all_get : (xs : List ℕ) (s : Seen) (d : ℕ) → all_seen xs s ≡ true → member d xs ≡ true → s d ≡ true
all_get [] s d h m = absurd (false≢true m)
all_get (x ∷ xs) s d h m = at (eqb d x) refl m (all_get xs s d (and_parts (s x) (all_seen xs s) h).1)
  where
    at : (b : Bool) → eqb d x ≡ b → b || member d xs ≡ true → (member d xs ≡ true → s d ≡ true) → s d ≡ true
    at true e m' ih = ap s (eqb-true d x e) ∙ (and_parts (s x) (all_seen xs s) h).0
    at false e m' ih = ih m'

all_make : (xs : List ℕ) (s : Seen) → ((d : ℕ) → member d xs ≡ true → s d ≡ true) → all_seen xs s ≡ true
all_make [] s h = refl
all_make (x ∷ xs) s h = and_from (s x) (all_seen xs s) (h x (or_left (eqb x x) (member x xs) (eq-eqb x x refl))) (all_make xs s (λ d m. h d (or_right (eqb d x) (member d xs) m)))

-- the same columns, the same answer
pub same_all : (xs ys : List ℕ) (s : Seen) → ((d : ℕ) → member d xs ≡ member d ys) → all_seen xs s ≡ all_seen ys s
same_all xs ys s h = at (all_seen xs s) (all_seen ys s) refl refl
  where
    at : (b c : Bool) → all_seen xs s ≡ b → all_seen ys s ≡ c → b ≡ c
    at true true p q = refl
    at true false p q = sym (all_make ys s (λ d m. all_get xs s d p (h d ∙ m))) ∙ q
    at false true p q = sym p ∙ all_make xs s (λ d m. all_get ys s d q (sym (h d) ∙ m))
    at false false p q = refl

-- a letter is a column from then on
letter_member : (c d : ℕ) (ls : List ℕ) (b : Bool) → member c (columns ls) ≡ b → member d (columns (cond b ls (ls ++ c ∷ []))) ≡ eqb d c || member d (columns ls)
letter_member c d ls true h = at (eqb d c) refl
  where
    at : (b : Bool) → eqb d c ≡ b → member d (columns ls) ≡ b || member d (columns ls)
    at true e = ap (λ n. member n (columns ls)) (eqb-true d c e) ∙ h
    at false e = refl
letter_member c d ls false h = ap (member d) (append_assoc ls (c ∷ []) (0 ∷ [])) ∙ member_mid d c ls (0 ∷ [])

-- letters, after those seen
letters_step : (cs seen : List ℕ) (i : ℕ) (x : Letters) → ((d : ℕ) → member d (columns x.letters) ≡ member d seen)
    → ((letters_noted cs i x).violation ≡ plus (alphabet_faults seen cs i) x.violation) × ((letters_noted cs i x).width ≡ x.width + length cs) × ((d : ℕ) → member d (columns (letters_noted cs i x).letters) ≡ member d (cs ++ seen))
letters_step [] seen i x h = (refl, omega arith, h)
letters_step (c ∷ cs) seen i x h =
    let again = member c (columns x.letters) in
    let r = letters_step cs (c ∷ seen) (i + 2) (letter_noted c i x) (λ d. letter_member c d x.letters again refl ∙ ap (λ b. eqb d c || b) (h d)) in
    let f = flag (member c seen) i Alphabet in
    let g = alphabet_faults (c ∷ seen) cs (i + 2) in (
      r.0 ∙ ap (plus g) (met_plus again i Alphabet x.violation ∙ ap (λ b. plus (flag b i Alphabet) x.violation) (h c)) ∙ plus_swap g f x.violation ∙ sym (plus-++ f g x.violation),
      r.1 ∙ (let z : suc x.width + length cs ≡ x.width + suc (length cs) = omega arith in z),
      λ d. r.2 d ∙ member_mid d c cs seen,
    )

-- the letters of a program: what they break, how many columns there are, and which
pub program_letters : (cs : List ℕ)
    → let a = letters_noted cs 3 no_letters in
    (a.violation ≡ plus (alphabet_faults (0 ∷ []) cs 3) None) × (a.width ≡ length (columns cs)) × ((d : ℕ) → member d (columns a.letters) ≡ member d (columns cs))
program_letters cs =
    let r = letters_step cs (0 ∷ []) 3 no_letters (λ d. refl) in
    (r.0, r.1 ∙ (let z : 1 + length cs ≡ length cs + 1 = omega arith in z) ∙ sym (length-append cs (0 ∷ [])), r.2)

-- the lowest violation of a finished draft is the first of its program
pub tells_first : TellsFirst
tells_first (program ss m ms) = finish
  where
    t : Program
    t = program ss m ms

    cs : List ℕ
    cs = symbols_codes ss

    a : Letters
    a = letters_noted cs 3 no_letters

    at : ℕ
    at = modules_at t

    l : (a.violation ≡ plus (alphabet_faults (0 ∷ []) cs 3) None) × (a.width ≡ length (columns cs)) × ((d : ℕ) → member d (columns a.letters) ≡ member d (columns cs))
    l = program_letters cs

    y : Draft
    y = modules_noted a (m ∷ ms) at (empty_draft a)

    r : (resolved (module_names (m ∷ ms)) y.gotos y.violation ≡ plus (names_faults [] (m ∷ ms) at ++ modules_faults (known t) (m ∷ ms) at) (plus (limit_faults a.width 0 (drafts t)) a.violation)) × (names_of y.names ≡ module_names (m ∷ ms))
    r = modules_step (known t) a l.2 (λ s. same_all (columns a.letters) (columns cs) s l.2) (m ∷ ms) [] at 0 (empty_draft a) refl (λ v. refl)

    af : List Violation
    af = alphabet_faults (0 ∷ []) cs 3

    nf : List Violation
    nf = names_faults [] (m ∷ ms) at

    mf : List Violation
    mf = modules_faults (known t) (m ∷ ms) at

    lim : List Violation
    lim = limit_faults (length (columns cs)) 0 (drafts t)

    finish : told (draft_of (program ss m ms)) ≡ first_fault (program ss m ms)
    finish =
        ap (λ ns. resolved ns y.gotos y.violation) r.1 ∙ r.0
        ∙ ap₂ (λ (w : ℕ) (o : Option Violation). plus (nf ++ mf) (plus (limit_faults w 0 (drafts t)) o)) l.1 l.0
        ∙ one_out af (nf ++ mf) lim None
        ∙ ap (λ fs. plus fs (plus lim None)) (sym (append_assoc af nf mf))
        ∙ sym (plus-++ (af ++ nf ++ mf) lim None)
        ∙ plus_none (af ++ nf ++ mf ++ lim)
