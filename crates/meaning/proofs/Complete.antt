-- The completed text compiles, is short, and translates back.
use Rattle.std.proofs.Common.{◌≡◌, ℕ, zero, suc, ◌+◌, ◌*◌, ◌<◌, ◌≤◌, Bool, true, false, cond, eqb, ltb, leb, List, [], ◌∷◌, ◌++◌, map, length, Ok, codes, sym, refl, ap, ◌∙◌, subst, suc-mul, mul-add, mul_left_comm, arith, length-append}
use Rattle.std.proofs.lemmas.Bool.{agree_below_at, le-ltb, leb-true, ltb-false, or_parts, true≢false}
use Rattle.grammar.specs.Tree.{Direction as WrittenDirection, left, right, Flow, accept, reject, goto, Symbols, Cases, no_more, more, Module, Program}
use Rattle.grammar.specs.Automaton.{parsed, parse}
use Rattle.grammar.specs.Depth.{depth_limit, case_depth, cases_depth, inside_depth, modules_depth, depth}
use Rattle.grammar.specs.Places.{texts}
use Rattle.grammar.proofs.Laws.{reads_back}
use Rattle.meaning.specs.declared.faults.Cause.TheVariants.{Length}
use Rattle.meaning.specs.Codes.{symbol, spelled, member, columns}
use Rattle.meaning.specs.declared.machines.Next.{Next}
use Rattle.meaning.specs.declared.machines.Next.TheVariants.{To, Accept, Reject}
use Rattle.meaning.specs.declared.machines.Entry.{Entry}
use Rattle.meaning.specs.Faults.{faults, lowest}
use Rattle.words.specs.Bytes.{first_foreign}
use Rattle.words.specs.Words.{words}
use Rattle.meaning.specs.Outcome.{refused, ruled, worded, byted, outcome}
use Rattle.meaning.specs.Print.{state_name, if_case, while_case, next_case, case_of, row_cases, inside_of, row_module, row_modules, letter_symbols, of_modules, printed}
use Rattle.meaning.specs.Tables.{Each, NextWithin, EntryWithin, RowWithin, Within}
use Rattle.meaning.specs.Text.{Line, commas_text, symbols_text, move_line, flow_line, case_lines, cases_lines, inside_lines, module_lines, modules_lines, program_lines, text_of, text, RoundTrip}
use Rattle.meaning.proofs.Names.{each_columns, each_member}
use Rattle.meaning.proofs.Back.{Small}
use Rattle.meaning.proofs.Clean.{prints_back, Unseen, letters_differ}
use Rattle.meaning.proofs.Spell.{words_spell, text_words, none_foreign, text-++}
use Rattle.meaning.proofs.Texts.{program_spell}

case_shallow : (q c : ℕ) (e : Entry) (x : Next) → case_depth (next_case q c e x) ≡ 1
case_shallow q c e (To r) = at (eqb r q)
  where
    at : (b : Bool) → case_depth (cond b (while_case c e) (if_case c e (goto (state_name r)))) ≡ 1
    at true = refl
    at false = refl
case_shallow q c e Accept = refl
case_shallow q c e Reject = refl

cases_shallow : (q : ℕ) (cs : List ℕ) (es : List Entry) → cases_depth (row_cases q cs es) ≤ 1
cases_shallow q [] es = omega arith
cases_shallow q (c ∷ cs) [] = omega arith
cases_shallow q (c ∷ cs) (e ∷ es) = omega (arith, case_shallow q c e e.next, cases_shallow q cs es)

inside_shallow : (cs : Cases) → cases_depth cs ≤ 1 → inside_depth (inside_of cs) ≤ 1
inside_shallow no_more h = omega arith
inside_shallow (more c cs) h = h

modules_shallow : (cols : List ℕ) (q : ℕ) (rows : List (List Entry)) → modules_depth (row_modules cols q rows) ≤ 1
modules_shallow cols q [] = omega arith
modules_shallow cols q (es ∷ rest) = omega (arith, inside_shallow (row_cases q cols es) (cases_shallow q cols es), modules_shallow cols (suc q) rest)

program_shallow : (ss : Symbols) (ms : List Module) → modules_depth ms ≤ 1 → depth (of_modules ss ms) ≤ depth_limit
program_shallow ss [] h = omega arith
program_shallow ss (m ∷ ms) h = omega arith

-- lengths
symbol_short : (c : ℕ) → c ≤ 36 → length (symbol c).word ≤ 5
symbol_short c h = leb-true (length (symbol c).word) 5 (agree_below_at (λ x. leb (length (symbol x).word) 5) (λ _. true) 37 c refl (omega arith))

name_short : (q : ℕ) → q < 128 → length (state_name q).word ≤ 4
name_short q h = leb-true (length (state_name q).word) 4 (agree_below_at (λ x. leb (length (state_name x).word) 4) (λ _. true) 128 q refl h)

move_short : (d : WrittenDirection) → length (move_line d) ≤ 10
move_short left = omega arith
move_short right = omega arith

line_length : (l : Line) (bs : List ℕ) → length (l ++ 10 ∷ bs) ≡ length l + suc (length bs)
line_length l bs = length-append l (10 ∷ bs)

if_short : (c : ℕ) (e : Entry) (f : Flow) → c ≤ 36 → e.write ≤ 36 → length (flow_line f) ≤ 9 → length (text_of (case_lines (if_case c e f))) ≤ 49
if_short c e f h w l =
    let s = symbol_short c h in
    let v = symbol_short e.write w in
    let m = move_short (spelled e.direction) in
    simp length-append (omega arith)

flow_short : (r : ℕ) → r < 128 → length (flow_line (goto (state_name r))) ≤ 9
flow_short r h = omega (arith, name_short r h)

while_short : (c : ℕ) (e : Entry) → c ≤ 36 → e.write ≤ 36 → length (text_of (case_lines (while_case c e))) ≤ 49
while_short c e h w =
    let s = symbol_short c h in
    let v = symbol_short e.write w in
    let m = move_short (spelled e.direction) in
    simp length-append (omega arith)

case_short : (q c : ℕ) (e : Entry) (x : Next) → c ≤ 36 → e.write ≤ 36 → NextWithin 128 x → length (text_of (case_lines (next_case q c e x))) ≤ 49
case_short q c e (To r) h w l = at (eqb r q)
  where
    at : (b : Bool) → length (text_of (case_lines (cond b (while_case c e) (if_case c e (goto (state_name r)))))) ≤ 49
    at true = while_short c e h w
    at false = if_short c e (goto (state_name r)) h w (flow_short r l)
case_short q c e Accept h w l = if_short c e accept h w (omega arith)
case_short q c e Reject h w l = if_short c e reject h w (omega arith)

within_128 : (n : ℕ) → n ≤ 128 → (x : Next) → NextWithin n x → NextWithin 128 x
within_128 n h (To r) l = omega arith
within_128 n h Accept l = tt
within_128 n h Reject l = tt

text_length : (ks ls : List Line) → length (text_of (ks ++ ls)) ≡ length (text_of ks) + length (text_of ls)
text_length ks ls = ap length (text-++ ks ls) ∙ length-append (text_of ks) (text_of ls)

module _ (cols : List ℕ) (n : ℕ) (small : Small cols) (few : n ≤ 128) where
  cases_short : (q : ℕ) (cs : List ℕ) (es : List Entry) → Small cs → Each (EntryWithin cols n) es → length (text_of (cases_lines (row_cases q cs es))) ≤ 49 * length cs
  cases_short q [] es s w = omega arith
  cases_short q (c ∷ cs) [] s w = omega arith
  cases_short q (c ∷ cs) (e ∷ es) s w =
      omega (
        arith,
        text_length (case_lines (case_of q c e)) (cases_lines (row_cases q cs es)),
        case_short q c e e.next s.0 (each_member (λ x. x ≤ 36) e.write cols small w.0.writes) (within_128 n few e.next w.0.leads),
        cases_short q cs es s.1 w.1,
      )

  inside_short : (cs : Cases) (k : ℕ) → 1 ≤ k → length (text_of (cases_lines cs)) ≤ 49 * k → length (text_of (inside_lines (inside_of cs))) ≤ 49 * k
  inside_short no_more k o h = omega arith
  inside_short (more c cs) k o h = h

  module_short : (q : ℕ) (es : List Entry) → q < 128 → 1 ≤ length cols → RowWithin cols n es → length (text_of (module_lines (row_module cols q es))) ≤ 16 + 49 * length cols
  module_short q es h o w =
      let m = name_short q h in
      let ls = inside_lines (inside_of (row_cases q cols es)) in
      let i = inside_short (row_cases q cols es) (length cols) o (cases_short q cols es small w.each) in
      let t : length (text_of (ls ++ (125 ∷ []) ∷ [])) ≡ length (text_of ls) + 2 = text_length ls ((125 ∷ []) ∷ []) in
      simp length-append (omega (arith, t, i, m))

  modules_short : (q : ℕ) (rows : List (List Entry)) → q + length rows ≤ 128 → 1 ≤ length cols → Each (RowWithin cols n) rows → length (text_of (modules_lines (row_modules cols q rows))) ≤ length rows * (16 + 49 * length cols)
  modules_short q [] h o w = omega arith
  modules_short q (es ∷ rest) h o w =
      omega (
        arith,
        text_length (module_lines (row_module cols q es)) (modules_lines (row_modules cols (suc q) rest)),
        module_short q es (omega arith) o w.0,
        modules_short (suc q) rest (omega arith) o w.1,
        suc-mul (length rest) (16 + 49 * length cols),
      )

letter_short : (c : ℕ) → c ≤ 36 → member c (0 ∷ []) ≡ false → length (symbol c).word ≤ 1
letter_short zero h m = absurd (true≢false m)
letter_short (suc c) h m = leb-true (length (symbol (suc c)).word) 1 (agree_below_at (λ x. leb (length (symbol (suc x)).word) 1) (λ _. true) 36 c refl (omega arith))

commas_short : (cs : List ℕ) → Small cs → Unseen (0 ∷ []) cs → length (commas_text (map symbol cs)) ≤ 3 * length cs
commas_short [] s u = omega arith
commas_short (c ∷ cs) s u = omega (arith, length-append (symbol c).word (commas_text (map symbol cs)), letter_short c s.0 u.0, commas_short cs s.1 u.1)

alphabet_short : (cs : List ℕ) → 1 ≤ length cs → Small cs → Unseen (0 ∷ []) cs → length (symbols_text (letter_symbols cs)) + 2 ≤ 3 * length cs
alphabet_short [] l s u = absurd (omega arith)
alphabet_short (c ∷ cs) l s u = omega (arith, length-append (symbol c).word (commas_text (map symbol cs)), letter_short c s.0 u.0, commas_short cs s.1 u.1)

columns_length : (letters : List ℕ) → length (columns letters) ≡ length letters + 1
columns_length letters = length-append letters (0 ∷ [])

first_line : (l : Line) (ls : List Line) → length (text_of ((codes "alphabet = {" ++ (l ++ codes "}")) ∷ ls)) ≡ length l + 14 + length (text_of ls)
first_line l ls = simp length-append (omega arith)

bound : (a letters n all ms : ℕ) → a + 2 ≤ 3 * letters → letters ≤ 36 → n ≤ 128 → all ≤ 1024 → ms ≤ n * 16 + 49 * all → a + 14 + ms ≤ 52344
bound a letters n all ms p q r s t = omega arith

-- with the letters and rows of a table
short_by : (letters : List ℕ) (rows : List (List Entry)) → Within (record { letters = letters; rows = rows }) → length (text (record { letters = letters; rows = rows })) ≤ 52344
short_by letters [] w = let s : 1 ≤ 0 = w.stated in absurd (omega arith)
short_by letters (es ∷ rest) w =
    let rows : List (List Entry) = es ∷ rest in
    let cols = columns letters in
    let n = length rows in
    let width = length cols in
    let l = or_parts (ltb 128 n) (ltb 1024 (n * width)) w.few in
    let f : n ≤ 128 = ltb-false 128 n l.0 in
    let g : n * width ≤ 1024 = ltb-false 1024 (n * width) l.1 in
    let ms = modules_lines (row_modules cols 0 rows) in
    let m : length (text_of ms) ≤ n * (16 + 49 * width) = modules_short cols n (each_columns letters w.codes) f 0 rows (omega arith) (omega (arith, columns_length letters)) w.rows in
    let d : n * (16 + 49 * width) ≡ n * 16 + 49 * (n * width) = mul-add n 16 (49 * width) ∙ ap (λ x. n * 16 + x) (mul_left_comm n 49 width) in
    let a = alphabet_short letters w.lettered w.codes (letters_differ letters w.differ).1 in
    subst (λ (x : ℕ). x ≤ 52344) (sym (first_line (symbols_text (letter_symbols letters)) ms))
    (bound (length (symbols_text (letter_symbols letters))) (length letters) n (n * width) (length (text_of ms)) a w.most f g (subst (λ (x : ℕ). length (text_of ms) ≤ x) d m))

read_back : (p : Program) → depth p ≤ depth_limit → parse (texts (words (text_of (program_lines p)))) ≡ parsed p
read_back p h =
    ap parse (words_spell (text_of (program_lines p)) ∙ text_words (program_lines p) ∙ (program_spell p).words) ∙ reads_back p h

pub accepted_back : (p : Program) → depth p ≤ depth_limit → faults p ≡ [] → length (text_of (program_lines p)) ≤ 60000 → outcome (text_of (program_lines p)) ≡ Ok p
accepted_back p h f l =
    let src = text_of (program_lines p) in
    ap (λ b. cond b (refused Length 60000) (byted src (first_foreign src))) (le-ltb 60000 (length src) l)
    ∙ ap (byted src) (none_foreign src (program_spell p).bytes)
    ∙ ap (worded src) (read_back p h)
    ∙ ap (λ fs. ruled src p (lowest fs)) f

pub round_trip : RoundTrip
round_trip t w =
    let b = prints_back t w in
    let s = short_by t.letters t.rows w in
    record {
      accepted = accepted_back (printed t) (program_shallow (letter_symbols t.letters) (row_modules (columns t.letters) 0 t.rows) (modules_shallow (columns t.letters) 0 t.rows)) b.0 (omega (arith, s));
      back = b.1;
      short = s;
    }
