-- The text of a program has the program's words.
use Rattle.std.proofs.Common.{◌≡◌, ℕ, true, ◌||◌, ◌⊎◌, List, [], ◌∷◌, ◌++◌, sym, refl, ap, ◌∙◌, subst, ap₂, inl, inr, append_assoc, append-nil}
use mathlib.Core.Option.{none, some}
use Rattle.std.proofs.lemmas.Bool.{and_parts, and_from, or_left, or_right, or_cases, false≢true}
use Rattle.words.specs.Bytes.{Text, between, is_alpha}
use Rattle.words.specs.Vocabulary.{Symbol, Name, OPEN, CLOSE, COMMA, EQUALS, ALPHABET, MODULE, IF, WHILE, CHANGETO, GOTO, BLANK, same, alphas, is_name_text, is_letter_text}
use Rattle.grammar.specs.Tree.{Direction as WrittenDirection, left, right, Act, change, move, Flow, accept, reject, goto, Once, once_change, once_move, Symbols, symbols, Body, act_cases, acts_flow, Case, if, while, Cases, no_more, more, Inside, cases, body, Module, module', Program, program}
use Rattle.grammar.specs.Render.{move_words, act_words, acts_words, flow_words, once_words, commas_words, symbols_words, braced, body_words, case_words, cases_words, inside_words, module_words, modules_words, render}
use Rattle.meaning.specs.Text.{Line, commas_text, symbols_text, move_line, act_line, acts_lines, flow_line, once_lines, closed, body_lines, case_lines, cases_lines, inside_lines, module_lines, modules_lines, program_lines}
use Rattle.grammar.proofs.Tests.{same_true}
use Rattle.meaning.proofs.Names.{passes}
use Rattle.meaning.proofs.Spell.{is_part_byte, all_part, one_word, at_space, at_comma, at_close, familiar-++, parts_familiar, Says, Spells, no_lines, one_line, lines-++, last_line}

alone : (w : Text) → all_part w ≡ true → ¬ (w ≡ []) → Says w (w ∷ [])
alone [] h n = absurd (n refl)
alone (b ∷ bs) h n = record { words = one_word b bs h; bytes = parts_familiar (b ∷ bs) h }

alphas_part : (w : Text) → alphas w ≡ true → all_part w ≡ true
alphas_part [] h = refl
alphas_part (c ∷ cs) h = let p = and_parts (is_alpha c) (alphas cs) h in and_from (is_part_byte c) (all_part cs) (or_left (is_alpha c) (between 48 57 c) p.0) (alphas_part cs p.1)

says_name : (w : Text) → is_name_text w ≡ true → Says w (w ∷ [])
says_name [] h = absurd (false≢true h)
says_name (c ∷ cs) h = record { words = one_word c cs (alphas_part (c ∷ cs) h); bytes = parts_familiar (c ∷ cs) (alphas_part (c ∷ cs) h) }

name_says : (n : Name) → Says n.word (n.word ∷ [])
name_says n = says_name n.word (passes n)

part_letter : (c : ℕ) → between 97 122 c || between 48 57 c ≡ true → is_part_byte c ≡ true
part_letter c h = at (or_cases (between 97 122 c) (between 48 57 c) h)
  where
    at : (between 97 122 c ≡ true) ⊎ (between 48 57 c ≡ true) → is_part_byte c ≡ true
    at (inl p) = or_left (between 97 122 c || between 65 90 c) (between 48 57 c) (or_left (between 97 122 c) (between 65 90 c) p)
    at (inr p) = or_right (between 97 122 c || between 65 90 c) (between 48 57 c) p

says_letter : (w : Text) → is_letter_text w ≡ true → Says w (w ∷ [])
says_letter [] h = absurd (false≢true h)
says_letter (c ∷ []) h = let p : all_part (c ∷ []) ≡ true = and_from (is_part_byte c) true (part_letter c h) refl in record { words = one_word c [] p; bytes = parts_familiar (c ∷ []) p }
says_letter (c ∷ d ∷ cs) h = absurd (false≢true h)

says_blank : Says BLANK (BLANK ∷ [])
says_blank = record { words = refl; bytes = refl }

says_symbol : (w : Text) → (is_letter_text w ≡ true) ⊎ (same w BLANK ≡ true) → Says w (w ∷ [])
says_symbol w (inl h) = says_letter w h
says_symbol w (inr h) = subst (λ (v : Text). Says v (v ∷ [])) (sym (same_true w BLANK h)) says_blank

symbol_says : (s : Symbol) → Says s.word (s.word ∷ [])
symbol_says s = says_symbol s.word (or_cases (is_letter_text s.word) (same s.word BLANK) (passes s))

commas_say : (s : Symbol) (ss : List Symbol) → Says (s.word ++ commas_text ss) (s.word ∷ commas_words ss)
commas_say s [] = subst (λ (v : Line). Says v (s.word ∷ [])) (sym (append-nil s.word)) (symbol_says s)
commas_say s (s' ∷ ss) =
    let ih = commas_say s' ss in
    record {
      words = at_comma s.word [] (32 ∷ (s'.word ++ commas_text ss)) ∙ ap₂ (λ (v w : List Text). v ++ COMMA ∷ w) (symbol_says s).words ih.words;
      bytes = familiar-++ s.word (44 ∷ 32 ∷ (s'.word ++ commas_text ss)) (symbol_says s).bytes ih.bytes;
    }

symbols_say : (ss : Symbols) → Says (symbols_text ss) (symbols_words ss)
symbols_say (symbols s ss) = commas_say s ss

-- with an opening brace behind
opened : (l : Line) (ws : List Text) → Says l ws → Says (l ++ 32 ∷ 123 ∷ []) (ws ++ OPEN ∷ [])
opened l ws p = record { words = at_space l [] (123 ∷ []) ∙ ap (λ v. v ++ OPEN ∷ []) p.words; bytes = familiar-++ l (32 ∷ 123 ∷ []) p.bytes refl }

if_says : (ss : Symbols) → let o = opened (symbols_text ss) (symbols_words ss) (symbols_say ss) in Says (105 ∷ 102 ∷ 32 ∷ (symbols_text ss ++ 32 ∷ 123 ∷ [])) ((IF ∷ symbols_words ss) ++ OPEN ∷ [])
if_says ss = let o = opened (symbols_text ss) (symbols_words ss) (symbols_say ss) in record { words = ap (λ (v : List Text). IF ∷ v) o.words; bytes = o.bytes }

while_says : (ss : Symbols) → Says (119 ∷ 104 ∷ 105 ∷ 108 ∷ 101 ∷ 32 ∷ (symbols_text ss ++ 32 ∷ 123 ∷ [])) ((WHILE ∷ symbols_words ss) ++ OPEN ∷ [])
while_says ss = let o = opened (symbols_text ss) (symbols_words ss) (symbols_say ss) in record { words = ap (λ (v : List Text). WHILE ∷ v) o.words; bytes = o.bytes }

module_says : (n : Name) → Says (109 ∷ 111 ∷ 100 ∷ 117 ∷ 108 ∷ 101 ∷ 32 ∷ (n.word ++ 32 ∷ 123 ∷ [])) ((MODULE ∷ n.word ∷ []) ++ OPEN ∷ [])
module_says n = let o = opened n.word (n.word ∷ []) (name_says n) in record { words = ap (λ (v : List Text). MODULE ∷ v) o.words; bytes = o.bytes }

move_says : (d : WrittenDirection) → Says (move_line d) (move_words d)
move_says left = record { words = refl; bytes = refl }
move_says right = record { words = refl; bytes = refl }

act_says : (a : Act) → Says (act_line a) (act_words a)
act_says (change s) = let p = symbol_says s in record { words = ap (λ (v : List Text). CHANGETO ∷ v) p.words; bytes = p.bytes }
act_says (move d) = move_says d

flow_says : (f : Flow) → Says (flow_line f) (flow_words f)
flow_says accept = record { words = refl; bytes = refl }
flow_says reject = record { words = refl; bytes = refl }
flow_says (goto n) = let p = name_says n in record { words = ap (λ (v : List Text). GOTO ∷ v) p.words; bytes = p.bytes }

acts_spell : (xs : List Act) → Spells (acts_lines xs) (acts_words xs)
acts_spell [] = no_lines
acts_spell (a ∷ xs) = one_line (act_line a) (acts_lines xs) (act_words a) (acts_words xs) (act_says a) (acts_spell xs)

once_spell : (o : Once) → Spells (once_lines o) (once_words o)
once_spell (once_change s none) = last_line (act_line (change s)) (act_words (change s)) (act_says (change s))
once_spell (once_change s (some d)) = one_line (act_line (change s)) (move_line d ∷ []) (act_words (change s)) (move_words d) (act_says (change s)) (last_line (move_line d) (move_words d) (move_says d))
once_spell (once_move d) = last_line (move_line d) (move_words d) (move_says d)

closed_spell : (l : Line) (ls : List Line) (vs ws : List Text) → Says l (vs ++ OPEN ∷ []) → Spells ls ws → Spells (closed l ls) (vs ++ braced ws)
closed_spell l ls vs ws p q =
    subst (Spells (closed l ls)) (append_assoc vs (OPEN ∷ []) (ws ++ CLOSE ∷ []))
    (one_line l (ls ++ (125 ∷ []) ∷ []) (vs ++ OPEN ∷ []) (ws ++ CLOSE ∷ []) p (lines-++ ls ((125 ∷ []) ∷ []) ws (CLOSE ∷ []) q (record { words = refl; bytes = refl })))

mutual
  body_spell : (b : Body) → Spells (body_lines b) (body_words b)
  body_spell (act_cases a xs cs) = lines-++ (acts_lines (a ∷ xs)) (cases_lines cs) (acts_words (a ∷ xs)) (cases_words cs) (acts_spell (a ∷ xs)) (cases_spell cs)
  body_spell (acts_flow xs f) = lines-++ (acts_lines xs) (flow_line f ∷ []) (acts_words xs) (flow_words f) (acts_spell xs) (last_line (flow_line f) (flow_words f) (flow_says f))

  case_spell : (c : Case) → Spells (case_lines c) (case_words c)
  case_spell (if ss b) = closed_spell _ (body_lines b) (IF ∷ symbols_words ss) (body_words b) (if_says ss) (body_spell b)
  case_spell (while ss o) = closed_spell _ (once_lines o) (WHILE ∷ symbols_words ss) (once_words o) (while_says ss) (once_spell o)

  cases_spell : (cs : Cases) → Spells (cases_lines cs) (cases_words cs)
  cases_spell no_more = no_lines
  cases_spell (more c cs) = lines-++ (case_lines c) (cases_lines cs) (case_words c) (cases_words cs) (case_spell c) (cases_spell cs)

inside_spell : (i : Inside) → Spells (inside_lines i) (inside_words i)
inside_spell (cases c cs) = lines-++ (case_lines c) (cases_lines cs) (case_words c) (cases_words cs) (case_spell c) (cases_spell cs)
inside_spell (body b) = body_spell b

module_spell : (m : Module) → Spells (module_lines m) (module_words m)
module_spell (module' n i) = closed_spell _ (inside_lines i) (MODULE ∷ n.word ∷ []) (inside_words i) (module_says n) (inside_spell i)

modules_spell : (ms : List Module) → Spells (modules_lines ms) (modules_words ms)
modules_spell [] = no_lines
modules_spell (m ∷ ms) = lines-++ (module_lines m) (modules_lines ms) (module_words m) (modules_words ms) (module_spell m) (modules_spell ms)

alphabet_says : (ss : Symbols) → Says (97 ∷ 108 ∷ 112 ∷ 104 ∷ 97 ∷ 98 ∷ 101 ∷ 116 ∷ 32 ∷ 61 ∷ 32 ∷ 123 ∷ (symbols_text ss ++ 125 ∷ [])) (ALPHABET ∷ EQUALS ∷ braced (symbols_words ss))
alphabet_says ss =
    let p = symbols_say ss in
    record {
      words = ap (λ (v : List Text). ALPHABET ∷ EQUALS ∷ OPEN ∷ v) (at_close (symbols_text ss) [] ∙ ap (λ v. v ++ CLOSE ∷ []) p.words);
      bytes = familiar-++ (symbols_text ss) (125 ∷ []) p.bytes refl;
    }

pub program_spell : (t : Program) → Spells (program_lines t) (render t)
program_spell (program ss m ms) =
    subst (Spells (program_lines (program ss m ms))) (sym (append_assoc (ALPHABET ∷ EQUALS ∷ braced (symbols_words ss)) (module_words m) (modules_words ms)))
    (one_line _ (modules_lines (m ∷ ms)) (ALPHABET ∷ EQUALS ∷ braced (symbols_words ss)) (module_words m ++ modules_words ms) (alphabet_says ss) (modules_spell (m ∷ ms)))
