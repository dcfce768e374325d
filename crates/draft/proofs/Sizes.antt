-- The fewest bytes of the pieces of a program.
use Rattle.std.proofs.Common.{◌≡◌, ℕ, ◌+◌, ◌*◌, ◌≤◌, Bool, true, false, cond, ◌&&◌, ◌||◌, T, List, [], ◌∷◌, ◌++◌, length, sym, refl, ap, subst, ap₂, ⊎_elim, arith}
use Rattle.std.proofs.lemmas.Bool.{and_parts, or_cases, or_left, or_right, false≢true}
use Rattle.words.specs.declared.bytes.Class.TheVariants.{Part, Mark, Separator, Foreign}
use Rattle.words.specs.Bytes.{Text, between, is_alpha, is_digit, is_mark_byte, is_separator, class}
use Rattle.words.specs.Vocabulary.{Name, Symbol, is_name_text, alphas, is_letter_text, is_symbol_text, same, BLANK, OPEN, CLOSE, EQUALS, ALPHABET, MODULE, IF, WHILE, CHANGETO, MOVE, LEFT, RIGHT, ACCEPT, REJECT, GOTO}
use Rattle.grammar.specs.Tree.{left, right, Act, change, move, Flow, accept, reject, goto, Symbols, symbols, Body, act_cases, acts_flow, Case, if, while, Cases, no_more, more, Inside, cases, body, Module, module', Program, program}
use Rattle.grammar.specs.Render.{render, act_words, acts_words, flow_words, once_words, commas_words, symbols_words, braced, body_words, case_words, cases_words, inside_words, module_words, modules_words, alphabet_words}
use Rattle.grammar.proofs.Tests.{same_true}
use Rattle.meaning.specs.Blocks.{all_modules}
use Rattle.draft.specs.Bounds.{is_part, begins_part, gap, least_bytes, flow_gotos, body_gotos, case_gotos, cases_gotos, inside_gotos, modules_gotos, Pieces}

-- a word of letters and digits, and not empty
abbrev Wordy : Text → Type 0
Wordy w = (1 ≤ length w) × (begins_part w ≡ true)

part_byte : (b : ℕ) → is_alpha b || is_digit b ≡ true → is_part (class b) ≡ true
part_byte b h = ap (λ x. is_part (cond x Part (cond (is_mark_byte b) Mark (cond (is_separator b) Separator Foreign)))) h

passed : (b : Bool) → T b → b ≡ true
passed true h = refl
passed false h = absurd h

name_wordy : (w : Text) → is_name_text w ≡ true → Wordy w
name_wordy [] h = absurd (false≢true h)
name_wordy (b ∷ bs) h = (omega arith, part_byte b (or_left (is_alpha b) (is_digit b) (and_parts (is_alpha b) (alphas bs) h).0))

letter_wordy : (w : Text) → is_letter_text w ≡ true → Wordy w
letter_wordy [] h = absurd (false≢true h)
letter_wordy (b ∷ []) h = (omega arith, part_byte b (⊎_elim (λ l. or_left (is_alpha b) (is_digit b) (or_left (between 97 122 b) (between 65 90 b) l)) (λ d. or_right (is_alpha b) (is_digit b) d) (or_cases (between 97 122 b) (is_digit b) h)))
letter_wordy (b ∷ c ∷ bs) h = absurd (false≢true h)

symbol_wordy : (w : Text) → is_symbol_text w ≡ true → Wordy w
symbol_wordy w h = ⊎_elim (letter_wordy w) (λ e. subst Wordy (sym (same_true w BLANK e)) (omega arith, refl)) (or_cases (is_letter_text w) (same w BLANK) h)

name_is : (n : Name) → Wordy n.word
name_is n = name_wordy n.word (passed (is_name_text n.word) n.fits)

symbol_is : (s : Symbol) → Wordy s.word
symbol_is s = symbol_wordy s.word (passed (is_symbol_text s.word) s.fits)

-- words one after another take what each of them takes
together : (xs ys : List Text) → least_bytes xs + least_bytes ys ≤ least_bytes (xs ++ ys)
together [] ys = omega arith
together (x ∷ []) [] = omega arith
together (x ∷ []) (y ∷ ys) = omega arith
together (v ∷ w ∷ xs) ys = let z = together (w ∷ xs) ys in omega (arith, z)

-- a keyword and the word behind it
behind : (k w : Text) (ws : List Text) → begins_part k ≡ true → Wordy w → length k + 2 ≤ least_bytes (k ∷ w ∷ ws)
behind k w ws p q =
    let g : gap k w ≡ 1 = ap₂ (λ (a b : Bool). cond (a && b) 1 0) p q.1 in
    let z = together (w ∷ []) ws in
    omega (arith, g, q.0, z)

braced_takes : (ws : List Text) → least_bytes ws + 2 ≤ least_bytes (braced ws)
braced_takes ws =
    let y = together (OPEN ∷ ws) (CLOSE ∷ []) in
    let z = together (OPEN ∷ []) ws in
    let o : length OPEN ≡ 1 = refl in
    let c : length CLOSE ≡ 1 = refl in
    omega (arith, y, z, o, c)

act_takes : (a : Act) → 6 ≤ least_bytes (act_words a)
act_takes (change s) = let z = behind CHANGETO s.word [] refl (symbol_is s) in let l : length CHANGETO ≡ 8 = refl in omega (arith, z, l)
act_takes (move left) = let z : least_bytes (MOVE ∷ LEFT ∷ []) ≡ 9 = refl in omega (arith, z)
act_takes (move right) = let z : least_bytes (MOVE ∷ RIGHT ∷ []) ≡ 10 = refl in omega (arith, z)

flow_takes : (f : Flow) → 6 ≤ least_bytes (flow_words f)
flow_takes accept = let z : least_bytes (ACCEPT ∷ []) ≡ 6 = refl in omega (arith, z)
flow_takes reject = let z : least_bytes (REJECT ∷ []) ≡ 6 = refl in omega (arith, z)
flow_takes (goto n) = let z = behind GOTO n.word [] refl (name_is n) in let l : length GOTO ≡ 4 = refl in omega (arith, z, l)

flow_one : (f : Flow) → flow_gotos f ≤ 1
flow_one accept = omega arith
flow_one reject = omega arith
flow_one (goto n) = omega arith

body_least : (b : Body) → 6 ≤ least_bytes (body_words b)
body_least (act_cases a xs cs) =
    let y = together (act_words a ++ acts_words xs) (cases_words cs) in
    let z = together (act_words a) (acts_words xs) in
    omega (arith, y, z, act_takes a)
body_least (acts_flow xs f) = let z = together (acts_words xs) (flow_words f) in omega (arith, z, flow_takes f)

-- a case takes what stands in it, the braces, its keyword and a symbol
if_takes : (ss : Symbols) (b : Body) → least_bytes (body_words b) + 6 ≤ least_bytes (case_words (if ss b))
if_takes (symbols s ss) b =
    let y = together (IF ∷ s.word ∷ commas_words ss) (braced (body_words b)) in
    let z = behind IF s.word (commas_words ss) refl (symbol_is s) in
    let l : length IF ≡ 2 = refl in
    omega (arith, y, z, l, braced_takes (body_words b))

case_least : (c : Case) → 6 ≤ least_bytes (case_words c)
case_least (if ss b) = omega (arith, if_takes ss b)
case_least (while (symbols s ss) o) =
    let y = together (WHILE ∷ s.word ∷ commas_words ss) (braced (once_words o)) in
    let z = behind WHILE s.word (commas_words ss) refl (symbol_is s) in
    let l : length WHILE ≡ 5 = refl in
    omega (arith, y, z, l)

mutual
  body_takes : (b : Body) → 12 * body_gotos b ≤ least_bytes (body_words b) + 6
  body_takes (act_cases a xs cs) =
      let y = together (act_words a ++ acts_words xs) (cases_words cs) in
      let z = cases_take cs in
      omega (arith, y, z)
  body_takes (acts_flow xs f) = let z = together (acts_words xs) (flow_words f) in omega (arith, z, flow_takes f, flow_one f)

  case_takes : (c : Case) → 12 * case_gotos c ≤ least_bytes (case_words c)
  case_takes (if ss b) = let z = body_takes b in omega (arith, z, if_takes ss b)
  case_takes (while ss o) = omega arith

  cases_take : (cs : Cases) → 12 * cases_gotos cs ≤ least_bytes (cases_words cs)
  cases_take no_more = omega arith
  cases_take (more c cs) =
      let x = case_takes c in
      let y = cases_take cs in
      let z = together (case_words c) (cases_words cs) in
      omega (arith, x, y, z)

inside_least : (v : Inside) → 6 ≤ least_bytes (inside_words v)
inside_least (cases c cs) = let z = together (case_words c) (cases_words cs) in omega (arith, z, case_least c)
inside_least (body b) = body_least b

inside_takes : (v : Inside) → 12 * inside_gotos v ≤ least_bytes (inside_words v) + 6
inside_takes (cases c cs) = let z = cases_take (more c cs) in omega (arith, z)
inside_takes (body b) = body_takes b

-- a module takes what stands in it, the braces, its keyword and its name
module_more : (n : Name) (v : Inside) → least_bytes (inside_words v) + 10 ≤ least_bytes (module_words (module' n v))
module_more n v =
    let y = together (MODULE ∷ n.word ∷ []) (braced (inside_words v)) in
    let z = behind MODULE n.word [] refl (name_is n) in
    let l : length MODULE ≡ 6 = refl in
    omega (arith, y, z, l, braced_takes (inside_words v))

module_takes : (m : Module) → 16 ≤ least_bytes (module_words m)
module_takes (module' n v) = omega (arith, module_more n v, inside_least v)

gotos_take : (m : Module) → 12 * modules_gotos (m ∷ []) ≤ least_bytes (module_words m)
gotos_take (module' n v) = omega (arith, module_more n v, inside_takes v)

modules_take : (ms : List Module) → 16 * length ms ≤ least_bytes (modules_words ms)
modules_take [] = omega arith
modules_take (m ∷ ms) = let y = modules_take ms in let z = together (module_words m) (modules_words ms) in omega (arith, y, z, module_takes m)

modules_gotos_take : (ms : List Module) → 12 * modules_gotos ms ≤ least_bytes (modules_words ms)
modules_gotos_take [] = omega arith
modules_gotos_take (module' n v ∷ ms) =
    let y = modules_gotos_take ms in
    let z = together (module_words (module' n v)) (modules_words ms) in
    omega (arith, y, z, gotos_take (module' n v))

alphabet_takes : (ss : Symbols) → 12 ≤ least_bytes (alphabet_words ss)
alphabet_takes (symbols s ss) =
    let y = together (ALPHABET ∷ EQUALS ∷ []) (braced (symbols_words (symbols s ss))) in
    let z = together (s.word ∷ []) (commas_words ss) in
    let l : least_bytes (ALPHABET ∷ EQUALS ∷ []) ≡ 9 = refl in
    omega (arith, y, z, l, (symbol_is s).0, braced_takes (symbols_words (symbols s ss)))

-- a program takes what its alphabet and its modules take
program_more : (ss : Symbols) (m : Module) (ms : List Module) → 12 + least_bytes (module_words m) + least_bytes (modules_words ms) ≤ least_bytes (render (program ss m ms))
program_more ss m ms =
    let y = together (alphabet_words ss ++ module_words m) (modules_words ms) in
    let z = together (alphabet_words ss) (module_words m) in
    omega (arith, y, z, alphabet_takes ss)

pub pieces : Pieces
pieces = record {
  body_takes = body_takes;
  case_takes = case_takes;
  module_takes = module_takes;
  gotos_take = gotos_take;
  program_takes = of_modules;
  program_gotos = of_gotos;
}
  where
    of_modules : (t : Program) → 12 + 16 * length (all_modules t) ≤ least_bytes (render t)
    of_modules (program ss m ms) = let y = modules_take ms in omega (arith, program_more ss m ms, module_takes m, y)

    of_gotos : (t : Program) → 12 * modules_gotos (all_modules t) ≤ least_bytes (render t)
    of_gotos (program ss (module' n v) ms) = let y = modules_gotos_take ms in omega (arith, program_more ss (module' n v) ms, gotos_take (module' n v), y)
